-- The commands that cut a text: where it is cut, and which slots the parts go to. `text` are the bytes that are cut.
use Rattle.std.specs.Prelude.{◌≡◌, ℕ, ◌+◌, ◌-◌, ◌==◌, ◌⊎◌, Bool, true, false, List, [], ◌∷◌, length, Option}
use Rattle.std.specs.List.{list_any}
use Rattle.hip_bytes.specs.Cost.{CutNeedsMemory}
use Rattle.hip_bytes.specs.Handle.{Handle}
use Rattle.hip_bytes.specs.declared.kind.Kind.{Kind}
use Rattle.hip_cuts.specs.Cut.{LeavesBetween, LeavesEnd, LeavesStart}
use Rattle.hip_cuts.specs.Piece.{IsPartAt}
use Rattle.hip_match.specs.Characters.{char_ends}
use Rattle.hip_match.specs.Leftmost.{leftmost}
use Rattle.hip_match.specs.Pieces.{split, split_inclusive, split_terminator, splitn, rsplit, rsplit_terminator, rsplitn}
use Rattle.hip_match.specs.Rightmost.{rightmost}
use Rattle.hip_match.specs.Runs.{lines, split_whitespace, split_ascii_whitespace}
use Rattle.hip_match.specs.Texts.{text_ends}
use Rattle.hip_match.specs.Trims.{strip_prefix, strip_suffix, split_once, rsplit_once}
use Rattle.hip_match.specs.declared.draw.End.{End}
use Rattle.hip_match.specs.declared.draw.End.TheVariants.{Front, Back}
use Rattle.hipstr.specs.Slot.{SlotState, Replaces}
use Rattle.hipstr.specs.declared.command.How.{How}
use Rattle.hipstr.specs.declared.command.How.TheVariants.{Split, Inclusive, Terminator, SplitN, Matches, RSplit, RTerminator, RSplitN, RMatches, Lines, Words, AsciiWords}
use Rattle.hipstr.specs.declared.command.Pat.{Pat}
use Rattle.hipstr.specs.declared.command.Pat.TheVariants.{Text, Char, Set}
use Rattle.hipstr.specs.declared.command.Side.{Side}
use Rattle.hipstr.specs.declared.command.Side.TheVariants.{Start, End as end_side, Both}

-- where the pattern occurs in a text
abbrev pub occurrences : Pat → List ℕ → ℕ → Option ℕ
occurrences (Text pattern) text = text_ends pattern.now text
occurrences (Char c) text = char_ends (λ d. d == c) text
occurrences (Set set) text = char_ends (λ d. list_any (λ c. c == d) set.now) text

-- the range that a trim of these ends leaves
abbrev pub Leaves : Side → (ℕ → Option ℕ) → ℕ → ℕ × ℕ → Type 0
Leaves Start ends n range = LeavesEnd ends n range
Leaves end_side ends n range = LeavesStart ends n range
Leaves Both ends n range = LeavesBetween ends n range

abbrev pub is_both : Side → Bool
is_both Start = false
is_both end_side = false
is_both Both = true

-- a text may not be trimmed at both ends of what isn't one character
abbrev pub trims_one_end : Side → Pat → Bool
trims_one_end side (Text pattern) = is_both side
trims_one_end side (Char c) = false
trims_one_end side (Set set) = false

-- the range without one occurrence at that end
abbrev pub stripped : End → (ℕ → Option ℕ) → ℕ → Option (ℕ × ℕ)
stripped Front ends n = strip_prefix ends n
stripped Back ends n = strip_suffix ends n

-- the ranges before and behind the first occurrence from that end
abbrev pub parted : End → (ℕ → Option ℕ) → ℕ → Option ((ℕ × ℕ) × (ℕ × ℕ))
parted Front ends n = split_once ends n
parted Back ends n = rsplit_once ends n

-- the ranges of the pieces
abbrev pub pieces_of : How → List ℕ → List (ℕ × ℕ)
pieces_of (Split pattern) text = split (occurrences pattern text) (length text)
pieces_of (Inclusive pattern) text = split_inclusive (occurrences pattern text) (length text)
pieces_of (Terminator pattern) text = split_terminator (occurrences pattern text) (length text)
pieces_of (SplitN count pattern) text = splitn count (occurrences pattern text) (length text)
pieces_of (Matches pattern) text = leftmost (occurrences pattern text) (length text)
pieces_of (RSplit pattern) text = rsplit (occurrences pattern text) (length text)
pieces_of (RTerminator pattern) text = rsplit_terminator (occurrences pattern text) (length text)
pieces_of (RSplitN count pattern) text = rsplitn count (occurrences pattern text) (length text)
pieces_of (RMatches pattern) text = rightmost (occurrences pattern text) (length text)
pieces_of Lines text = lines text
pieces_of Words text = split_whitespace text
pieces_of AsciiWords text = split_ascii_whitespace text

-- pieces that come from the front alone: those by a text, and those of a number at most
abbrev pub is_text : Pat → Bool
is_text (Text pattern) = true
is_text (Char c) = false
is_text (Set set) = false

abbrev pub has_one_end : How → Bool
has_one_end (Split pattern) = is_text pattern
has_one_end (Inclusive pattern) = is_text pattern
has_one_end (Terminator pattern) = is_text pattern
has_one_end (SplitN count pattern) = true
has_one_end (Matches pattern) = is_text pattern
has_one_end (RSplit pattern) = is_text pattern
has_one_end (RTerminator pattern) = is_text pattern
has_one_end (RSplitN count pattern) = true
has_one_end (RMatches pattern) = is_text pattern
has_one_end how = false

abbrev pub has_back : List End → Bool
has_back [] = false
has_back (Back ∷ script) = true
has_back (Front ∷ script) = has_back script

-- the slots from `first` on became the source's parts at these ranges, one after another; every other slot is as it was
abbrev pub PutsParts : Handle → List SlotState → ℕ → List (ℕ × ℕ) → List SlotState → Type 0
PutsParts source old first [] new = new ≡ old
PutsParts source old first (range ∷ ranges) new =
    (between : List SlotState) × Replaces old between first true (IsPartAt source range) × PutsParts source between (first + 1) ranges new

-- a part at one of these ranges may need memory
abbrev pub SomeNeedsMemory : Kind → List (ℕ × ℕ) → Type 0
SomeNeedsMemory kind [] = ⊥
SomeNeedsMemory kind (range ∷ ranges) = CutNeedsMemory kind (range.1 - range.0) ⊎ SomeNeedsMemory kind ranges
