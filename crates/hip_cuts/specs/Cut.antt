-- The part of a text, or of bytes, that a trim or a strip leaves, and the two parts of one that is split once: the source's parts at the
-- ranges that Rust's documentation of `str`, or of `[u8]`, tells. `shown` says what is seen of a source.
use Rattle.std.specs.Prelude.{◌≡◌, ℕ, ◌+◌, ◌-◌, ◌<◌, ◌⊎◌, Bool, true, List, ◌∷◌, ◌++◌, encode_utf8, length, slice_index, Option, Some, None, Result, Ok, Err, IfOk, IfSome}
use Rattle.std.specs.Char.{is_ascii_whitespace, is_whitespace}
use Rattle.std.specs.List.{AllByRecursion, flat_map}
use Rattle.hip_text.specs.Handle.{Handle}
use Rattle.hip_text.specs.Cost.{CutNeedsMemory, PartCounts, cut_cost}
use Rattle.hip_text.specs.Meter.{RisesAtLeast, RisesAtMost}
use Rattle.hip_match.specs.Bytes.{byte_ends}
use Rattle.hip_match.specs.Characters.{char_ends}
use Rattle.hip_match.specs.Parted.{IsParted, Lacks}
use Rattle.hip_match.specs.Texts.{text_ends}
use Rattle.hip_match.specs.Trims.{TrimsFront, TrimsBack}
use Rattle.hip_cuts.specs.Piece.{IsPartAt, part_cost}

-- where an occurrence that starts at a position of a text ends
abbrev pub Ends : Type 0
Ends = List ℕ → ℕ → Option ℕ

-- where white space ends: the characters that Unicode calls `White_Space`
abbrev pub space_ends : Ends
space_ends = char_ends is_whitespace

-- where ASCII white space ends in bytes: the bytes that `u8::is_ascii_whitespace` tells
abbrev pub ascii_space_ends : Ends
ascii_space_ends = byte_ends is_ascii_whitespace

-- a search, by where the occurrences in a text end, and by its length
abbrev pub Finds : Type 0 → Type 0
Finds A = (ℕ → Option ℕ) → ℕ → A

-- a range that there may be, and two
abbrev pub FindsOne : Type 0
FindsOne = Finds (Option (ℕ × ℕ))

abbrev pub Two : Type 0
Two = (ℕ × ℕ) × (ℕ × ℕ)

abbrev pub FindsTwo : Type 0
FindsTwo = Finds (Option Two)

-- a range of which something holds
abbrev pub Leaving : Type 1
Leaving = (ℕ → Option ℕ) → ℕ → ℕ × ℕ → Type 0

-- the range that trims of the front, of the end and of both leave of n bytes
abbrev pub LeavesEnd : Leaving
LeavesEnd ends n range = TrimsFront ends range.0 × (range.1 ≡ n)

abbrev pub LeavesStart : Leaving
LeavesStart ends n range = (range.0 ≡ 0) × TrimsBack ends 0 n range.1

abbrev pub LeavesBetween : Leaving
LeavesBetween ends n range = TrimsFront ends range.0 × TrimsBack ends range.0 n range.1

-- the finding of a search in a source
abbrev pub found_in : {A : Type 0} → Handle → Finds A → Ends → A
found_in source find ends = find (ends source.items) (length source.items)

abbrev pub IsLeft : Handle → Leaving → Ends → ℕ × ℕ → Type 0
IsLeft source Leaves ends range = Leaves (ends source.items) (length source.items) range

-- the part at the range that is left
abbrev pub TrimAnswers : {T E : Type 0} → (T → Handle) → Leaving → Ends → Handle → Result T E → Type 0
TrimAnswers shown Leaves ends source (Ok part) =
    (range : ℕ × ℕ) × IsLeft source Leaves ends range × IsPartAt source range (shown part)
TrimAnswers shown Leaves ends source (Err error) =
    (range : ℕ × ℕ) × IsLeft source Leaves ends range × CutNeedsMemory source.kind (range.1 - range.0)

abbrev pub TrimCosts : Bool → Leaving → Ends → Handle → ℕ → ℕ → Type 0
TrimCosts shares Leaves ends source before after =
    (range : ℕ × ℕ) × IsLeft source Leaves ends range × RisesAtMost before after (part_cost shares source range)

-- the part at a range that there may be
abbrev pub PartIfAny : {T E : Type 0} → (T → Handle) → Option (ℕ × ℕ) → Handle → Result (Option T) E → Type 0
PartIfAny shown None source result = result ≡ Ok None
PartIfAny shown (Some range) source (Ok (Some part)) = IsPartAt source range (shown part)
PartIfAny shown (Some range) source (Ok None) = ⊥
PartIfAny shown (Some range) source (Err error) = CutNeedsMemory source.kind (range.1 - range.0)

abbrev pub PartIfAnyCosts : Bool → Option (ℕ × ℕ) → Handle → ℕ → ℕ → Type 0
PartIfAnyCosts shares None source before after = after ≡ before
PartIfAnyCosts shares (Some range) source before after = RisesAtMost before after (part_cost shares source range)

-- the parts at two ranges that there may be
abbrev pub PartsIfAny : {T E : Type 0} → (T → Handle) → Option Two → Handle → Result (Option (T × T)) E → Type 0
PartsIfAny shown None source result = result ≡ Ok None
PartsIfAny shown (Some (front, back)) source (Ok (Some parts)) =
    IsPartAt source front (shown parts.0) × IsPartAt source back (shown parts.1)
PartsIfAny shown (Some (front, back)) source (Ok None) = ⊥
PartsIfAny shown (Some (front, back)) source (Err error) =
    CutNeedsMemory source.kind (front.1 - front.0) ⊎ CutNeedsMemory source.kind (back.1 - back.0)

abbrev pub PartsIfAnyCosts : Bool → Option Two → Handle → ℕ → ℕ → Type 0
PartsIfAnyCosts shares None source before after = after ≡ before
PartsIfAnyCosts shares (Some (front, back)) source before after =
    RisesAtMost before after (part_cost shares source front + part_cost shares source back)

-- like `PartCounts`, of two parts
abbrev pub PartsCount : Bool → Handle → Handle → Handle → ℕ → ℕ → Type 0
PartsCount shares source front back before after =
    RisesAtLeast before after (cut_cost shares source.kind (length front.items) + cut_cost shares source.kind (length back.items))

-- the part that is left was counted, the part that there may be, or the two parts
abbrev pub TrimCounts : {T E : Type 0} → (T → Handle) → Bool → Handle → Result T E → ℕ → ℕ → Type 0
TrimCounts shown shares source result before after = IfOk result (λ part. PartCounts shares source (shown part) before after)

abbrev pub StripCounts : {T E : Type 0} → (T → Handle) → Bool → Handle → Result (Option T) E → ℕ → ℕ → Type 0
StripCounts shown shares source result before after =
    IfOk result (λ found. IfSome found (λ part. PartCounts shares source (shown part) before after))

abbrev pub OnceCounts : {T E : Type 0} → (T → Handle) → Bool → Handle → Result (Option (T × T)) E → ℕ → ℕ → Type 0
OnceCounts shown shares source result before after =
    IfOk result (λ found. IfSome found (λ parts. PartsCount shares source (shown parts.0) (shown parts.1) before after))

-- the part, or the parts, at the ranges that are found in the source
abbrev pub StripAnswers : {T E : Type 0} → (T → Handle) → FindsOne → Ends → Handle → Result (Option T) E → Type 0
StripAnswers shown strip ends source result = PartIfAny shown (found_in source strip ends) source result

abbrev pub StripCosts : Bool → FindsOne → Ends → Handle → ℕ → ℕ → Type 0
StripCosts shares strip ends source before after = PartIfAnyCosts shares (found_in source strip ends) source before after

abbrev pub OnceAnswers : {T E : Type 0} → (T → Handle) → FindsTwo → Ends → Handle → Result (Option (T × T)) E → Type 0
OnceAnswers shown split ends source result = PartsIfAny shown (found_in source split ends) source result

abbrev pub OnceCosts : Bool → FindsTwo → Ends → Handle → ℕ → ℕ → Type 0
OnceCosts shares split ends source before after = PartsIfAnyCosts shares (found_in source split ends) source before after

-- the two parts of a text that is split once by another, or nothing where it doesn't occur
abbrev pub PartedAs : {E : Type 0} → List ℕ → List ℕ → Result (Option (Handle × Handle)) E → Type 0
PartedAs pattern text (Ok (Some parts)) = IsParted pattern text parts.0.items parts.1.items
PartedAs pattern text (Ok None) = Lacks pattern text
PartedAs pattern text (Err error) = Unit {0}

-- like `PartedAs`, but at the last place where the other starts
pub record IsPartedLast (pattern text front back : List ℕ) : Type 0 where
  pub joined : text ≡ front ++ (pattern ++ back)
  pub last : (k : ℕ) → length front < k → text_ends pattern text k ≡ None

abbrev pub PartedLastAs : {E : Type 0} → List ℕ → List ℕ → Result (Option (Handle × Handle)) E → Type 0
PartedLastAs pattern text (Ok (Some parts)) = IsPartedLast pattern text parts.0.items parts.1.items
PartedLastAs pattern text (Ok None) = Lacks pattern text
PartedLastAs pattern text (Err error) = Unit {0}

-- a text without another at its front, or at its end; or nothing where it doesn't begin, or end, with that
abbrev pub StrippedFront : {E : Type 0} → List ℕ → List ℕ → Result (Option Handle) E → Type 0
StrippedFront prefix text (Ok (Some part)) = text ≡ prefix ++ part.items
StrippedFront prefix text (Ok None) = (rest : List ℕ) → text ≡ prefix ++ rest → ⊥
StrippedFront prefix text (Err error) = Unit {0}

abbrev pub StrippedBack : {E : Type 0} → List ℕ → List ℕ → Result (Option Handle) E → Type 0
StrippedBack suffix text (Ok (Some part)) = text ≡ part.items ++ suffix
StrippedBack suffix text (Ok None) = (front : List ℕ) → text ≡ front ++ suffix → ⊥
StrippedBack suffix text (Err error) = Unit {0}

-- the byte stands nowhere among these
abbrev pub LacksByte : ℕ → List ℕ → Type 0
LacksByte byte bytes = (k : ℕ) → k < length bytes → slice_index bytes k ≡ byte → ⊥

-- the two parts of bytes that are split once at a byte, which isn't in the first; or nothing where the bytes lack it
abbrev pub PartedAtByte : {E : Type 0} → ℕ → List ℕ → Result (Option (Handle × Handle)) E → Type 0
PartedAtByte byte bytes (Ok (Some parts)) = (bytes ≡ parts.0.items ++ byte ∷ parts.1.items) × LacksByte byte parts.0.items
PartedAtByte byte bytes (Ok None) = LacksByte byte bytes
PartedAtByte byte bytes (Err error) = Unit {0}

-- like `PartedAtByte`, but the byte isn't in the second
abbrev pub PartedAtLastByte : {E : Type 0} → ℕ → List ℕ → Result (Option (Handle × Handle)) E → Type 0
PartedAtLastByte byte bytes (Ok (Some parts)) = (bytes ≡ parts.0.items ++ byte ∷ parts.1.items) × LacksByte byte parts.1.items
PartedAtLastByte byte bytes (Ok None) = LacksByte byte bytes
PartedAtLastByte byte bytes (Err error) = Unit {0}

-- white space alone: characters that Unicode calls `White_Space`, in UTF-8; and bytes that `u8::is_ascii_whitespace` tells
abbrev pub IsSpace : List ℕ → Type 0
IsSpace bytes = (cs : List ℕ) × AllByRecursion (λ c. is_whitespace c ≡ true) cs × (bytes ≡ flat_map encode_utf8 cs)

abbrev pub IsAsciiSpace : List ℕ → Type 0
IsAsciiSpace bytes = AllByRecursion (λ b. is_ascii_whitespace b ≡ true) bytes

-- the whole is what is left of it, with space at both ends, at its front, or at its end
abbrev pub LeftBetween : {E : Type 0} → (List ℕ → Type 0) → List ℕ → Result Handle E → Type 0
LeftBetween Space whole (Ok part) = (front back : List ℕ) × Space front × Space back × (whole ≡ front ++ (part.items ++ back))
LeftBetween Space whole (Err error) = Unit {0}

abbrev pub LeftBehind : {E : Type 0} → (List ℕ → Type 0) → List ℕ → Result Handle E → Type 0
LeftBehind Space whole (Ok part) = (front : List ℕ) × Space front × (whole ≡ front ++ part.items)
LeftBehind Space whole (Err error) = Unit {0}

abbrev pub LeftBefore : {E : Type 0} → (List ℕ → Type 0) → List ℕ → Result Handle E → Type 0
LeftBefore Space whole (Ok part) = (back : List ℕ) × Space back × (whole ≡ part.items ++ back)
LeftBefore Space whole (Err error) = Unit {0}

-- a text, without white space
abbrev pub TrimmedBetween : {E : Type 0} → List ℕ → Result Handle E → Type 0
TrimmedBetween text result = LeftBetween IsSpace text result

abbrev pub TrimmedStart : {E : Type 0} → List ℕ → Result Handle E → Type 0
TrimmedStart text result = LeftBehind IsSpace text result

abbrev pub TrimmedEnd : {E : Type 0} → List ℕ → Result Handle E → Type 0
TrimmedEnd text result = LeftBefore IsSpace text result
