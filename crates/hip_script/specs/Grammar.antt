-- The lines of a script, and what they say (docs/PROGRAM.md): a line is a name and the words of its row, with one space between two.
use Rattle.std.specs.Prelude.{◌≡◌, ℕ, ◌+◌, List, [], ◌∷◌, Option, None, Some, Result, Ok, Err, codes, if◌then◌else◌, refl}
use Rattle.std.specs.Option.{option_map}
use Rattle.std.specs.Str.{chars, is_utf8}
use Rattle.std.specs.declared.ops.Bound.TheVariants.{Included, Unbounded}
use Rattle.hipstr.specs.declared.End.{End}
use Rattle.hipstr.specs.declared.End.TheVariants.{Front, Back}
use Rattle.hipstr.specs.declared.command.Side.{Side}
use Rattle.hipstr.specs.declared.command.Side.TheVariants.{Start as start_side, End as end_side, Both as both_sides}
use Rattle.hip_script.specs.Lines.{lines}
use Rattle.hip_script.specs.Spoken.{Fields, Quoted, Spoken, bytes_in, parting, pattern_in, separator_in}
use Rattle.hip_script.specs.Spoken.Pattern.{TextOf, CharOf, AnyOf}
use Rattle.hip_script.specs.Spoken.Quoted.{Plainly, Sought}
use Rattle.hip_script.specs.Spoken.Spoken.{SayNew, SayInline, SayBorrow, SayCopy, SayRoom, SayClone, SaySlice, SayPush, SayPop, SayTruncate, SayClear, SayShrink, SayUpper, SayLower, SaySet, SayRepeat, SayJoin, SayMutate, SayOwned, SayText, SayBytes, SayTrim, SayTrimMatches, SayStrip, SayPieces, SayOnce, SayCompare, SayComparePath, SayLen, SayKind, SayCapacity, SayShow, SayCopied, SayFields}
use Rattle.hip_script.specs.Words.{◌>>=◌, Left, byte_of, ends_of, literal_at, look_up, number_of, range_of, said_at, next_word, decoded, number_after, at_dot}
use Rattle.hip_script.specs.declared.verb.Follows.{Follows}
use Rattle.hip_script.specs.declared.verb.Follows.TheVariants.{Nothing, APattern, CountAndPattern}
use Rattle.hip_script.specs.declared.verb.Quote.{Quote}
use Rattle.hip_script.specs.declared.verb.Quote.TheVariants.{Bytes as bytes_quote, Text as text_quote, Char as char_quote, Any as any_quote}
use Rattle.hip_script.specs.declared.verb.Verb.{Verb}
use Rattle.hip_script.specs.declared.verb.Verb.TheVariants.{New, Inline, Borrow, Copy, Room, Clone, Slice, Push, Pop, Truncate, Clear, Shrink, Upper, Lower, Set, Repeat, Join, Mutate, Owned, Text, Bytes, Trim, TrimMatches, Strip, Pieces, Once, Compare, ComparePath, Len, Kind, Capacity, Show, Copied, Fields as FieldsVerb}
use Rattle.hip_script.specs.declared.verb.Way.{Way}
use Rattle.hip_script.specs.declared.verb.Way.TheVariants.{Split, Inclusive, Terminator, SplitN, Matches, RSplit, RTerminator, RSplitN, RMatches, Lines, Words, AsciiWords}
use Rattle.hip_script.specs.declared.verb.Word.{Word}
use Rattle.hip_script.specs.declared.verb.Word.TheVariants.{Source, Target, Number, Byte, Range, Side as SideWord, End as EndWord, Quoted as Literal, Pattern as PatternWord, Way as WayWord, Ends}

-- a name, what it tells to do, and the words that follow it
abbrev pub row : List ℕ → Verb → List Word → List ℕ × (Verb × List Word)
row name verb words = (name, (verb, words))

abbrev pub literal : Word
literal = Literal bytes_quote

abbrev pub separator : Word
separator = Literal char_quote

-- every line that there is
abbrev pub rows : List (List ℕ × (Verb × List Word))
rows =
    row (codes "new") New (Target ∷ [])
    ∷ row (codes "inline") Inline (Target ∷ literal ∷ [])
    ∷ row (codes "borrow") Borrow (Target ∷ literal ∷ [])
    ∷ row (codes "copy") Copy (Target ∷ literal ∷ [])
    ∷ row (codes "room") Room (Target ∷ Number ∷ [])
    ∷ row (codes "clone") Clone (Source ∷ Target ∷ [])
    ∷ row (codes "slice") Slice (Source ∷ Target ∷ Range ∷ [])
    ∷ row (codes "push") Push (Target ∷ literal ∷ [])
    ∷ row (codes "pop") Pop (Target ∷ [])
    ∷ row (codes "truncate") Truncate (Target ∷ Number ∷ [])
    ∷ row (codes "clear") Clear (Target ∷ [])
    ∷ row (codes "shrink") Shrink (Target ∷ Number ∷ [])
    ∷ row (codes "upper") Upper (Target ∷ [])
    ∷ row (codes "lower") Lower (Target ∷ [])
    ∷ row (codes "set") Set (Target ∷ Number ∷ Byte ∷ [])
    ∷ row (codes "repeat") Repeat (Source ∷ Target ∷ Number ∷ [])
    ∷ row (codes "join") Join (Source ∷ Number ∷ literal ∷ Target ∷ [])
    ∷ row (codes "mutate") Mutate (Target ∷ literal ∷ [])
    ∷ row (codes "owned") Owned (Target ∷ [])
    ∷ row (codes "text") Text (Target ∷ [])
    ∷ row (codes "bytes") Bytes (Target ∷ [])
    ∷ row (codes "trim") Trim (Source ∷ Target ∷ SideWord ∷ [])
    ∷ row (codes "trimm") TrimMatches (Source ∷ Target ∷ SideWord ∷ PatternWord ∷ [])
    ∷ row (codes "strip") Strip (Source ∷ Target ∷ EndWord ∷ PatternWord ∷ [])
    ∷ row (codes "pieces") Pieces (Source ∷ WayWord ∷ Ends ∷ Target ∷ [])
    ∷ row (codes "once") Once (Source ∷ Target ∷ Number ∷ EndWord ∷ PatternWord ∷ [])
    ∷ row (codes "compare") Compare (Source ∷ Number ∷ [])
    ∷ row (codes "comparepath") ComparePath (Source ∷ Number ∷ [])
    ∷ row (codes "len") Len (Source ∷ [])
    ∷ row (codes "kind") Kind (Source ∷ [])
    ∷ row (codes "capacity") Capacity (Source ∷ [])
    ∷ row (codes "show") Show (Source ∷ [])
    ∷ row (codes "copied") Copied []
    ∷ row (codes "fields") FieldsVerb (Source ∷ separator ∷ [])
    ∷ []

-- the names of patterns, of ways to take a text apart with what follows each, of sides, and of ends
abbrev pub patterns : List (List ℕ × Quote)
patterns = (codes "text", text_quote) ∷ (codes "char", char_quote) ∷ (codes "any", any_quote) ∷ []

abbrev pub ways : List (List ℕ × (Way × Follows))
ways =
    (codes "split", (Split, APattern))
    ∷ (codes "inclusive", (Inclusive, APattern))
    ∷ (codes "terminator", (Terminator, APattern))
    ∷ (codes "splitn", (SplitN, CountAndPattern))
    ∷ (codes "matches", (Matches, APattern))
    ∷ (codes "rsplit", (RSplit, APattern))
    ∷ (codes "rterminator", (RTerminator, APattern))
    ∷ (codes "rsplitn", (RSplitN, CountAndPattern))
    ∷ (codes "rmatches", (RMatches, APattern))
    ∷ (codes "lines", (Lines, Nothing))
    ∷ (codes "words", (Words, Nothing))
    ∷ (codes "asciiwords", (AsciiWords, Nothing))
    ∷ []

abbrev pub sides : List (List ℕ × Side)
sides = (codes "start", start_side) ∷ (codes "end", end_side) ∷ (codes "both", both_sides) ∷ []

abbrev pub end_names : List (List ℕ × End)
end_names = (codes "front", Front) ∷ (codes "back", Back) ∷ []

-- the value of a literal's bytes: just bytes, a text, the one character of a text, or each character of one
abbrev pub only : List ℕ → Option Quoted
only [] = None
only (c ∷ []) = Some (Sought (CharOf c))
only (c ∷ d ∷ more) = None

abbrev pub text_quoted : Quote → List ℕ → Option Quoted
text_quoted bytes_quote text = Some (Plainly text)
text_quoted text_quote text = Some (Sought (TextOf text))
text_quoted char_quote text = only (chars text)
text_quoted any_quote text = Some (Sought (AnyOf (chars text)))

abbrev pub quoted_as : Quote → List ℕ → Option Quoted
quoted_as bytes_quote bytes = Some (Plainly bytes)
quoted_as quote bytes = if is_utf8 bytes then text_quoted quote bytes else None

abbrev pub quoted_at : Quote → Left → Option (Quoted × Left)
quoted_at quote left = do
  literal ← literal_at left
  quoted ← quoted_as quote literal.0
  Some (quoted, literal.1)

-- the words of a line, one after another
abbrev pub quoted_said : Quote → Fields → Left → Option (Fields × Left)
quoted_said quote fields left = option_map (λ found. (record fields { quoted = found.0 }, found.1)) (quoted_at quote left)

abbrev pub pattern_said : Fields → Left → Option (Fields × Left)
pattern_said fields left = said_at (λ word. look_up word patterns) left >>= λ found. quoted_said found.0 fields found.1

abbrev pub number_said : Fields → Left → Option (Fields × Left)
number_said fields left = option_map (λ found. (record fields { number = found.0 }, found.1)) (said_at number_of left)

abbrev pub follows_said : Follows → Fields → Left → Option (Fields × Left)
follows_said Nothing fields left = Some (fields, left)
follows_said APattern fields left = pattern_said fields left
follows_said CountAndPattern fields left = number_said fields left >>= λ said. pattern_said said.0 said.1

abbrev pub way_said : Fields → Left → Option (Fields × Left)
way_said fields left = said_at (λ word. look_up word ways) left >>= λ found. follows_said found.0.1 (record fields { way = found.0.0 }) found.1

abbrev pub word_said : Word → Fields → Left → Option (Fields × Left)
word_said Source fields left = option_map (λ found. (record fields { source = found.0 }, found.1)) (said_at number_of left)
word_said Target fields left = option_map (λ found. (record fields { target = found.0 }, found.1)) (said_at number_of left)
word_said Number fields left = number_said fields left
word_said Byte fields left = option_map (λ found. (record fields { byte = found.0 }, found.1)) (said_at byte_of left)
word_said Range fields left = option_map (λ found. (record fields { low = found.0.0; high = found.0.1 }, found.1)) (said_at range_of left)
word_said SideWord fields left = option_map (λ found. (record fields { side = found.0 }, found.1)) (said_at (λ word. look_up word sides) left)
word_said EndWord fields left = option_map (λ found. (record fields { end = found.0 }, found.1)) (said_at (λ word. look_up word end_names) left)
word_said (Literal quote) fields left = quoted_said quote fields left
word_said PatternWord fields left = pattern_said fields left
word_said WayWord fields left = way_said fields left
word_said Ends fields left = option_map (λ found. (record fields { ends = found.0 }, found.1)) (said_at ends_of left)

abbrev pub words_said : List Word → Fields → Left → Option (Fields × Left)
words_said [] fields left = Some (fields, left)
words_said (word ∷ words) fields left = word_said word fields left >>= λ said. words_said words said.0 said.1

abbrev pub no_fields : Fields
no_fields = record { source = 0; target = 0; number = 0; byte = 0; low = Unbounded; high = Unbounded; side = both_sides; end = Front; quoted = Plainly []; way = Lines; ends = [] }

-- the line that a verb and its arguments make
abbrev pub spoken : Verb → Fields → Spoken
spoken New f = SayNew f.target
spoken Inline f = SayInline f.target (bytes_in f.quoted)
spoken Borrow f = SayBorrow f.target (bytes_in f.quoted)
spoken Copy f = SayCopy f.target (bytes_in f.quoted)
spoken Room f = SayRoom f.target f.number
spoken Clone f = SayClone f.source f.target
spoken Slice f = SaySlice f.source f.target f.low f.high
spoken Push f = SayPush f.target (bytes_in f.quoted)
spoken Pop f = SayPop f.target
spoken Truncate f = SayTruncate f.target f.number
spoken Clear f = SayClear f.target
spoken Shrink f = SayShrink f.target f.number
spoken Upper f = SayUpper f.target
spoken Lower f = SayLower f.target
spoken Set f = SaySet f.target f.number f.byte
spoken Repeat f = SayRepeat f.source f.target f.number
spoken Join f = SayJoin f.source f.number (bytes_in f.quoted) f.target
spoken Mutate f = SayMutate f.target (bytes_in f.quoted)
spoken Owned f = SayOwned f.target
spoken Text f = SayText f.target
spoken Bytes f = SayBytes f.target
spoken Trim f = SayTrim f.source f.target f.side
spoken TrimMatches f = SayTrimMatches f.source f.target f.side (pattern_in f.quoted)
spoken Strip f = SayStrip f.source f.target f.end (pattern_in f.quoted)
spoken Pieces f = SayPieces f.source (parting f.way f.number (pattern_in f.quoted)) f.ends f.target
spoken Once f = SayOnce f.source f.target f.number f.end (pattern_in f.quoted)
spoken Compare f = SayCompare f.source f.number
spoken ComparePath f = SayComparePath f.source f.number
spoken Len f = SayLen f.source
spoken Kind f = SayKind f.source
spoken Capacity f = SayCapacity f.source
spoken Show f = SayShow f.source
spoken Copied f = SayCopied
spoken FieldsVerb f = SayFields f.source (separator_in f.quoted)

-- nothing may follow
abbrev pub ended : Verb → Fields × Left → Option Spoken
ended verb (fields, None) = Some (spoken verb fields)
ended verb (fields, Some rest) = None

abbrev pub row_said : Verb × List Word → Left → Option Spoken
row_said row left = words_said row.1 no_fields left >>= ended row.0

unfoldable pub line_said : List ℕ → Option Spoken
line_said line = said_at (λ word. look_up word rows) (Some line) >>= λ found. row_said found.0 found.1

-- a line before others, or the number of the first that is none
abbrev pub then_said : Option Spoken → ℕ → Result (List Spoken) ℕ → Result (List Spoken) ℕ
then_said None number more = Err number
then_said (Some said) number (Ok later) = Ok (said ∷ later)
then_said (Some said) number (Err later) = Err later

-- lines that are counted from a number on; an empty one counts, and says nothing
abbrev pub lines_said : ℕ → List (List ℕ) → Result (List Spoken) ℕ
lines_said number [] = Ok []
lines_said number ([] ∷ more) = lines_said (number + 1) more
lines_said number ((b ∷ bs) ∷ more) = then_said (line_said (b ∷ bs)) number (lines_said (number + 1) more)

-- the lines of a script, or the number of its first line that is none and isn't empty
abbrev pub script_of : List ℕ → Result (List Spoken) ℕ
script_of text = lines_said 1 (lines text)

pub slice-example : line_said (codes "slice 0 1 6..") ≡ Some (SaySlice 0 1 (Included 6) Unbounded)
unfolding line_said next_word number_after at_dot
slice-example = refl

pub join-example : line_said (codes "join 0 2 \", \" 5") ≡ Some (SayJoin 0 2 (codes ", ") 5)
unfolding line_said next_word number_after decoded
join-example = refl

-- one space too many, a word too many, and a word that isn't there
pub no_lines : (line_said (codes "new  0") ≡ None) × (line_said (codes "new 0 1") ≡ None) × (line_said (codes "set 0 0") ≡ None)
unfolding line_said next_word number_after
no_lines = (refl, refl, refl)
