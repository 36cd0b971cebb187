-- The lines of a script (docs/PROGRAM.md, the table of lines), apart from where their bytes stand.
use Rattle.std.specs.Prelude.{ℕ, List, []}
use Rattle.std.specs.declared.ops.Bound.{Bound}
use Rattle.hipstr.specs.declared.End.{End}
use Rattle.hipstr.specs.declared.command.Side.{Side}
use Rattle.hip_script.specs.declared.verb.Way.{Way}
use Rattle.hip_script.specs.declared.verb.Way.TheVariants.{SplitN, RSplitN, Lines, Words, AsciiWords}

-- a pattern: a text, a character, or each of these characters
pub data Pattern : Type 0 where
  TextOf : List ℕ → Pattern
  CharOf : ℕ → Pattern
  AnyOf : List ℕ → Pattern

-- the value between quotes: bytes, or a pattern
pub data Quoted : Type 0 where
  Plainly : List ℕ → Quoted
  Sought : Pattern → Quoted

-- how a text is taken apart: by a pattern, by one into so many parts at most, or at white space and line ends
pub data Parting : Type 0 where
  By : Way → Pattern → Parting
  ByMost : Way → ℕ → Pattern → Parting
  Alone : Way → Parting

-- a line: a command of `hipstr::run`, or one of the three lines that are none
pub data Spoken : Type 0 where
  SayNew : ℕ → Spoken
  SayInline : ℕ → List ℕ → Spoken
  SayBorrow : ℕ → List ℕ → Spoken
  SayCopy : ℕ → List ℕ → Spoken
  SayRoom : ℕ → ℕ → Spoken
  SayClone : ℕ → ℕ → Spoken
  SaySlice : ℕ → ℕ → Bound ℕ → Bound ℕ → Spoken
  SayPush : ℕ → List ℕ → Spoken
  SayPop : ℕ → Spoken
  SayTruncate : ℕ → ℕ → Spoken
  SayClear : ℕ → Spoken
  SayShrink : ℕ → ℕ → Spoken
  SayUpper : ℕ → Spoken
  SayLower : ℕ → Spoken
  SaySet : ℕ → ℕ → ℕ → Spoken
  SayRepeat : ℕ → ℕ → ℕ → Spoken
  SayJoin : ℕ → ℕ → List ℕ → ℕ → Spoken
  SayMutate : ℕ → List ℕ → Spoken
  SayOwned : ℕ → Spoken
  SayText : ℕ → Spoken
  SayBytes : ℕ → Spoken
  SayTrim : ℕ → ℕ → Side → Spoken
  SayTrimMatches : ℕ → ℕ → Side → Pattern → Spoken
  SayStrip : ℕ → ℕ → End → Pattern → Spoken
  SayPieces : ℕ → Parting → List End → ℕ → Spoken
  SayOnce : ℕ → ℕ → ℕ → End → Pattern → Spoken
  SayCompare : ℕ → ℕ → Spoken
  SayComparePath : ℕ → ℕ → Spoken
  SayLen : ℕ → Spoken
  SayKind : ℕ → Spoken
  SayCapacity : ℕ → Spoken
  SayShow : ℕ → Spoken
  SayCopied : Spoken
  SayFields : ℕ → ℕ → Spoken

-- the arguments of a line; one that the line doesn't have is as in `no_fields`
pub record Fields : Type 0 where
  -- the slot that is asked or taken from, and that which becomes something
  pub source : ℕ
  pub target : ℕ
  -- a number, or a further slot
  pub number : ℕ
  pub byte : ℕ
  pub low : Bound ℕ
  pub high : Bound ℕ
  pub side : Side
  pub end : End
  pub quoted : Quoted
  pub way : Way
  pub ends : List End

abbrev pub bytes_in : Quoted → List ℕ
bytes_in (Plainly bytes) = bytes
bytes_in (Sought pattern) = []

abbrev pub pattern_in : Quoted → Pattern
pattern_in (Plainly bytes) = TextOf []
pattern_in (Sought pattern) = pattern

-- the character that was looked for, and `,` for anything else
abbrev pub separator_in : Quoted → ℕ
separator_in (Sought (CharOf c)) = c
separator_in quoted = 44

abbrev pub parting : Way → ℕ → Pattern → Parting
parting SplitN number pattern = ByMost SplitN number pattern
parting RSplitN number pattern = ByMost RSplitN number pattern
parting Lines number pattern = Alone Lines
parting Words number pattern = Alone Words
parting AsciiWords number pattern = Alone AsciiWords
parting way number pattern = By way pattern
