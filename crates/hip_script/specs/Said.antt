-- The records of lines, whose literals stand in the script or in buffers. Only private functions cite these.
use Rattle.std.specs.Prelude.{◌≡◌, ℕ, ◌<◌, ◌≤◌, ◌==◌, ◌||◌, not, Bool, true, List, [], ◌++◌, length, map, Option, Some, Result, Ok, Err, slice_range, slice_index_or, Vec}
use Rattle.std.specs.declared.alloc.Global.{Global}
use Rattle.std.specs.declared.ops.Bound.TheVariants.{Included, Excluded, Unbounded}
use Rattle.hipstr.specs.Handle.{Handle}
use Rattle.std.specs.List.{AllByRecursion}
use Rattle.std.specs.Str.{is_utf8}
use Rattle.hipstr.specs.declared.End.{End}
use Rattle.hip_script.specs.Grammar.{spoken}
use Rattle.hip_script.specs.Printed.{is_printable}
use Rattle.hip_script.specs.Spoken.{Fields, Quoted, Spoken}
use Rattle.hip_script.specs.Spoken.Pattern.{TextOf, CharOf, AnyOf}
use Rattle.hip_script.specs.Spoken.Quoted.{Plainly, Sought}
use Rattle.hip_script.specs.Spoken.Spoken.{SayShow, SayCopied, SayFields}
use Rattle.hip_script.specs.Told.{says}
use Rattle.hip_script.specs.Words.{Left}
use Rattle.hip_script.specs.declared.buffers.Buffers.{Buffers}
use Rattle.hip_script.specs.declared.fault.PlayFault.{PlayFault}
use Rattle.hip_script.specs.declared.fault.PlayFault.TheVariants.{NotACommand, ReadFailed, WriteFailed, Memory}
use Rattle.hip_script.specs.declared.line.Aside.{Aside}
use Rattle.hip_script.specs.declared.line.Aside.TheVariants.{Show, Copied, Fields as FieldsOf}
use Rattle.hip_script.specs.declared.line.Line.{Line}
use Rattle.hip_script.specs.declared.line.Line.TheVariants.{Command as CommandLine, Aside as AsideLine}
use Rattle.hip_script.specs.declared.said.Argument.{Argument}
use Rattle.hip_script.specs.declared.said.Argument.TheVariants.{Nothing, Between, Bytes, DecodedBytes, Text, DecodedText, Char, Any, All}
use Rattle.hip_script.specs.declared.said.Arguments.{Arguments}
use Rattle.hip_script.specs.declared.said.Literal.{Literal}
use Rattle.hip_script.specs.declared.said.Literal.TheVariants.{Plain, Decoded}
use Rattle.hip_script.specs.declared.said.Said.{Said}
use Rattle.hip_script.specs.declared.said.Span.{Span}
use Rattle.hip_script.specs.declared.script.Script.{Script}

-- the contents of the buffers: the bytes of literals, the characters of sets, the ends that pieces are drawn from, and the arguments of
-- lines that have several
pub record Held : Type 0 where
  pub bytes : List ℕ
  pub chars : List ℕ
  pub ends : List End
  pub arguments : List Arguments

abbrev pub held : Buffers → Held
held buffers = record { bytes = buffers.bytes.items; chars = buffers.chars.items; ends = buffers.ends.items; arguments = buffers.arguments.items }

abbrev pub no_arguments : Arguments
no_arguments = record { low = Unbounded; high = Unbounded; quoted = Nothing; ends = record { start = 0; end = 0 } }

-- all arguments of a line that has this one
abbrev pub arguments_in : List Arguments → Argument → Arguments
arguments_in listed (Between low high) = record no_arguments { low = Included low; high = Excluded high }
arguments_in listed (All at) = slice_index_or listed at no_arguments
arguments_in listed quoted = record no_arguments { quoted = quoted }

-- an argument that is a position is one in the list
abbrev pub IsListed : ℕ → Argument → Type 0
IsListed len (All at) = at < len
IsListed len argument = Unit {0}

-- an argument is the value of a literal, or none
abbrev pub IsQuoted : Argument → Type 0
IsQuoted (Between low high) = ⊥
IsQuoted (All at) = ⊥
IsQuoted quoted = Unit {0}

-- a span lies in a list, and what stands there
pub record IsSpan (len : ℕ) (span : Span) : Type 0 where
  pub order : span.start ≤ span.end
  pub end : span.end ≤ len

abbrev pub in_span : {A : Type 0} → List A → Span → List A
in_span xs span = slice_range xs span.start span.end

abbrev pub literal_in : List ℕ → Literal → List ℕ
literal_in bytes (Plain text) = text.now
literal_in bytes (Decoded span) = in_span bytes span

abbrev pub quoted_in : Held → Argument → Quoted
quoted_in held (Bytes bytes) = Plainly bytes.now
quoted_in held (DecodedBytes span) = Plainly (in_span held.bytes span)
quoted_in held (Text text) = Sought (TextOf text.now)
quoted_in held (DecodedText span) = Sought (TextOf (in_span held.bytes span))
quoted_in held (Char c) = Sought (CharOf c)
quoted_in held (Any span) = Sought (AnyOf (in_span held.chars span))
quoted_in held none = Plainly []

abbrev pub LiteralWithin : List ℕ → Literal → Type 0
LiteralWithin bytes (Plain text) = Unit {0}
LiteralWithin bytes (Decoded span) = IsSpan (length bytes) span

abbrev pub QuotedWithin : Held → Argument → Type 0
QuotedWithin held (DecodedBytes span) = IsSpan (length held.bytes) span
QuotedWithin held (DecodedText span) = IsSpan (length held.bytes) span × (is_utf8 (in_span held.bytes span) ≡ true)
QuotedWithin held (Any span) = IsSpan (length held.chars) span
QuotedWithin held argument = Unit {0}

-- the positions in arguments, and those in a line's record, lie within the buffers
pub record AreWithin (held : Held) (arguments : Arguments) : Type 0 where
  pub quoted : QuotedWithin held arguments.quoted
  pub ends : IsSpan (length held.ends) arguments.ends

pub record IsWithin (held : Held) (said : Said) : Type 0 where
  pub listed : IsListed (length held.arguments) said.argument
  pub arguments : AreWithin held (arguments_in held.arguments said.argument)

-- the arguments in the record of a line
abbrev pub fields_with : Held → Said → Arguments → Fields
fields_with held said arguments = record {
  source = said.source;
  target = said.target;
  number = said.number;
  byte = said.byte;
  low = arguments.low;
  high = arguments.high;
  side = said.side;
  end = said.end;
  quoted = quoted_in held arguments.quoted;
  way = said.way;
  ends = in_span held.ends arguments.ends;
}

abbrev pub fields_in : Held → Said → Fields
fields_in held said = fields_with held said (arguments_in held.arguments said.argument)

abbrev pub says_in : Held → Said → Spoken
says_in held said = spoken said.verb (fields_in held said)

-- a literal was read: its bytes stand in the script, or at the end of the buffer
abbrev pub LiteralIs : Literal → List ℕ → List ℕ → List ℕ → Type 0
LiteralIs (Plain text) bytes old new = (text.now ≡ bytes) × (new ≡ old)
LiteralIs (Decoded span) bytes old new = (new ≡ old ++ bytes) × (span.start ≡ length old) × (span.end ≡ length new)

pub record ReadsLiteral (read : Option (List ℕ × Left)) (left : Left) (old new : List ℕ) (literal : Literal) : Type 0 where
  pub bytes : List ℕ
  pub read_is : read ≡ Some (bytes, left)
  pub stands : LiteralIs literal bytes old new

pub record DecodesLiteral (read : Option (List ℕ × List ℕ)) (after old new : List ℕ) (literal : Literal) : Type 0 where
  pub bytes : List ℕ
  pub read_is : read ≡ Some (bytes, after)
  pub stands : LiteralIs literal bytes old new

-- these items were added to a buffer, and the span tells where
pub record AddsSpan {A : Type 0} (more old new : List A) (span : Span) : Type 0 where
  pub added : new ≡ old ++ more
  pub start : span.start ≡ length old
  pub end : span.end ≡ length new

-- the buffers hold more than they did
pub record Grows (old new : Held) : Type 0 where
  pub more_bytes : List ℕ
  pub bytes : new.bytes ≡ old.bytes ++ more_bytes
  pub more_chars : List ℕ
  pub chars : new.chars ≡ old.chars ++ more_chars
  pub more_ends : List End
  pub ends : new.ends ≡ old.ends ++ more_ends
  pub more_arguments : List Arguments
  pub arguments : new.arguments ≡ old.arguments ++ more_arguments

-- an argument has all of these, some of which were perhaps added to the list
pub record StandsFor (arguments : Arguments) (old new : Held) (argument : Argument) : Type 0 where
  pub more : List Arguments
  pub added : new ≡ record old { arguments = old.arguments ++ more }
  pub listed : IsListed (length new.arguments) argument
  pub is : arguments_in new.arguments argument ≡ arguments

-- the value of a literal was read into `quoted`
pub record QuotesAs (said : Option Quoted) (old new : Held) (quoted : Argument) : Type 0 where
  pub is_quoted : IsQuoted quoted
  pub grows : Grows old new
  pub within : QuotedWithin new quoted
  pub is : said ≡ Some (quoted_in new quoted)

-- some words were read into the record of a line
pub record ReadsFields (read : Option (Fields × Left)) (left : Left) (old new : Held) (before after : Said) : Type 0 where
  pub grows : Grows old new
  pub within : IsWithin new after
  pub verb : after.verb ≡ before.verb
  pub read_is : read ≡ Some (fields_in new after, left)

-- a line was read
pub record ReadsLine (read : Option Spoken) (old new : Held) (said : Said) : Type 0 where
  pub grows : Grows old new
  pub within : IsWithin new said
  pub read_is : read ≡ Some (says_in new said)

-- the records of a script's lines say this
pub record Says (held : Held) (lines : List Said) (said : List Spoken) : Type 0 where
  pub within : AllByRecursion (IsWithin held) lines
  pub say : map (says_in held) lines ≡ said

-- the script that was returned, or the number of its first line that is none, unless memory ran out
abbrev pub GivesScript : Result Script PlayFault → Result (List Spoken) ℕ → Type 0
GivesScript (Ok script) said = (lines : List Spoken) × (said ≡ Ok lines) × Says (held script.buffers) script.lines.items lines
GivesScript (Err (NotACommand number)) said = said ≡ Err number
GivesScript (Err ReadFailed) said = ⊥
GivesScript (Err WriteFailed) said = ⊥
GivesScript (Err Memory) said = Unit {0}

-- the line that is no command of `hipstr::run`
abbrev pub aside_says : Aside → Spoken
aside_says (Show slot) = SayShow slot
aside_says Copied = SayCopied
aside_says (FieldsOf slot separator) = SayFields slot separator

abbrev pub line_says : Line → Spoken
line_says (CommandLine command) = says command
line_says (AsideLine aside) = aside_says aside

-- a byte that doesn't stand for itself in a printed literal
abbrev pub needs_escape : ℕ → Bool
needs_escape b = b == 34 || (b == 92 || not (is_printable b))

-- the bytes of a handle, and of the handles of a record
abbrev pub items_of : Handle → List ℕ
items_of handle = handle.items

abbrev pub texts_of : Vec Handle Global → List (List ℕ)
texts_of fields = map items_of fields.items
