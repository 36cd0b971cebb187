-- How answers, slots and records are printed (docs/PROGRAM.md, "Answers").
use Rattle.std.specs.Prelude.{◌≡◌, ℕ, ◌/◌, ◌%◌, ◌==◌, ◌&&◌, nat_le, Bool, false, List, [], ◌∷◌, ◌++◌, codes, decimal, if◌then◌else◌, refl}
use Rattle.std.specs.Fmt.{digit_glyph}
use Rattle.std.specs.List.{flat_map}
use Rattle.std.specs.declared.cmp.Ordering.{Ordering}
use Rattle.std.specs.declared.cmp.Ordering.TheVariants.{Less, Equal, Greater}
use Rattle.hipstr.specs.declared.Kind.{Kind}
use Rattle.hipstr.specs.declared.Kind.TheVariants.{Inline, Borrowed, Allocated}
use Rattle.hipstr.specs.declared.command.Answer.{Answer}
use Rattle.hipstr.specs.declared.command.Answer.TheVariants.{Done, Nothing, Number, Order, Byte, Char, Kind as KindOf, Refused}
use Rattle.hipstr.specs.declared.command.Reason.{Reason}
use Rattle.hipstr.specs.declared.command.Reason.TheVariants.{NoSlot, Overlap, NotText, NotBytes, NotUtf8, TooLong, StartGreaterThanEnd, StartOutOfBounds, EndOutOfBounds, StartNotACharBoundary, EndNotACharBoundary, OutOfRange, OneEnd, Memory}

-- the two digits in base 16 of a byte, behind `\x`
abbrev pub printed_hex : ℕ → List ℕ
printed_hex b = 92 ∷ 120 ∷ digit_glyph false (b / 16) ∷ digit_glyph false (b % 16) ∷ []

-- of 0x20 to 0x7E all but `"` (34) and `\` (92) stand for themselves; before these two stands a `\`
abbrev pub is_printable : ℕ → Bool
is_printable b = nat_le 32 b && nat_le b 126

abbrev pub printed_byte : ℕ → List ℕ
printed_byte b =
    if b == 34 then codes "\\\""
    else if b == 92 then codes "\\\\"
    else if is_printable b then b ∷ []
    else printed_hex b

abbrev pub printed_literal : List ℕ → List ℕ
printed_literal bytes = 34 ∷ flat_map printed_byte bytes ++ (34 ∷ [])

abbrev pub reason_name : Reason → List ℕ
reason_name NoSlot = codes "NoSlot"
reason_name Overlap = codes "Overlap"
reason_name NotText = codes "NotText"
reason_name NotBytes = codes "NotBytes"
reason_name NotUtf8 = codes "NotUtf8"
reason_name TooLong = codes "TooLong"
reason_name StartGreaterThanEnd = codes "StartGreaterThanEnd"
reason_name StartOutOfBounds = codes "StartOutOfBounds"
reason_name EndOutOfBounds = codes "EndOutOfBounds"
reason_name StartNotACharBoundary = codes "StartNotACharBoundary"
reason_name EndNotACharBoundary = codes "EndNotACharBoundary"
reason_name OutOfRange = codes "OutOfRange"
reason_name OneEnd = codes "OneEnd"
reason_name Memory = codes "Memory"

abbrev pub kind_name : Kind → List ℕ
kind_name Inline = codes "inline"
kind_name Borrowed = codes "borrowed"
kind_name Allocated = codes "allocated"

abbrev pub order_name : Ordering → List ℕ
order_name Less = codes "less"
order_name Equal = codes "equal"
order_name Greater = codes "greater"

-- an answer is a line
abbrev pub answer_name : Answer → List ℕ
answer_name Done = codes "done"
answer_name Nothing = codes "nothing"
answer_name (Number n) = decimal n
answer_name (Byte b) = codes "byte " ++ decimal b
answer_name (Char c) = codes "char " ++ decimal c
answer_name (Order order) = order_name order
answer_name (KindOf kind) = kind_name kind
answer_name (Refused reason) = codes "refused " ++ reason_name reason

abbrev pub printed_answer : Answer → List ℕ
printed_answer answer = answer_name answer ++ codes "\n"

abbrev pub printed_answers : List Answer → List ℕ
printed_answers answers = flat_map printed_answer answers

abbrev pub printed_number : ℕ → List ℕ
printed_number n = decimal n ++ codes "\n"

-- a slot: what it is, and its bytes
abbrev pub printed_slot : Bool → List ℕ → List ℕ
printed_slot is_text bytes = (if is_text then codes "text " else codes "bytes ") ++ printed_literal bytes ++ codes "\n"

-- a record is a line: its fields, each after one space
abbrev pub printed_field : List ℕ → List ℕ
printed_field field = 32 ∷ printed_literal field

abbrev pub printed_record : List (List ℕ) → List ℕ
printed_record fields = codes "record" ++ flat_map printed_field fields ++ codes "\n"

abbrev pub printed_records : List (List (List ℕ)) → List ℕ
printed_records records = flat_map printed_record records

pub byte-examples : (printed_byte 126 ≡ codes "~") × (printed_byte 127 ≡ codes "\\x7f") × (printed_byte 31 ≡ codes "\\x1f") × (printed_byte 92 ≡ codes "\\\\")
byte-examples = (refl, refl, refl, refl)

pub record-example : printed_record (codes "a" ∷ [] ∷ []) ≡ codes "record \"a\" \"\"\n"
record-example = refl

pub answer-examples : (printed_answer (KindOf Allocated) ≡ codes "allocated\n") × (printed_answer (Refused OneEnd) ≡ codes "refused OneEnd\n")
answer-examples = (refl, refl)
