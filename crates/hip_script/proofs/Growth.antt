-- An item of a buffer stays where it is when more are added.
use Rattle.std.proofs.Common.{◌≡◌, ℕ, ◌-◌, ◌≤◌, List, [], ◌++◌, length, drop, Option, Some, None, arith, refl, sym, ap, subst, ◌∙◌, append_assoc}
use Rattle.std.proofs.lemmas.List.{append-nil, get_or_append_left, take-append-le, drop-append-le, length-drop, length-append}
use Rattle.std.specs.{List.slice_range, Str.is_utf8}
use Rattle.std.specs.Option.{MatchOption, option_map}
use Rattle.hip_script.specs.Said.{AreWithin, Grows, Held, IsListed, IsSpan, IsWithin, QuotedWithin, ReadsFields, arguments_in, fields_in, fields_with, in_span, no_arguments, quoted_in}
use Rattle.hip_script.specs.{Spoken.Fields, Spoken.Pattern.TextOf, Spoken.Pattern.AnyOf, Spoken.Quoted.Plainly, Spoken.Quoted.Sought, Words.Left, declared.said.Argument.Argument}
use Rattle.hip_script.specs.{declared.said.Arguments.Arguments, declared.said.Said.Said, declared.said.Span.Span}
use Rattle.hip_script.specs.declared.said.Argument.TheVariants.{DecodedBytes, DecodedText, Any, All}

pub range-added : {A : Type 0} (xs more : List A) (i j : ℕ) → i ≤ j → j ≤ length xs → slice_range (xs ++ more) i j ≡ slice_range xs i j
range-added xs more i j order end =
    rw (drop-append-le i xs more (omega arith)) (take-append-le (j - i) (drop i xs) more (omega (arith, length-drop i xs)))

span-in : {A : Type 0} (old new more : List A) (span : Span) → new ≡ old ++ more → IsSpan (length old) span → in_span new span ≡ in_span old span
span-in old new more span is within = rw is (range-added old more span.start span.end within.order within.end)

span-within : {A : Type 0} (old new more : List A) (span : Span) → new ≡ old ++ more → IsSpan (length old) span → IsSpan (length new) span
span-within old new more span is within = record {
  order = within.order;
  end = let end = within.end in rw is (simp length-append (omega arith));
}

pub grows-none : (held : Held) → Grows held held
grows-none held = record {
  more_bytes = [];
  bytes = sym (append-nil held.bytes);
  more_chars = [];
  chars = sym (append-nil held.chars);
  more_ends = [];
  ends = sym (append-nil held.ends);
  more_arguments = [];
  arguments = sym (append-nil held.arguments);
}

joined : {A : Type 0} (a b c xs ys : List A) → b ≡ a ++ xs → c ≡ b ++ ys → c ≡ a ++ (xs ++ ys)
joined a b c xs ys first second = second ∙ rw first (append_assoc a xs ys)

pub grows-then : (a b c : Held) → Grows a b → Grows b c → Grows a c
grows-then a b c first second = record {
  more_bytes = first.more_bytes ++ second.more_bytes;
  bytes = joined a.bytes b.bytes c.bytes first.more_bytes second.more_bytes first.bytes second.bytes;
  more_chars = first.more_chars ++ second.more_chars;
  chars = joined a.chars b.chars c.chars first.more_chars second.more_chars first.chars second.chars;
  more_ends = first.more_ends ++ second.more_ends;
  ends = joined a.ends b.ends c.ends first.more_ends second.more_ends first.ends second.ends;
  more_arguments = first.more_arguments ++ second.more_arguments;
  arguments = joined a.arguments b.arguments c.arguments first.more_arguments second.more_arguments first.arguments second.arguments;
}

-- an argument says the same when more are listed
arguments-grow : (old more : List Arguments) (argument : Argument) → IsListed (length old) argument
    → arguments_in (old ++ more) argument ≡ arguments_in old argument
arguments-grow old more (All at) inside = get_or_append_left old more no_arguments at inside
arguments-grow old more argument inside = refl

listed-grows : (old more : List Arguments) (argument : Argument) → IsListed (length old) argument → IsListed (length (old ++ more)) argument
listed-grows old more (All at) inside = simp length-append (omega arith)
listed-grows old more argument inside = tt

pub quoted-grows : (old new : Held) (quoted : Argument) → Grows old new → QuotedWithin old quoted
    → QuotedWithin new quoted × (quoted_in new quoted ≡ quoted_in old quoted)
quoted-grows old new (DecodedBytes span) grows within = (
  span-within old.bytes new.bytes grows.more_bytes span grows.bytes within,
  ap Plainly (span-in old.bytes new.bytes grows.more_bytes span grows.bytes within),
)
quoted-grows old new (DecodedText span) grows within =
    let same = span-in old.bytes new.bytes grows.more_bytes span grows.bytes within.0 in (
      (span-within old.bytes new.bytes grows.more_bytes span grows.bytes within.0, ap is_utf8 same ∙ within.1),
      ap (λ text. Sought (TextOf text)) same,
    )
quoted-grows old new (Any span) grows within = (
  span-within old.chars new.chars grows.more_chars span grows.chars within,
  ap (λ cs. Sought (AnyOf cs)) (span-in old.chars new.chars grows.more_chars span grows.chars within),
)
quoted-grows old new argument grows within = (tt, refl)

same-arguments : (old new : Held) (said : Said) → Grows old new → IsWithin old said
    → arguments_in new.arguments said.argument ≡ arguments_in old.arguments said.argument
same-arguments old new said grows within = rw grows.arguments (arguments-grow old.arguments grows.more_arguments said.argument within.listed)

pub are-within-grows : (old new : Held) (arguments : Arguments) → Grows old new → AreWithin old arguments → AreWithin new arguments
are-within-grows old new arguments grows within = record {
  quoted = (quoted-grows old new arguments.quoted grows within.quoted).0;
  ends = span-within old.ends new.ends grows.more_ends arguments.ends grows.ends within.ends;
}

pub within-grows : (old new : Held) (said : Said) → Grows old new → IsWithin old said → IsWithin new said
within-grows old new said grows within = record {
  listed = rw grows.arguments (listed-grows old.arguments grows.more_arguments said.argument within.listed);
  arguments = subst (AreWithin new) (sym (same-arguments old new said grows within))
      (are-within-grows old new (arguments_in old.arguments said.argument) grows within.arguments);
}

pub with-grows : (old new : Held) (said : Said) (arguments : Arguments) → Grows old new → AreWithin old arguments
    → fields_with new said arguments ≡ fields_with old said arguments
with-grows old new said arguments grows within =
    ap (λ quoted. record (fields_with new said arguments) { quoted = quoted }) (quoted-grows old new arguments.quoted grows within.quoted).1
    ∙ ap (λ ends. record (fields_with old said arguments) { ends = ends })
    (span-in old.ends new.ends grows.more_ends arguments.ends grows.ends within.ends)

pub fields-grow : (old new : Held) (said : Said) → Grows old new → IsWithin old said → fields_in new said ≡ fields_in old said
fields-grow old new said grows within =
    ap (fields_with new said) (same-arguments old new said grows within)
    ∙ with-grows old new said (arguments_in old.arguments said.argument) grows within.arguments

-- a word that needs no buffer
pub puts : {A : Type 0} (set : A → Fields) (read : Option (A × Left)) (found : Option A) (value : A) (after : Left) (held : Held) (before new : Said)
    → IsWithin held before → MatchOption found (read ≡ None) (λ x. read ≡ Some (x, after)) → found ≡ Some value
    → new.verb ≡ before.verb → new.argument ≡ before.argument → set value ≡ fields_in held new
    → ReadsFields (option_map (λ (x : A × Left). (set x.0, x.1)) read) after held held before new
puts set read found value after held before new within told is verb argument fields = record {
  grows = grows-none held;
  within = record { listed = rw argument within.listed; arguments = rw argument within.arguments };
  verb = verb;
  read_is =
      let said = rw is at told in
      rw said (ap (λ f. Some (f, after)) fields);
}
