-- The values of literals, and words that are added to buffers.
use Rattle.std.proofs.Common.{◌≡◌, ℕ, ◌+◌, ◌-◌, true, false, List, [], ◌++◌, length, drop, take, Option, Some, arith, refl, sym, ap, subst, ◌∙◌}
use Rattle.std.proofs.{Math.Seq.drop-append_seam, lemmas.Bool.false_from_ne_true, lemmas.Str.IsUtf8-from_is_utf8}
use Rattle.std.proofs.lemmas.List.{append-nil, take_all, length-append}
use Rattle.std.specs.{Option.option_map, declared.ops.Bound.Bound, declared.ops.Bound.TheVariants.Included, declared.ops.Bound.TheVariants.Excluded}
use Rattle.std.specs.Str.{chars, is_utf8, IsUtf8}
use denote.Bor.{Bor}
use Rattle.hip_script.proofs.Growth.{are-within-grows, fields-grow, grows-none, grows-then, quoted-grows, with-grows, within-grows}
use Rattle.hip_script.specs.Grammar.{follows_said, only, quoted_as, quoted_said}
use Rattle.hip_script.specs.Said.{AddsSpan, AreWithin, Grows, Held, IsListed, IsQuoted, IsSpan, IsWithin, LiteralIs, LiteralWithin, QuotedWithin, QuotesAs, ReadsFields, ReadsLiteral, StandsFor, arguments_in, fields_in, fields_with, in_span, literal_in, no_arguments, quoted_in}
use Rattle.hip_script.specs.{Spoken.Fields, Spoken.Quoted, Spoken.Quoted.Sought, declared.said.Argument.Argument, declared.said.Arguments.Arguments, declared.said.Literal.Literal}
use Rattle.hip_script.specs.{declared.said.Literal.TheVariants.Plain, declared.said.Literal.TheVariants.Decoded, declared.said.Said.Said, declared.said.Span.Span, declared.verb.Follows.Follows}
use Rattle.hip_script.specs.{declared.verb.Follows.TheVariants.Nothing as NothingFollows, declared.verb.Quote.Quote}
use Rattle.hip_script.specs.Spoken.Pattern.{AnyOf, CharOf, TextOf}
use Rattle.hip_script.specs.Words.{Left, ends_of, literal_at, range_of, said_at, word_at}
use Rattle.hipstr.specs.declared.End.{End}
use Rattle.hip_script.specs.declared.said.Argument.TheVariants.{Nothing, Between, Bytes, DecodedBytes, Text, DecodedText, Char, Any, All}
use Rattle.hip_script.specs.declared.verb.Quote.TheVariants.{Bytes as bytes_quote, Text as text_quote, Char as char_quote, Any as any_quote}

-- the items that were added stand in the span
pub span-added : {A : Type 0} (more old new : List A) (span : Span) → AddsSpan more old new span → IsSpan (length new) span × (in_span new span ≡ more)
span-added more old new span adds =
    let long : length new ≡ length old + length more = rw adds.added (simp length-append) in
    let start = adds.start in
    let end = adds.end in (
      record { order = omega arith; end = omega arith },
      rw (adds.start, adds.end) (ap (λ xs. take (length new - length old) (drop (length old) xs)) adds.added
          ∙ rw (drop-append_seam old more) (take_all (length new - length old) more (omega arith))),
    )

pub quotes-bytes : (quote : Quote) (literal : Literal) (bytes : Bor (List ℕ)) (held : Held) → quote ≡ bytes_quote → literal ≡ Plain bytes
    → QuotesAs (quoted_as quote (literal_in held.bytes literal)) held held (Bytes bytes)
quotes-bytes quote literal bytes held is stands = rw (is, stands) (record { is_quoted = tt; grows = grows-none held; within = tt; is = refl })

pub quotes-decoded : (quote : Quote) (literal : Literal) (span : Span) (held : Held) → quote ≡ bytes_quote → literal ≡ Decoded span
    → LiteralWithin held.bytes literal → QuotesAs (quoted_as quote (literal_in held.bytes literal)) held held (DecodedBytes span)
quotes-decoded quote literal span held is stands within =
    rw (is, stands) (record { is_quoted = tt; grows = grows-none held; within = subst (LiteralWithin held.bytes) stands within; is = refl })

pub utf8-none : (bytes : List ℕ) → ¬ (IsUtf8 bytes) → is_utf8 bytes ≡ false
utf8-none bytes other = false_from_ne_true (is_utf8 bytes) (λ h. other (IsUtf8-from_is_utf8 bytes h))

-- a text that was read from a literal as it is lent
pub lent-text : (bytes lent shown text : List ℕ) (literal : Literal) → lent ≡ bytes → shown ≡ literal_in lent literal
    → (text ≡ shown) × (is_utf8 shown ≡ true) → (text ≡ literal_in bytes literal) × (is_utf8 (literal_in bytes literal) ≡ true)
lent-text bytes lent shown text literal is shows told =
    subst (λ b. (text ≡ b) × (is_utf8 b ≡ true)) (shows ∙ ap (λ b. literal_in b literal) is) told

pub quotes-text : (quote : Quote) (literal : Literal) (bytes : Bor (List ℕ)) (text : Bor (List ℕ)) (held : Held) → quote ≡ text_quote → literal ≡ Plain bytes
    → (text.now ≡ bytes.now) × (is_utf8 bytes.now ≡ true) → QuotesAs (quoted_as quote (literal_in held.bytes literal)) held held (Text text)
quotes-text quote literal bytes text held is stands told =
    rw (is, stands) (record { is_quoted = tt; grows = grows-none held; within = tt; is = rw told.1 (ap (λ t. Some (Sought (TextOf t))) (sym told.0)) })

pub quotes-decoded_text : (quote : Quote) (literal : Literal) (span : Span) (lent shown text : List ℕ) (held : Held) → quote ≡ text_quote → literal ≡ Decoded span
    → LiteralWithin held.bytes literal → lent ≡ held.bytes → shown ≡ in_span lent span → (text ≡ shown) × (is_utf8 shown ≡ true)
    → QuotesAs (quoted_as quote (literal_in held.bytes literal)) held held (DecodedText span)
quotes-decoded_text quote literal span lent shown text held is stands within lent_is shows told =
    let utf8 : is_utf8 (in_span held.bytes span) ≡ true = ap (λ b. is_utf8 (in_span b span)) (sym lent_is) ∙ ap is_utf8 (sym shows) ∙ told.1 in
    rw (is, stands) (record { is_quoted = tt; grows = grows-none held; within = (subst (LiteralWithin held.bytes) stands within, utf8); is = rw utf8 refl })

pub quotes-char : (quote : Quote) (text bytes : List ℕ) (c : ℕ) (held : Held) → quote ≡ char_quote → (text ≡ bytes) × (is_utf8 bytes ≡ true)
    → Some (Sought (CharOf c)) ≡ only (chars text) → QuotesAs (quoted_as quote bytes) held held (Char c)
quotes-char quote text bytes c held is shown told =
    rw is (record { is_quoted = tt; grows = grows-none held; within = tt; is = rw shown.1 (ap (λ t. only (chars t)) (sym shown.0) ∙ sym told) })

pub quotes-any : (quote : Quote) (text bytes new : List ℕ) (held : Held) (span : Span) → quote ≡ any_quote → (text ≡ bytes) × (is_utf8 bytes ≡ true)
    → AddsSpan (chars text) held.chars new span → QuotesAs (quoted_as quote bytes) held (record held { chars = new }) (Any span)
quotes-any quote text bytes new held span is shown adds =
    let stands = span-added (chars text) held.chars new span adds in
    let none = grows-none held in
    rw is (record {
      is_quoted = tt;
      grows = record { more_bytes = none.more_bytes; bytes = none.bytes; more_chars = chars text; chars = adds.added; more_ends = none.more_ends; ends = none.ends; more_arguments = none.more_arguments; arguments = none.arguments };
      within = stands.0;
      is = rw shown.1 (ap (λ cs. Some (Sought (AnyOf cs))) (ap chars (sym shown.0) ∙ sym stands.1));
    })

-- a literal that was read stands in the script or in the buffer
literal-stands : (literal : Literal) (bytes old new : List ℕ) → LiteralIs literal bytes old new
    → (literal_in new literal ≡ bytes) × (more : List ℕ) × (new ≡ old ++ more)
literal-stands (Plain text) bytes old new stands = (stands.0, [], stands.1 ∙ sym (append-nil old))
literal-stands (Decoded span) bytes old new stands =
    ((span-added bytes old new span (record { added = stands.0; start = stands.1; end = stands.2 })).1, bytes, stands.0)

-- an argument that stands for arguments, when perhaps more were added to the list
stands-grows : (arguments : Arguments) (old new : Held) (argument : Argument) → StandsFor arguments old new argument → Grows old new
stands-grows arguments old new argument stands =
    let none = grows-none old in
    rw stands.added (record {
      more_bytes = none.more_bytes;
      bytes = none.bytes;
      more_chars = none.more_chars;
      chars = none.chars;
      more_ends = none.more_ends;
      ends = none.ends;
      more_arguments = stands.more;
      arguments = refl;
    })

-- a line whose argument stands for those that were read
pub reads-stands : (old between new : Held) (before : Said) (arguments : Arguments) (argument : Argument) (read : Option (Fields × Left)) (left : Left)
    → Grows old between → StandsFor arguments between new argument → AreWithin between arguments
    → read ≡ Some (fields_with between before arguments, left)
    → ReadsFields read left old new before (record before { argument = argument })
reads-stands old between new before arguments argument read left grows stands within is =
    let more = stands-grows arguments between new argument stands in
    let on = are-within-grows between new arguments more within in record {
      grows = grows-then old between new grows more;
      within = record { listed = stands.listed; arguments = subst (AreWithin new) (sym stands.is) on };
      verb = refl;
      read_is = is
          ∙ ap (λ (f : Fields). Some (f, left)) (sym (with-grows between new before arguments more within))
          ∙ ap (λ (a : Arguments). Some (fields_with new before a, left)) (sym stands.is);
    }

-- an argument that has them all itself
stands-alone : (arguments : Arguments) (held : Held) (argument : Argument) → IsListed (length held.arguments) argument
    → arguments_in held.arguments argument ≡ arguments → StandsFor arguments held held argument
stands-alone arguments held argument listed is = record {
  more = [];
  added = ap (λ xs. record held { arguments = xs }) (sym (append-nil held.arguments));
  listed = listed;
  is = is;
}

-- an argument that is the value of a literal says nothing else
quoted-alone : (listed : List Arguments) (argument : Argument) → IsQuoted argument
    → IsListed (length listed) argument × (arguments_in listed argument ≡ record no_arguments { quoted = argument })
quoted-alone listed (Between low high) is = absurd is
quoted-alone listed (All at) is = absurd is
quoted-alone listed argument is = (tt, refl)

-- where a line has no other argument, a range or a literal stands alone
pub range-alone : (held : Held) (before : Argument) (first last : ℕ) (low high : Bound ℕ) → before ≡ Nothing → low ≡ Included first → high ≡ Excluded last
    → StandsFor (record (arguments_in held.arguments before) { low = low; high = high }) held held (Between first last)
range-alone held before first last low high is from to =
    rw (is, from, to) (stands-alone (record no_arguments { low = Included first; high = Excluded last }) held (Between first last) tt refl)

pub literal-alone : (held : Held) (before quoted : Argument) → before ≡ Nothing → IsQuoted quoted
    → StandsFor (record (arguments_in held.arguments before) { quoted = quoted }) held held quoted
literal-alone held before quoted is literal =
    let alone = quoted-alone held.arguments quoted literal in
    rw is (stands-alone (record no_arguments { quoted = quoted }) held quoted alone.0 alone.1)

pub reads-range : (held new : Held) (before : Said) (argument : Argument) (words left : Left) (low high : Bound ℕ) (arguments : Arguments) → IsWithin held before
    → said_at range_of words ≡ Some ((low, high), left) → arguments ≡ arguments_in held.arguments before.argument
    → StandsFor (record arguments { low = low; high = high }) held new argument
    → ReadsFields (option_map (λ (found : (Bound ℕ × Bound ℕ) × Left). (record (fields_in held before) { low = found.0.0; high = found.0.1 }, found.1)) (said_at range_of words)) left
    held new before (record before { argument = argument })
reads-range held new before argument words left low high arguments within read is stands =
    reads-stands held held new before (record arguments { low = low; high = high }) argument _ left (grows-none held) stands
    (rw is (record { quoted = within.arguments.quoted; ends = within.arguments.ends }))
    (rw (read, is) refl)

pub reads-ends : (held : Held) (ends_now : List End) (new : Held) (before : Said) (argument : Argument) (words left : Left) (word : List ℕ) (ends : List End) (span : Span) (arguments : Arguments)
    → IsWithin held before → word_at words ≡ Some (word, left) → ends_of word ≡ Some ends → AddsSpan ends held.ends ends_now span
    → arguments ≡ arguments_in held.arguments before.argument
    → StandsFor (record arguments { ends = span }) (record held { ends = ends_now }) new argument
    → ReadsFields (option_map (λ (found : List End × Left). (record (fields_in held before) { ends = found.0 }, found.1)) (said_at ends_of words)) left
    held new before (record before { argument = argument })
reads-ends held ends_now new before argument words left word ends span arguments within read says adds is stands =
    let stand = span-added ends held.ends ends_now span adds in
    let none = grows-none held in
    let between = record held { ends = ends_now } in
    let grows : Grows held between =
    record { more_bytes = none.more_bytes; bytes = none.bytes; more_chars = none.more_chars; chars = none.chars; more_ends = ends; ends = adds.added; more_arguments = none.more_arguments; arguments = none.arguments } in
    let had = arguments_in held.arguments before.argument in
    let quoted = quoted-grows held between had.quoted grows within.arguments.quoted in
    reads-stands held between new before (record arguments { ends = span }) argument _ left grows stands
    (rw is (record { quoted = quoted.0; ends = stand.0 }))
    (rw (read, says, is) (ap (λ e. Some (record (fields_in held before) { ends = e }, left)) (sym stand.1)
    ∙ ap (λ q. Some (record (fields_in held before) { ends = in_span ends_now span; quoted = q }, left)) (sym quoted.1)))

pub reads-quoted : (quote : Quote) (held after new : Held) (bytes_now : List ℕ) (before : Said) (argument : Argument) (words left : Left) (literal : Literal) (quoted : Argument) (arguments : Arguments)
    → IsWithin held before → ReadsLiteral (literal_at words) left held.bytes bytes_now literal
    → QuotesAs (quoted_as quote (literal_in bytes_now literal)) (record held { bytes = bytes_now }) after quoted
    → arguments ≡ arguments_in after.arguments before.argument
    → StandsFor (record arguments { quoted = quoted }) after new argument
    → ReadsFields (quoted_said quote (fields_in held before) words) left held new before (record before { argument = argument })
reads-quoted quote held after new bytes_now before argument words left literal quoted arguments within reads quotes is stands =
    let stand = literal-stands literal reads.bytes held.bytes bytes_now reads.stands in
    let none = grows-none held in
    let read : Grows held (record held { bytes = bytes_now }) =
    record { more_bytes = stand.1; bytes = stand.2; more_chars = none.more_chars; chars = none.chars; more_ends = none.more_ends; ends = none.ends; more_arguments = none.more_arguments; arguments = none.arguments } in
    let grows = grows-then held (record held { bytes = bytes_now }) after read quotes.grows in
    let on = within-grows held after before grows within in
    reads-stands held after new before (record arguments { quoted = quoted }) argument _ left grows stands
    (rw is (record { quoted = quotes.within; ends = on.arguments.ends }))
    (rw (reads.read_is, is) (ap (λ q. option_map (λ (found : Quoted × Left). (record (fields_in held before) { quoted = found.0 }, found.1)) (option_map (λ (quoted : Quoted). (quoted, left)) q))
    (ap (quoted_as quote) (sym stand.0) ∙ quotes.is)
    ∙ ap (λ (f : Fields). Some (record f { quoted = quoted_in after quoted }, left)) (sym (fields-grow held after before grows within))))

pub follows-nothing : (follows : Follows) (held : Held) (said : Said) (left : Left) → follows ≡ NothingFollows → IsWithin held said
    → ReadsFields (follows_said follows (fields_in held said) left) left held held said said
follows-nothing follows held said left is within = rw is (record { grows = grows-none held; within = within; verb = refl; read_is = refl })

-- bytes that were read as a text are one
pub text-is_one : (held : Held) (quoted : Argument) (span : Span) (lent shown : List ℕ) → quoted ≡ DecodedText span → QuotedWithin held quoted
    → lent ≡ held.bytes → shown ≡ in_span lent span → ¬ (IsUtf8 shown) → ⊥
text-is_one held quoted span lent shown is within lent_is shown_is other =
    let inside = rw is at within in
    let same : shown ≡ in_span held.bytes span = shown_is ∙ ap (λ b. in_span b span) lent_is in
    other (IsUtf8-from_is_utf8 shown (ap is_utf8 same ∙ inside.1))
