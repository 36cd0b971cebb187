-- The text of a value, while the value writes it.
use Rattle.std.proofs.Common.{◌≡◌, ◌∙◌, ℕ, ◌+◌, ◌-◌, ◌≤◌, Bool, true, false, List, [], ◌++◌, ◌&&◌, length, nat_le, Option, Some, None, IfSome, Result, Ok, Err, OnOk, OnErr, if◌then◌else◌, length-append, append-nil, ap, refl, subst, sym, arith}
use Rattle.std.proofs.lemmas.Fmt.{contents_after_writes}
use Rattle.std.proofs.lemmas.Str.{IsUtf8-append, IsUtf8-from_is_utf8, is_utf8-from_IsUtf8}
use Rattle.std.specs.Fmt.{formatter_writer, AppendsText, DisplaysOnOk, IsPlainFormatter}
use Rattle.std.specs.declared.fmt.Formatter.{Formatter}
use Rattle.std.specs.Prelude.{IsUtf8}
use Rattle.std.specs.Str.{is_utf8}
use Rattle.hip_raw.specs.Meter.{RisesAtLeast, RisesAtMost}
use Rattle.hip_bytes.specs.Handle.{Handle}
use Rattle.hip_bytes.specs.Change.{IsPushed, PushAnswers, PushesText}
use Rattle.hip_bytes.specs.Cost.{push_cost, written_cost}
use Rattle.hip_bytes.specs.Gathering.{Drafted, Gathered, IsDraft, spill_cost}
use Rattle.hip_bytes.specs.declared.kind.TheConstants.{INLINE_CAPACITY}

-- bytes that were added, and once more where they moved into a vector
counted_on : (before after fits : Bool) (old new len more : ℕ) → after ≡ (before && fits)
    → old ≤ len + (if before then 0 else INLINE_CAPACITY) → new ≤ old + (0 + more + spill_cost before after)
    → new ≤ len + more + (if after then 0 else INLINE_CAPACITY)
counted_on true true fits old new len more place first second = omega arith
counted_on true false fits old new len more place first second = omega arith
counted_on false true fits old new len more place first second = absurd (cc)
counted_on false false fits old new len more place first second = omega arith

-- a draft goes on by a text, or stays as it is
pub goes_on : {T E : Type 0} (result : Result T E) (old new : Gathered) (before after : ℕ) (text : List ℕ) → IsDraft old before → IsUtf8 text
    → OnOk result (new.items ≡ (old.items ++ []) ++ text) → OnOk result (new.in_handle ≡ (old.in_handle && nat_le (length new.items) INLINE_CAPACITY))
    → OnOk result (RisesAtMost before after (0 + length text + spill_cost old.in_handle new.in_handle)) → OnOk result (RisesAtLeast before after (0 + length text))
    → OnErr result (after ≡ before) → OnErr result (new ≡ old) → IsDraft new after
goes_on (Ok done) old new before after text draft utf8 items place counted copied none same =
    let items_are : new.items ≡ old.items ++ text = items ∙ ap (λ front. front ++ text) (append-nil old.items) in
    let len = ap length items_are ∙ length-append old.items text in
    record {
      utf8 = ap is_utf8 items_are ∙ is_utf8-from_IsUtf8 _ (IsUtf8-append old.items text (IsUtf8-from_is_utf8 old.items draft.utf8) utf8);
      at_most = omega (arith, len, counted_on old.in_handle new.in_handle (nat_le (length new.items) INLINE_CAPACITY) before after (length old.items) (length text) place draft.at_most counted.at_most);
      at_least = omega (arith, len, draft.at_least, copied);
    }
goes_on (Err error) old new before after text draft utf8 items place counted copied none same = rw (same, none) draft

-- what a formatter wrote behind nothing
pub all_written : (from to : Formatter Drafted) (told : Option (List ℕ)) (draft : Drafted) (done : Unit {0}) → (formatter_writer from).items ≡ [] → IsPlainFormatter from
    → DisplaysOnOk (λ old text new. new.items ≡ old.items ++ text) from (Ok done) told to → draft ≡ formatter_writer to
    → IfSome told (λ text. draft.items ≡ text)
all_written from to None draft done none plain written same = tt
all_written from to (Some text) draft done none plain written same =
    ap (λ (d : Drafted). d.items) same
    ∙ contents_after_writes (λ old more new. new.items ≡ old.items ++ more) (λ (d : Drafted). d.items) (λ old more new is. is) (formatter_writer from) text (formatter_writer to) (written plain refl).wrote
    ∙ ap (λ front. front ++ text) none

-- a text that was pushed
pub pushed_text : {T E : Type 0} (shares : Bool) (old new : Handle) (text : List ℕ) (result : Result T E) → IsUtf8 text → PushAnswers shares old text result new
    → OnOk result (PushesText shares old new)
pushed_text shares old new text (Ok done) utf8 pushed = (text, utf8, pushed)
pushed_text shares old new text (Err error) utf8 refused = tt

-- what a value tells of its text, at a handle's end
pub appended_text : {T E : Type 0} (shares : Bool) (old new : Handle) (text : List ℕ) (told : Option (List ℕ)) (result : Result T E) → IfSome told (λ known. text ≡ known)
    → PushAnswers shares old text result new → OnOk result (AppendsText old.items new.items told)
appended_text shares old new text (Some known) (Ok done) is pushed = pushed.items ∙ ap (λ more. old.items ++ more) is
appended_text shares old new text None (Ok done) is pushed = tt
appended_text shares old new text told (Err error) is refused = tt

-- a refused push
pub refused_push : {T E : Type 0} (shares : Bool) (old new : Handle) (text : List ℕ) (result : Result T E) → PushAnswers shares old text result new → OnErr result (new ≡ old)
refused_push shares old new text (Ok done) pushed = tt
refused_push shares old new text (Err error) refused = refused.1

-- the length of what was pushed
pub added : {shares : Bool} {old new : Handle} {text : List ℕ} → IsPushed shares old new text → length new.items - length old.items ≡ length text
added {shares} {old} {new} {text} pushed = omega (arith, ap length pushed.items, length-append old.items text)

-- what was gathered and pushed
pub written_counts : {T E : Type 0} (shares : Bool) (old new : Handle) (text : List ℕ) (result : Result T E) (before between after : ℕ)
    → RisesAtMost before between (length text + INLINE_CAPACITY) → RisesAtMost between after (push_cost shares (length old.items) (length text)) → PushAnswers shares old text result new
    → OnOk result (RisesAtMost before after (written_cost shares (length old.items) (length new.items - length old.items)))
written_counts shares old new text (Ok done) before between after first second pushed =
    let P : ℕ → Type 0 = λ n. RisesAtMost before after (written_cost shares (length old.items) n) in
    subst P (sym (added pushed)) (record { never_falls = omega (arith, first.never_falls, second.never_falls); at_most = omega (arith, first.at_most, second.at_most) })
written_counts shares old new text (Err error) before between after first second refused = tt

pub written_copies : {T E : Type 0} (shares : Bool) (old new : Handle) (text : List ℕ) (result : Result T E) (before between after : ℕ)
    → before ≤ between → OnOk result (RisesAtLeast between after (length text)) → PushAnswers shares old text result new
    → OnOk result (RisesAtLeast before after (length new.items - length old.items))
written_copies shares old new text (Ok done) before between after first second pushed =
    let P : ℕ → Type 0 = λ n. RisesAtLeast before after n in
    subst P (sym (added pushed)) (omega (arith, first, second))
written_copies shares old new text (Err error) before between after first second refused = tt

pub ruleset pushes_draft = (pushed_text, appended_text, refused_push, written_counts, written_copies)

pub ruleset drafts = (IsUtf8-from_is_utf8, is_utf8-from_IsUtf8, IsUtf8-append)
