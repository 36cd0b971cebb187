-- Calls that keep a text UTF-8, and tests that bytes are.
use Rattle.std.proofs.Common.{◌≡◌, ◌∙◌, ℕ, zero, suc, ◌-◌, ◌≤◌, Bool, true, false, List, [], ◌++◌, length, drop, take, slice_index, slice_range, Option, Some, None, IfSome, Result, Ok, Err, OnOk, OnErr, ap, refl, subst, sym, arith}
use Rattle.std.proofs.lemmas.List.{get_or-drop, length-drop}
use Rattle.std.proofs.Math.Decide.{dec_le}
use Rattle.std.proofs.Math.Nat.{lt_of_not-le}
use Rattle.std.proofs.Math.Seq.{take-append_seam}
use Rattle.std.specs.Char.{encode_utf8}
use Rattle.std.specs.List.{repeat}
use Rattle.std.specs.Option.{IfNone, is_some}
use Rattle.std.specs.Str.{IsCharBoundary}
use Rattle.std.specs.Str.{is_utf8}
use Rattle.std.proofs.lemmas.Str.{IsUtf8-append, IsUtf8-drop, IsUtf8-nil, IsUtf8-string_bytes, IsUtf8-take, IsUtf8-from_is_utf8, is_utf8-from_IsUtf8}
use Rattle.std.specs.Prelude.{IsUtf8}
use Rattle.std.specs.String.{string_vec}
use Rattle.std.specs.declared.string.String.{String}
use Rattle.std.specs.declared.vec.Vec.{Vec}
use Rattle.hip_bytes.specs.Handle.{Handle}
use Rattle.hip_bytes.specs.Change.{IsShortened, PushAnswers, PushesText, ShrinkAnswers}
use Rattle.hip_bytes.specs.Kinds.{HoldsByLength}
use Rattle.hip_bytes.specs.Made.{IsPart}
use mathlib.Core.HLevel.{is_prop→PathP}
use mathlib.Core.Logic.{∥∥₁_prop}

-- a text that another follows
pub is_utf8-append : (front back : List ℕ) → is_utf8 front ≡ true → IsUtf8 back → is_utf8 (front ++ back) ≡ true
is_utf8-append front back text more = is_utf8-from_IsUtf8 (front ++ back) (IsUtf8-append front back (IsUtf8-from_is_utf8 front text) more)

-- a text that was pushed to
pub is_utf8-pushed : {T E : Type 0} (shares : Bool) (old : Handle) (addition : List ℕ) (result : Result T E) (new : Handle)
    → PushAnswers shares old addition result new → is_utf8 old.items ≡ true → IsUtf8 addition → is_utf8 new.items ≡ true
is_utf8-pushed shares old addition (Ok done) new pushed text more = ap is_utf8 pushed.items ∙ is_utf8-append old.items addition text more
is_utf8-pushed shares old addition (Err error) new refused text more = ap (λ (handle : Handle). is_utf8 handle.items) refused.1 ∙ text

-- an end of a part, from where the part starts
pub boundary-drop : (text : List ℕ) (start end : ℕ) → start ≤ end → IsCharBoundary text end → IsCharBoundary (drop start text) (end - start)
boundary-drop text start end ordered at =
    let there : slice_index (drop start text) (end - start) ≡ slice_index text end = get_or-drop start text (end - start) 0 ∙ ap (slice_index text) (omega arith) in (
      omega (arith, length-drop start text, at.0),
      λ within high. subst (λ (byte : ℕ). 192 ≤ byte) (sym there) (at.1 (omega (arith, length-drop start text, within)) (subst (λ (byte : ℕ). 128 ≤ byte) there high)),
    )

-- a text at whose end a value wrote
pub is_utf8-written : {T E : Type 0} (shares : Bool) (old new : Handle) (result : Result T E) → OnOk result (PushesText shares old new) → OnErr result (new ≡ old)
    → is_utf8 old.items ≡ true → is_utf8 new.items ≡ true
is_utf8-written shares old new (Ok done) (addition, more, pushed) same text = ap is_utf8 pushed.items ∙ is_utf8-append old.items addition text more
is_utf8-written shares old new (Err error) pushed same text = ap (λ (handle : Handle). is_utf8 handle.items) same ∙ text

-- the part of a text between two boundaries
pub is_utf8-part : (text : List ℕ) (start end : ℕ) → is_utf8 text ≡ true → start ≤ end → IsCharBoundary text start → IsCharBoundary text end
    → is_utf8 (slice_range text start end) ≡ true
is_utf8-part text start end utf8 ordered at_start at_end =
    is_utf8-from_IsUtf8 _ (IsUtf8-take (drop start text) (end - start) (IsUtf8-drop text start (IsUtf8-from_is_utf8 text utf8) at_start) (boundary-drop text start end ordered at_end))

-- a handle that was cut so
pub is_utf8-cut : (source part : Handle) (start end : ℕ) → is_utf8 source.items ≡ true → start ≤ end → IsCharBoundary source.items start → IsCharBoundary source.items end
    → IsPart source part (slice_range source.items start end) → is_utf8 part.items ≡ true
is_utf8-cut source part start end utf8 ordered at_start at_end cut = ap is_utf8 cut.items_are ∙ is_utf8-part source.items start end utf8 ordered at_start at_end

-- a text that was shortened at a boundary
pub is_utf8-shortened : (old new : Handle) (len : ℕ) → IsShortened old new len → is_utf8 old.items ≡ true
    → (len ≤ length old.items → IsCharBoundary old.items len) → is_utf8 new.items ≡ true
is_utf8-shortened old new len shortened utf8 at_boundary = by-length (dec_le len (length old.items)) where
  by-length : Dec (len ≤ length old.items) → is_utf8 new.items ≡ true
  by-length (yes within) = ap is_utf8 shortened.items ∙ is_utf8-from_IsUtf8 _ (IsUtf8-take old.items len (IsUtf8-from_is_utf8 old.items utf8) (at_boundary within))
  by-length (no past) = ap (λ (handle : Handle). is_utf8 handle.items) (shortened.unchanged (omega (arith, lt_of_not-le past))) ∙ utf8

-- a text that gave room back
pub is_utf8-shrunk : {T E : Type 0} (old : Handle) (room : ℕ) (result : Result T E) (new : Handle) → ShrinkAnswers old room result new
    → is_utf8 old.items ≡ true → is_utf8 new.items ≡ true
is_utf8-shrunk old room (Ok done) new shrunk utf8 = ap is_utf8 shrunk.items ∙ utf8
is_utf8-shrunk old room (Err error) new refused utf8 = ap (λ (handle : Handle). is_utf8 handle.items) refused.1 ∙ utf8

-- a text whose last character was taken off
pub is_utf8-popped : (old new : Handle) (rest : List ℕ) (c : ℕ) {kept : List ℕ} → IsShortened old new (length rest) → old.items ≡ kept ++ encode_utf8 c → rest ≡ kept
    → IsUtf8 rest → is_utf8 new.items ≡ true
is_utf8-popped old new rest c {kept} shortened whole same utf8 =
    ap is_utf8 (shortened.items ∙ ap (take (length rest)) (whole ∙ ap (λ front. front ++ encode_utf8 c) (sym same)) ∙ take-append_seam rest (encode_utf8 c)) ∙ is_utf8-from_IsUtf8 rest utf8

-- a handle of the bytes of a `String`
pub is_utf8-taken : {Z : Type 0} (string : String Z) (vec : Vec ℕ Z) (bytes : Handle) → vec ≡ string_vec string → bytes.items ≡ vec.items → is_utf8 bytes.items ≡ true
is_utf8-taken string vec bytes same holds = ap is_utf8 (holds ∙ ap (λ v. v.items) same) ∙ is_utf8-from_IsUtf8 _ (IsUtf8-string_bytes string)

-- a `String` is its vector
pub same_string : {Z : Type 0} (a b : String Z) → string_vec a ≡ string_vec b → a ≡ b
same_string a b same = λ i. record { bytes = same i; ok = is_prop→PathP (λ j. ∥ IsUtf8 (same j).items ∥₁) (λ j. ∥∥₁_prop) a.ok b.ok i }

-- a text that was put back
pub is_utf8-put : {T E : Type 0} (old new : Handle) (items : List ℕ) (result : Result T E) → OnOk result (HoldsByLength new items) → OnErr result (new ≡ old)
    → is_utf8 old.items ≡ true → IsUtf8 items → is_utf8 new.items ≡ true
is_utf8-put old new items (Ok done) put same utf8 over = ap is_utf8 put.items_are ∙ is_utf8-from_IsUtf8 items over
is_utf8-put old new items (Err error) put same utf8 over = ap (λ (handle : Handle). is_utf8 handle.items) same ∙ utf8

-- a text so many times
pub is_utf8-repeat : (n : ℕ) (text : List ℕ) → is_utf8 text ≡ true → is_utf8 (repeat n text) ≡ true
is_utf8-repeat zero text utf8 = is_utf8-from_IsUtf8 [] IsUtf8-nil
is_utf8-repeat (suc n) text utf8 = is_utf8-append text (repeat n text) utf8 (IsUtf8-from_is_utf8 (repeat n text) (is_utf8-repeat n text utf8))

-- bytes that aren't one
not-true : (b : Bool) → (b ≡ true → ⊥) → b ≡ false
not-true true never = absurd (never refl)
not-true false never = refl

pub not-is_utf8 : (bytes : List ℕ) → ¬ (IsUtf8 bytes) → is_utf8 bytes ≡ false
not-is_utf8 bytes never = not-true (is_utf8 bytes) (λ utf8. never (IsUtf8-from_is_utf8 bytes utf8))

-- bytes in which no fault was found
pub no_fault : {E : Type 0} (fault : Option E) {bytes items : List ℕ} {found : Bool} → IfNone fault (IsUtf8 bytes) → found ≡ is_some fault → found ≡ false → bytes ≡ items → IsUtf8 items
no_fault None utf8 is never same = subst IsUtf8 same utf8
no_fault (Some error) utf8 is never same = absurd (cc)

-- bytes in which one was found
pub a_fault : {E : Type 0} (Cause : E → Type 0) (fault : Option E) {bytes items : List ℕ} {found : Bool}
    → IfSome fault (λ error. ¬ (IsUtf8 bytes) × Cause error) → found ≡ is_some fault → found ≡ true → bytes ≡ items → ¬ (IsUtf8 items)
a_fault Cause None told is found same = absurd (cc)
a_fault Cause (Some error) told is found same = λ utf8. told.0 (subst IsUtf8 (sym same) utf8)

pub ruleset texts = (IsUtf8-from_is_utf8, is_utf8-from_IsUtf8, not-is_utf8)

pub ruleset pushes = (texts, is_utf8-pushed)

pub ruleset writes = (texts, is_utf8-written)

pub ruleset cuts = (texts, is_utf8-part)

pub ruleset shortens = (texts, is_utf8-shortened)

pub ruleset shrinks = (texts, is_utf8-shrunk)

pub ruleset strings = (texts, IsUtf8-string_bytes, same_string)

pub ruleset repeats = (texts, is_utf8-repeat)
