-- The numbers once one more text is interned.
use Rattle.std.proofs.Common.{◌≡◌, ℕ, ◌+◌, ◌<◌, ◌≤◌, nat_eq, List, [], ◌∷◌, ◌++◌, Option, None, Some, length, map, get_or, arith, Bor, IfSome, MatchOption, if◌then◌else◌}
use Rattle.std.proofs.lemmas.Grind.{common_steps}
use Rattle.std.proofs.lemmas.List.{map-append}
use Rattle.std.proofs.lemmas.Option.{gets, slice_get-map}
use Rattle.std.proofs.lemmas.Slice.Eq.{bytes_eq-Decides}
use Rattle.std.proofs.Math.ListN.{get_or-append}
use Rattle.std.specs.Cmp.Lexicographic.{pointwise}
use Rattle.hipstr.specs.Handle.{Handle}
use Rattle.hip_uses.specs.Number.{StandOnce, text_bytes, number_from, number_of}

-- the first of two numbers that there is
abbrev or_number : Option ℕ → Option ℕ → Option ℕ
or_number None o = o
or_number (Some n) o = Some n

pub number_from-push : (from : ℕ) (t u : List ℕ) (ts : List (List ℕ))
    → number_from from t (ts ++ u ∷ []) ≡ or_number (number_from from t ts) (if pointwise nat_eq t u then Some (from + length ts) else None)
number_from-push from t u [] = grind arith
number_from-push from t u (x ∷ ts) = grind (arith, number_from-push (from + 1) t u ts)

-- no text stands twice where a new one is put at the end
pub StandOnce-push : (word : List ℕ) (ts : List (List ℕ)) → number_of word ts ≡ None → StandOnce ts → StandOnce (ts ++ word ∷ [])
StandOnce-push word ts none once number text found = grind (arith, common_steps, gets, number_from-push, bytes_eq-Decides, get_or-append)

-- the text of a number, where no text stands twice
pub text-numbered : (Q : Bor Handle → Type 0) (result : Option (Bor Handle)) (items : List Handle) (texts : List (List ℕ)) (number : ℕ) → IfSome result (λ text. text.now ≡ get_or items number text.now)
    → MatchOption result (length items ≤ number) (λ text. (number < length items) × Q text) → map text_bytes items ≡ texts → StandOnce texts → IfSome result (λ text. number_of text.now.items texts ≡ Some number)
text-numbered Q None items texts number is within are once = tt
text-numbered Q (Some text) items texts number is within are once = once number text.now.items (grind (arith, gets, slice_get-map))

pub ruleset pushes = (map-append, StandOnce-push, number_from-push, bytes_eq-Decides)
