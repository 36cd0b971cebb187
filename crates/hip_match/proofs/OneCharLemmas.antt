-- Lemmas of a pattern whose occurrences are single characters.
use Rattle.std.proofs.Common.{arith, ◌≡◌, ◌∙◌, ap, sym, reverse, ℕ, ◌<◌, ◌≤◌, List, [], ◌∷◌, ◌++◌, Option, Some, None, ⊎_elim, IsCharBoundary}
use Rattle.std.proofs.lemmas.Bool.Decides.{nat_tests}
use Rattle.std.proofs.lemmas.Grind.{common_steps}
use Rattle.std.proofs.lemmas.Bool.{cases_lt}
use Rattle.std.proofs.lemmas.List.{reverse-append, reverse-reverse}
use Rattle.hip_match.specs.Occurrence.{IsCut, IsOneChar, NoneCrosses, EndsLast, StartsFirst}
use Rattle.hip_match.specs.Leftmost.{leftmost_between}
use Rattle.hip_match.specs.Rightmost.{rightmost_between}
use Rattle.hip_match.specs.Ready.{IsWindow}
use Rattle.hip_match.proofs.LeftmostLemmas.{leftmost_between-some, leftmost_between-none, leftmost_between-past}
use Rattle.hip_match.proofs.ReversalLemmas.{leftmost_between-reverse}
use Rattle.hip_match.proofs.RightmostLemmas.{rightmost_between-some, rightmost_between-none, rightmost_between-past}

-- each occurrence is one character between boundaries
pub record HasCharOccurrences (t : List ℕ) (e : ℕ → Option ℕ) : Type 0 where
  pub spans : (a b : ℕ) → e a ≡ Some b → IsCut t (a, b)
  pub one : (a b : ℕ) → e a ≡ Some b → IsOneChar t (a, b)

pub one_chars : (t : List ℕ) (e : ℕ → Option ℕ) → ((a b : ℕ) → e a ≡ Some b → IsCut t (a, b))
    → ((a b : ℕ) → e a ≡ Some b → IsOneChar t (a, b)) → HasCharOccurrences t e
one_chars t e spans one = record { spans = spans; one = one }

module _ (t : List ℕ) (e : ℕ → Option ℕ) (each : HasCharOccurrences t e) where
  pub nonempty : (a b : ℕ) → e a ≡ Some b → a < b
  nonempty a b is = (each.one a b is).holds

  pub apart : (a b c d : ℕ) → e a ≡ Some b → e c ≡ Some d → a < c → b ≤ c
  apart a b c d first second lt = ⊎_elim (λ (inside : c < b). absurd ((each.one a b first).one c lt inside (each.spans c d second).start)) (λ (le : b ≤ c). le) (cases_lt c b)

  pub clear : (i : ℕ) → IsCharBoundary t i → NoneCrosses e i
  clear i cut a b is lt = grind (arith, nat_tests, common_steps, cases_lt)

  pub reversed : (from to : ℕ) → IsWindow t from to → leftmost_between e from to ≡ reverse (rightmost_between e from to)
  reversed from to w = leftmost_between-reverse e from to nonempty apart (clear from w.start) w.ordered (clear to w.end)

  sorted : (k m : ℕ) → e k ≡ Some m → k ≤ m
  sorted k m is = let up : k < m = nonempty k m is in omega arith

  same_start : (a b c : ℕ) → e a ≡ Some c → e b ≡ Some c → a ≡ b
  same_start a b c left right = grind (arith, cases_lt, nonempty, apart)

  module _ (from to : ℕ) (w : IsWindow t from to) where
    -- the last of the leftmost matches, and those before it
    pub back_match : (a b : ℕ) → EndsLast e to (a, b) → from ≤ a → leftmost_between e from to ≡ leftmost_between e from a ++ (a, b) ∷ []
    back_match a b h low =
        let up : a < b = nonempty a b h.occurs in
        let left = reversed from a (record { utf8 = w.utf8; start = w.start; end = (each.spans a b h.occurs).start; ordered = low }) in
        grind (arith, nat_tests, common_steps, reversed from to w, left, rightmost_between-some e from to sorted same_start a b h low a, reverse-append)

    pub back_none : ((a b : ℕ) → e a ≡ Some b → to < b) → leftmost_between e from to ≡ []
    back_none h = grind (arith, reversed from to w, rightmost_between-none, sorted, same_start)

    pub back_past : (a b : ℕ) → EndsLast e to (a, b) → a < from → leftmost_between e from to ≡ []
    back_past a b h lt = reversed from to w ∙ ap reverse (rightmost_between-past e from to sorted same_start a b h lt (clear from w.start))

    -- the last of the rightmost matches, and those before it
    pub front_match : (a b : ℕ) → StartsFirst e from (a, b) → b ≤ to → rightmost_between e from to ≡ rightmost_between e b to ++ (a, b) ∷ []
    front_match a b h within =
        let up : a < b = nonempty a b h.occurs in
        sym (reverse-reverse (rightmost_between e from to))
        ∙ ap reverse (sym (reversed from to w) ∙ leftmost_between-some e from to a b b h within up (omega arith) (omega arith) (omega arith) (λ k lo mid hi. absurd (omega arith)))
        ∙ reverse-append ((a, b) ∷ []) (leftmost_between e b to)
        ∙ ap (λ l. l ++ (a, b) ∷ []) (grind (arith, reversed b to (record { utf8 = w.utf8; start = (each.spans a b h.occurs).end; end = w.end; ordered = within }), reverse-reverse))

    pub front_none : ((k : ℕ) → from ≤ k → e k ≡ None) → rightmost_between e from to ≡ []
    front_none h = sym (reverse-reverse (rightmost_between e from to)) ∙ ap reverse (sym (reversed from to w) ∙ leftmost_between-none e from to h)

    pub front_past : (a b : ℕ) → StartsFirst e from (a, b) → to < b → rightmost_between e from to ≡ []
    front_past a b h lt = sym (reverse-reverse (rightmost_between e from to)) ∙ ap reverse (sym (reversed from to w) ∙ leftmost_between-past e from to a b h lt (clear to w.end))
