-- Clones of patterns and of iterators, which keep what their originals have.
use Rattle.std.proofs.Common.{ap, arith, refl, subst, sym, ◌∙◌}
use Rattle.std.proofs.lemmas.Bool.Decides.{nat_tests}
use Rattle.std.proofs.lemmas.Grind.{common_steps}
use Rattle.std.specs.Prelude.{◌≡◌, ℕ, Bool, Option, List, [], map, if◌then◌else◌}
use Rattle.hip_match.specs.Pieces.{ended, gaps, gaps_back}
use Rattle.hip_match.specs.Ready.{IsBetween, IsBetweenBack}
use Rattle.hip_match.specs.Runs.{line_of}

-- the pattern q may be searched for where p may, and occurs where p does
pub record KeepsPattern {P : Type 0} (can_search : P → Type 0) (ends : P → List ℕ → ℕ → Option ℕ) (p q : P)
    : Type 0 where
  pub searchable : can_search p → can_search q
  pub occurs : ends q ≡ ends p

-- each clone of a pattern is such
abbrev pub ClonesKeep : {P : Type 0} → (P → P → Type 0) → (P → Type 0) → (P → List ℕ → ℕ → Option ℕ) → Type 0
ClonesKeep {P} is_clone can_search ends = (p q : P) → is_clone p q → KeepsPattern can_search ends p q

-- a copy is ready where its original is, of the same text and with the same ranges still to come
pub record Keeps (can copy_can : Type 0) (t copy_t : List ℕ) (l copy_l : List (ℕ × ℕ)) : Type 0 where
  pub ready : can → copy_can
  pub text : copy_t ≡ t
  pub rest : copy_l ≡ l

-- the iterator `copy` is ready where i is, and gives the same ranges of the same text
abbrev pub KeepsRanges : {I : Type 0} → (I → Type 0) → (I → List ℕ) → (I → List (ℕ × ℕ)) → I → I → Type 0
KeepsRanges ready text rest i copy = Keeps (ready i) (ready copy) (text i) (text copy) (rest i) (rest copy)

-- an equal iterator keeps all
pub same_ranges : {I : Type 0} (ready : I → Type 0) (text : I → List ℕ) (rest : I → List (ℕ × ℕ)) {i copy : I} → copy ≡ i
    → KeepsRanges ready text rest i copy
same_ranges ready text rest is = record { ready = subst ready (sym is); text = ap text is; rest = ap rest is }

-- ---- what follows of the parts of an iterator

-- the parts that a place, a list of matches and another place make, where what lies in order between the places stays so
pub parts_kept : {A : Type 0} (Between : List ℕ → ℕ → List (ℕ × ℕ) → ℕ → Type 0)
    (parts : A → ℕ → List (ℕ × ℕ) → ℕ → List (ℕ × ℕ)) {can copy_can : Type 0} {t u : List ℕ} {l m : List (ℕ × ℕ)}
    {i j k n : ℕ} {d b : A} → Keeps can copy_can t u l m → j ≡ i → n ≡ k → b ≡ d
    → Keeps (can × Between t i l k) (copy_can × Between u j m n) t u (parts d i l k) (parts b j m n)
parts_kept Between parts kept from to last = grind (arith, nat_tests, common_steps)

-- a list that is made of ranges
pub made_kept : {can copy_can : Type 0} {t u : List ℕ} {l m : List (ℕ × ℕ)} {f g : List (ℕ × ℕ) → List (ℕ × ℕ)}
    → g ≡ f → Keeps can copy_can t u l m → Keeps can copy_can t u (f l) (g m)
made_kept same kept = record { ready = kept.ready; text = kept.text; rest = rw (same, kept.rest) refl }

-- the gaps between the matches that are left
pub gaps_kept : {can copy_can : Type 0} {t u : List ℕ} {l m : List (ℕ × ℕ)} {i j k n : ℕ} {d b : Bool}
    → Keeps can copy_can t u l m → j ≡ i → n ≡ k → b ≡ d
    → Keeps (can × IsBetween t i l k) (copy_can × IsBetween u j m n) t u
    (if d then [] else gaps i l k) (if b then [] else gaps j m n)
gaps_kept = parts_kept IsBetween (λ done i l n. if done then [] else gaps i l n)

-- like `gaps_kept`, but of matches that are listed from the back
pub gaps_back_kept : {can copy_can : Type 0} {t u : List ℕ} {l m : List (ℕ × ℕ)} {i j k n : ℕ} {d b : Bool}
    → Keeps can copy_can t u l m → j ≡ i → n ≡ k → b ≡ d
    → Keeps (can × IsBetweenBack t i l k) (copy_can × IsBetweenBack u j m n) t u
    (if d then [] else gaps_back i l k) (if b then [] else gaps_back j m n)
gaps_back_kept =
    parts_kept IsBetweenBack (λ done i l n. if done then [] else gaps_back i l n)

-- the parts that matches end
pub ended_kept : {can copy_can : Type 0} {t u : List ℕ} {l m : List (ℕ × ℕ)} {i j k n : ℕ} {d b : Bool}
    → Keeps can copy_can t u l m → j ≡ i → n ≡ k → b ≡ d
    → Keeps (can × IsBetween t i l k) (copy_can × IsBetween u j m n) t u
    (if d then [] else ended i l k) (if b then [] else ended j m n)
ended_kept = parts_kept IsBetween (λ done i l n. if done then [] else ended i l n)

-- the lines of a text, of which the parts are ranges too
pub lines_kept : {can copy_can : Type 0} {v w t u : List ℕ} {l m : List (ℕ × ℕ)} → u ≡ t → Keeps can copy_can v w l m
    → Keeps (can × (v ≡ t)) (copy_can × (w ≡ u)) t u (map (line_of t) l) (map (line_of u) m)
lines_kept text kept =
    record { ready = λ h. (kept.ready h.0, kept.text ∙ h.1 ∙ sym text); text = text; rest = rw (text, kept.rest) refl }
