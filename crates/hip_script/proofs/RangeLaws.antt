-- A range, by where its first dot stands.
use Rattle.std.proofs.Common.{◌≡◌, ℕ, suc, zero, List, [], ◌∷◌, take, drop, Option, Some, None, arith, refl, sym, ap, ◌∙◌}
use Rattle.std.proofs.lemmas.Bool.{eq-eqb, ne_eqb}
use Rattle.std.specs.{Option.option_and_then, declared.ops.Bound.Bound}
use Rattle.hip_script.proofs.Bytes.{FirstAt, Nowhere, later-at, later-nowhere}
use Rattle.hip_script.specs.Words.{at_dot, behind_dots, low_of, range_at, range_of}

dot-found : (word : List ℕ) (at : ℕ) → FirstAt 46 word at → at_dot word ≡ (take at word, drop at word)
unfolding at_dot
dot-found [] at h = absurd (let inside = h.inside in omega arith)
dot-found (b ∷ bs) zero h = rw (eq-eqb b 46 h.here) refl
dot-found (b ∷ bs) (suc at) h =
    let other : b ≡ 46 → ⊥ = h.before zero (omega arith) in
    rw (ne_eqb b 46 other) (ap (λ (p : List ℕ × List ℕ). (b ∷ p.0, p.1)) (dot-found bs at (later-at 46 b bs at h)))

no_dot : (word : List ℕ) → Nowhere 46 word → at_dot word ≡ (word, [])
unfolding at_dot
no_dot [] h = refl
no_dot (b ∷ bs) h =
    rw (ne_eqb b 46 (h.none zero (omega arith))) (ap (λ (p : List ℕ × List ℕ). (b ∷ p.0, p.1)) (no_dot bs (later-nowhere 46 b bs h)))

never : (low : Option (Bound ℕ)) → option_and_then {U = Bound ℕ × Bound ℕ} (λ l. None) low ≡ None
never None = refl
never (Some l) = refl

pub no_dot-fails : (word : List ℕ) → Nowhere 46 word → range_of word ≡ None
no_dot-fails word h = ap range_at (no_dot word h) ∙ never (low_of word)

parts : (word front back : List ℕ) (at : ℕ) → FirstAt 46 word at → front ≡ take at word → back ≡ drop at word → range_of word ≡ range_at (front, back)
parts word front back at h front_is back_is = rw (front_is, back_is) (ap range_at (dot-found word at h))

pub low-fails : (word front back : List ℕ) (at : ℕ) → FirstAt 46 word at → front ≡ take at word → back ≡ drop at word → None ≡ low_of front → range_of word ≡ None
low-fails word front back at h front_is back_is none =
    parts word front back at h front_is back_is ∙ ap (option_and_then (λ low. option_and_then (λ high. Some (low, high)) (behind_dots back))) (sym none)

pub high-fails : (word front back : List ℕ) (at : ℕ) → FirstAt 46 word at → front ≡ take at word → back ≡ drop at word → None ≡ behind_dots back → range_of word ≡ None
high-fails word front back at h front_is back_is none =
    parts word front back at h front_is back_is
    ∙ ap (λ found. option_and_then (λ low. option_and_then (λ high. Some (low, high)) found) (low_of front)) (sym none) ∙ never (low_of front)

pub range-is : (word front back : List ℕ) (at : ℕ) (low high : Bound ℕ) → FirstAt 46 word at → front ≡ take at word → back ≡ drop at word
    → Some low ≡ low_of front → Some high ≡ behind_dots back → Some (low, high) ≡ range_of word
range-is word front back at low high h front_is back_is low_is high_is =
    sym (parts word front back at h front_is back_is
    ∙ ap (option_and_then (λ low. option_and_then (λ high. Some (low, high)) (behind_dots back))) (sym low_is)
    ∙ ap (option_and_then (λ high. Some (low, high))) (sym high_is))
