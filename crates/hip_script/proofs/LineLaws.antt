-- The first line of a text, by where its line feed stands.
use Rattle.std.proofs.Common.{◌≡◌, ℕ, ◌-◌, ◌<◌, ◌≤◌, suc, zero, List, [], ◌∷◌, length, get_or, take, drop, false, nat_eq, arith, refl, ◌∙◌, ap, ⊎_elim}
use Rattle.std.proofs.lemmas.Bool.{ne_eqb, cases_eq, and_right}
use Rattle.hip_script.proofs.Bytes.{FirstAt, Nowhere, later-at, later-nowhere}
use Rattle.hip_script.specs.Lines.{lines, onto, without_return}

return-ends : (line : List ℕ) (k : ℕ) → suc k ≡ length line → get_or line k 0 ≡ 13 → take k line ≡ without_return line
unfolding without_return
return-ends [] k len is = absurd (omega arith)
return-ends (b ∷ []) zero len is = rw is refl
return-ends (b ∷ []) (suc k) len is = absurd (omega arith)
return-ends (b ∷ c ∷ cs) zero len is = absurd (omega arith)
return-ends (b ∷ c ∷ cs) (suc k) len is = ap (λ t. b ∷ t) (return-ends (c ∷ cs) k (omega arith) is)

no_return-ends : (line : List ℕ) → ((k : ℕ) → suc k ≡ length line → get_or line k 0 ≡ 13 → ⊥) → line ≡ without_return line
unfolding without_return
no_return-ends [] h = refl
no_return-ends (b ∷ []) h = rw (ne_eqb b 13 (h zero refl)) refl
no_return-ends (b ∷ c ∷ cs) h = ap (λ t. b ∷ t) (no_return-ends (c ∷ cs) (λ k len is. h (suc k) (omega arith) is))

pub ends_with_return : (line : List ℕ) → 1 ≤ length line → get_or line (length line - 1) 0 ≡ 13 → take (length line - 1) line ≡ without_return line
ends_with_return line some is = return-ends line (length line - 1) (omega arith) is

pub ends_without_return : (line : List ℕ) → (get_or line (length line - 1) 0 ≡ 13 → ⊥) → line ≡ without_return line
ends_without_return line other = no_return-ends line (λ k len is. other (ap (λ n. get_or line n 0) (omega arith) ∙ is))

pub no_line : (line : List ℕ) → length line < 1 → line ≡ without_return line
unfolding without_return
no_line [] h = refl
no_line (b ∷ bs) h = absurd (omega arith)

at_feed : (b : ℕ) (bs : List ℕ) → b ≡ 10 → lines (b ∷ bs) ≡ [] ∷ lines bs
unfolding lines
at_feed b bs is = rw is refl

at_return : (b c : ℕ) (bs : List ℕ) → b ≡ 13 → c ≡ 10 → lines (b ∷ c ∷ bs) ≡ [] ∷ lines bs
unfolding lines
at_return b c bs is feed = rw (is, feed) refl

at_other : (b c : ℕ) (bs : List ℕ) → (b ≡ 10 → ⊥) → (c ≡ 10 → ⊥) → lines (b ∷ c ∷ bs) ≡ onto b (lines (c ∷ bs))
unfolding lines
at_other b c bs other later = rw (ne_eqb b 10 other, ne_eqb c 10 later) (rw (and_right (nat_eq b 13) false refl) refl)

at_no_return : (b c : ℕ) (bs : List ℕ) → (b ≡ 10 → ⊥) → (b ≡ 13 → ⊥) → lines (b ∷ c ∷ bs) ≡ onto b (lines (c ∷ bs))
unfolding lines
at_no_return b c bs other plain = rw (ne_eqb b 10 other, ne_eqb b 13 plain) refl

at_last : (b : ℕ) → (b ≡ 10 → ⊥) → lines (b ∷ []) ≡ (b ∷ []) ∷ []
unfolding lines
at_last b other = rw (ne_eqb b 10 other) (rw (and_right (nat_eq b 13) false refl) refl)

pub first_line-ends : (text : List ℕ) (at : ℕ) → FirstAt 10 text at → lines text ≡ without_return (take at text) ∷ lines (drop (suc at) text)
unfolding without_return
first_line-ends [] at h = absurd (let inside = h.inside in omega arith)
first_line-ends (b ∷ bs) zero h = at_feed b bs h.here
first_line-ends (b ∷ []) (suc at) h = absurd (let inside = h.inside in omega arith)
first_line-ends (b ∷ c ∷ cs) (suc zero) h =
    let other : b ≡ 10 → ⊥ = h.before zero (omega arith) in
    ⊎_elim (λ is. rw is (at_return 13 c cs refl h.here))
    (λ plain. at_no_return b c cs other plain ∙ rw (at_feed c cs h.here) (rw (ne_eqb b 13 plain) refl)) (cases_eq b 13)
first_line-ends (b ∷ c ∷ cs) (suc (suc at)) h =
    let other : b ≡ 10 → ⊥ = h.before zero (omega arith) in
    let later : c ≡ 10 → ⊥ = h.before (suc zero) (omega arith) in
    at_other b c cs other later ∙ ap (onto b) (first_line-ends (c ∷ cs) (suc at) (later-at 10 b (c ∷ cs) (suc at) h))

only_line : (text : List ℕ) → 0 < length text → Nowhere 10 text → lines text ≡ text ∷ []
only_line [] some h = absurd (omega arith)
only_line (b ∷ []) some h = at_last b (h.none zero (omega arith))
only_line (b ∷ c ∷ cs) some h =
    at_other b c cs (h.none zero (omega arith)) (h.none (suc zero) (omega arith))
    ∙ ap (onto b) (only_line (c ∷ cs) (omega arith) (later-nowhere 10 b (c ∷ cs) h))

pub last_line : (text : List ℕ) → 0 < length text → Nowhere 10 text → lines text ≡ text ∷ lines []
unfolding lines
last_line text some h = only_line text some h
