-- The next word of a line, by where its space stands.
use Rattle.std.proofs.Common.{◌≡◌, ℕ, suc, zero, ◌-◌, ◌≤◌, List, [], ◌∷◌, length, get_or, take, drop, true, Some, None, arith, refl, ap}
use Rattle.std.proofs.lemmas.Bool.{and_parts, eq-eqb, leb-true, ne_eqb}
use Rattle.std.specs.Char.{is_ascii_digit}
use Rattle.hip_script.proofs.Bytes.{FirstAt, Nowhere, later-at, later-nowhere}
use Rattle.hip_script.proofs.NumberLaws.{one-digit}
use Rattle.hip_script.specs.Words.{next_word, number_of, said_at, with_byte}

pub word-ends : (text : List ℕ) (at : ℕ) → FirstAt 32 text at → next_word text ≡ (take at text, Some (drop (suc at) text))
unfolding next_word
word-ends [] at h = absurd (let inside = h.inside in omega arith)
word-ends (b ∷ bs) zero h = rw (eq-eqb b 32 h.here) refl
word-ends (b ∷ bs) (suc at) h =
    let other : b ≡ 32 → ⊥ = h.before zero (omega arith) in
    rw (ne_eqb b 32 other) (ap (with_byte b) (word-ends bs at (later-at 32 b bs at h)))

pub last_word : (text : List ℕ) → Nowhere 32 text → next_word text ≡ (text, None)
unfolding next_word
last_word [] h = refl
last_word (b ∷ bs) h = rw (ne_eqb b 32 (h.none zero (omega arith))) (ap (with_byte b) (last_word bs (later-nowhere 32 b bs h)))

no_space : (d : ℕ) → is_ascii_digit d ≡ true → d ≡ 32 → ⊥
no_space d is space = let least : 48 ≤ d = leb-true 48 d (and_parts _ _ is).0 in omega arith

-- a word of one digit, with a space behind it, or at the end of its line
pub digit-word : (text : List ℕ) → 2 ≤ length text → get_or text 1 0 ≡ 32 → is_ascii_digit (get_or text 0 0) ≡ true
    → said_at number_of (Some text) ≡ Some (get_or text 0 0 - 48, Some (drop 2 text))
unfolding next_word
digit-word [] two space is = absurd (omega arith)
digit-word (d ∷ []) two space is = absurd (omega arith)
digit-word (d ∷ s ∷ rest) two space is = rw (ne_eqb d 32 (no_space d is), space) (rw (one-digit d is) refl)

pub digit-ends : (text : List ℕ) → length text ≡ 1 → is_ascii_digit (get_or text 0 0) ≡ true
    → said_at number_of (Some text) ≡ Some (get_or text 0 0 - 48, None)
unfolding next_word
digit-ends [] one is = absurd (omega arith)
digit-ends (d ∷ []) one is = rw (ne_eqb d 32 (no_space d is)) (rw (one-digit d is) refl)
digit-ends (d ∷ e ∷ rest) one is = absurd (omega arith)
