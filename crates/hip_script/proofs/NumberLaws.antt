-- The numbers that digits spell, a digit at a time.
use Rattle.std.proofs.Common.{◌≡◌, ℕ, ◌+◌, ◌-◌, ◌*◌, ◌^◌, ◌<◌, ◌≤◌, true, false, List, [], ◌∷◌, length, get_or, drop, Some, None, arith, refl, ◌∙◌, ap}
use Rattle.std.proofs.lemmas.Bool.{lt-ltb, le-ltb, leb-true, and_right, and_parts}
use Rattle.std.proofs.{lemmas.List.drop_more, lemmas.List.drop_all, lemmas.Str.digit_value_digit}
use Rattle.std.specs.{Char.is_ascii_digit, Char.digit_value, Str.all_ascii_digits, Str.Parse.digits_value_after}
use Rattle.hip_script.specs.Words.{number_after, number_of}

digit-value : (d : ℕ) → is_ascii_digit d ≡ true → digit_value d + 48 ≡ d
digit-value d is = let p = and_parts _ _ is in digit_value_digit d (leb-true 48 d p.0, leb-true d 57 p.1)

grows : (n : ℕ) (digits : List ℕ) → n ≤ digits_value_after 10 n digits
grows n [] = omega arith
grows n (d ∷ digits) = let more = grows (n * 10 + digit_value d) digits in omega arith

none_beyond : (n : ℕ) (digits : List ℕ) → 2 ^ 64 ≤ n → number_after n digits ≡ None
unfolding number_after
none_beyond n digits beyond =
    let more = grows n digits in
    rw (le-ltb (digits_value_after 10 n digits) (2 ^ 64) (omega arith)) (rw (and_right (all_ascii_digits digits) false refl) refl)

at_digit : (n d : ℕ) (digits : List ℕ) → is_ascii_digit d ≡ true → number_after n (d ∷ digits) ≡ number_after (n * 10 + digit_value d) digits
unfolding number_after
at_digit n d digits is = rw is refl

at_other : (n d : ℕ) (digits : List ℕ) → is_ascii_digit d ≡ false → number_after n (d ∷ digits) ≡ None
unfolding number_after
at_other n d digits is = rw is refl

pub number-is_some : (word : List ℕ) → 0 < length word → number_of word ≡ number_after 0 word
number-is_some [] some = absurd (omega arith)
number-is_some (d ∷ digits) some = refl

pub number-ends : (n i : ℕ) (word : List ℕ) → length word ≤ i → n < 2 ^ 64 → number_after n (drop i word) ≡ Some n
unfolding number_after
number-ends n i word all fits = rw (drop_all i word all, lt-ltb n (2 ^ 64) fits) refl

pub number-goes_on : (n i d : ℕ) (word : List ℕ) → i < length word → get_or word i 0 ≡ d → is_ascii_digit d ≡ true
    → number_after n (drop i word) ≡ number_after (n * 10 + (d - 48)) (drop (i + 1) word)
number-goes_on n i d word inside is digit =
    rw (drop_more word i 0 inside, is) (at_digit n d _ digit ∙ ap (λ v. number_after (n * 10 + v) (drop (i + 1) word)) (let value = digit-value d digit in omega arith))

pub number-stops : (n i d : ℕ) (word : List ℕ) → i < length word → get_or word i 0 ≡ d → is_ascii_digit d ≡ false → number_after n (drop i word) ≡ None
number-stops n i d word inside is other = rw (drop_more word i 0 inside, is) (at_other n d _ other)

pub number-overflows : (n i d : ℕ) (word : List ℕ) → i < length word → get_or word i 0 ≡ d → is_ascii_digit d ≡ true
    → 2 ^ 64 ≤ n * 10 + (d - 48) → number_after n (drop i word) ≡ None
number-overflows n i d word inside is digit beyond = number-goes_on n i d word inside is digit ∙ none_beyond _ _ beyond

small-digit : (d : ℕ) → is_ascii_digit d ≡ true → d ≤ 57
small-digit d is = let p = and_parts _ _ is in leb-true d 57 p.1

-- a word of one digit
pub one-digit : (d : ℕ) → is_ascii_digit d ≡ true → number_of (d ∷ []) ≡ Some (d - 48)
one-digit d is =
    let value : digit_value d + 48 ≡ d = digit-value d is in
    let most = small-digit d is in
    at_digit 0 d [] is ∙ number-ends (0 * 10 + digit_value d) 0 [] (omega arith) (omega arith) ∙ ap Some (omega arith)
