-- Where the different words of a text first come.
use Rattle.std.proofs.Common.{◌≡◌, ℕ, ◌+◌, ◌-◌, ◌<◌, ◌≤◌, nat_lt, true, List, [], ◌∷◌, ◌++◌, Option, None, Some, length, get_or, refl, subst, arith, append_assoc}
use Rattle.std.proofs.lemmas.Grind.{common_steps}
use Rattle.std.proofs.lemmas.List.{append-nil}
use Rattle.std.proofs.lemmas.Slice.Eq.{bytes_eq-Decides}
use Rattle.std.proofs.lemmas.Bool.Decides.{nat_tests}
use Rattle.std.proofs.Math.ListN.{get_or-append}
use Rattle.hip_uses.specs.Counts.{places_rise}
use Rattle.hip_uses.specs.Number.{StandOnce, all_interned, interned, number_from, number_of}
use Rattle.hip_uses.proofs.Interned.{StandOnce-push, number_from-push}

-- a number is a place in the list, at which the text stands
pub record IsPlace (from : ℕ) (word : List ℕ) (texts : List (List ℕ)) (n : ℕ) : Type 0 where
  pub low : from ≤ n
  pub high : n < from + length texts
  pub is : get_or texts (n - from) [] ≡ word

pub number_from-place : (from : ℕ) (word : List ℕ) (texts : List (List ℕ)) (n : ℕ) → number_from from word texts ≡ Some n → IsPlace from word texts n
number_from-place from word [] n is = absurd cc
number_from-place from word (t ∷ ts) n is = grind (arith, common_steps, bytes_eq-Decides, number_from-place (from + 1) word ts n)

-- what is known of the words so far, and of the different ones among them
pub record AreFirsts (words texts : List (List ℕ)) : Type 0 where
  pub once : StandOnce texts
  pub rising : (n m : ℕ) → n < m → m < length texts → places_rise (number_of (get_or texts n []) words) (number_of (get_or texts m []) words) ≡ true
  pub all : (word : List ℕ) → number_of word texts ≡ None → number_of word words ≡ None
  pub known : (n : ℕ) → n < length texts → places_rise (number_of (get_or texts n []) words) (Some (length words)) ≡ true

-- a place stays where one more text is put behind
stays : (word last : List ℕ) (words : List (List ℕ)) (n : ℕ) → number_of word words ≡ Some n → number_of word (words ++ last ∷ []) ≡ Some n
stays word last words n is = grind (arith, number_from-push)

rise-stays : (a b last : List ℕ) (words : List (List ℕ)) → places_rise (number_of a words) (number_of b words) ≡ true → places_rise (number_of a (words ++ last ∷ [])) (number_of b (words ++ last ∷ [])) ≡ true
rise-stays a b last words is = grind (arith, number_from-push)

rise-last : (a last : List ℕ) (words : List (List ℕ)) → number_of last words ≡ None → places_rise (number_of a words) (Some (length words)) ≡ true
    → places_rise (number_of a (words ++ last ∷ [])) (number_of last (words ++ last ∷ [])) ≡ true
rise-last a last words none is = grind (arith, number_from-push, bytes_eq-Decides)

known-stays : (a last : List ℕ) (words : List (List ℕ)) → places_rise (number_of a words) (Some (length words)) ≡ true → places_rise (number_of a (words ++ last ∷ [])) (Some (length (words ++ last ∷ []))) ≡ true
known-stays a last words is = grind (arith, common_steps, number_from-push, nat_tests)

known-last : (last : List ℕ) (words : List (List ℕ)) → number_of last words ≡ None → places_rise (number_of last (words ++ last ∷ [])) (Some (length (words ++ last ∷ []))) ≡ true
known-last last words none = grind (arith, common_steps, number_from-push, nat_tests, bytes_eq-Decides)

none-stays : (word last : List ℕ) (words texts : List (List ℕ)) (k : ℕ) → number_of last texts ≡ Some k → number_of word texts ≡ None → number_of word words ≡ None → number_of word (words ++ last ∷ []) ≡ None
none-stays word last words texts k has none before = grind (arith, number_from-push, bytes_eq-Decides)

none-both : (word last : List ℕ) (words texts : List (List ℕ)) → number_of word (texts ++ last ∷ []) ≡ None → (number_of word texts ≡ None → number_of word words ≡ None) → number_of word (words ++ last ∷ []) ≡ None
none-both word last words texts none before = grind (arith, number_from-push)

-- one more word that is known
firsts-old : (words texts : List (List ℕ)) (word : List ℕ) (k : ℕ) → number_of word texts ≡ Some k → AreFirsts words texts → AreFirsts (words ++ word ∷ []) texts
firsts-old words texts word k has so_far = record {
  once = so_far.once;
  rising = λ n m lower within. rise-stays _ _ word words (so_far.rising n m lower within);
  all = λ other none. none-stays other word words texts k has none (so_far.all other none);
  known = λ n within. known-stays _ word words (so_far.known n within);
}

-- one more that is new
firsts-new : (words texts : List (List ℕ)) (word : List ℕ) → number_of word texts ≡ None → AreFirsts words texts → AreFirsts (words ++ word ∷ []) (texts ++ word ∷ [])
firsts-new words texts word none so_far =
    let never = so_far.all word none in
    record {
      once = StandOnce-push word texts none so_far.once;
      rising = λ n m lower within. new-rising words texts word never so_far.rising so_far.known n m lower within;
      all = λ other free. none-both other word words texts free (so_far.all other);
      known = λ n within. new-known words texts word never so_far.known n within;
    }
  where
    new-rising : (words texts : List (List ℕ)) (word : List ℕ) → number_of word words ≡ None
        → ((n m : ℕ) → n < m → m < length texts → places_rise (number_of (get_or texts n []) words) (number_of (get_or texts m []) words) ≡ true)
        → ((n : ℕ) → n < length texts → places_rise (number_of (get_or texts n []) words) (Some (length words)) ≡ true)
        → (n m : ℕ) → n < m → m < length (texts ++ word ∷ []) → places_rise (number_of (get_or (texts ++ word ∷ []) n []) (words ++ word ∷ [])) (number_of (get_or (texts ++ word ∷ []) m []) (words ++ word ∷ [])) ≡ true
    new-rising words texts word never rising known n m lower within =
        grind (arith, common_steps, get_or-append, rise-stays (get_or texts n []) (get_or texts m []) word words, rise-last (get_or texts n []) word words never, rising n m lower, known n)

    new-known : (words texts : List (List ℕ)) (word : List ℕ) → number_of word words ≡ None
        → ((n : ℕ) → n < length texts → places_rise (number_of (get_or texts n []) words) (Some (length words)) ≡ true)
        → (n : ℕ) → n < length (texts ++ word ∷ []) → places_rise (number_of (get_or (texts ++ word ∷ []) n []) (words ++ word ∷ [])) (Some (length (words ++ word ∷ []))) ≡ true
    new-known words texts word never known n within =
        grind (arith, common_steps, get_or-append, known-stays (get_or texts n []) word words, known-last word words never, known n)

firsts-next : (words texts : List (List ℕ)) (word : List ℕ) (found : Option ℕ) → number_of word texts ≡ found → AreFirsts words texts → AreFirsts (words ++ word ∷ []) (interned texts word)
firsts-next words texts word None is so_far = rw is (firsts-new words texts word is so_far)
firsts-next words texts word (Some k) is so_far = rw is (firsts-old words texts word k is so_far)

firsts-more : (before texts words : List (List ℕ)) → AreFirsts before texts → AreFirsts (before ++ words) (all_interned texts words)
firsts-more before texts [] so_far = rw (append-nil before) so_far
firsts-more before texts (word ∷ words) so_far =
    subst (λ ws. AreFirsts ws (all_interned (interned texts word) words)) (append_assoc before (word ∷ []) words)
    (firsts-more (before ++ word ∷ []) (interned texts word) words (firsts-next before texts word _ refl so_far))

-- the different words of a text
pub firsts-all : (words : List (List ℕ)) → AreFirsts words (all_interned [] words)
firsts-all words = firsts-more [] [] words (record {
  once = λ number text found. absurd cc;
  rising = λ n m lower within. absurd (omega arith);
  all = λ word none. refl;
  known = λ n within. absurd (omega arith);
})

-- of two of them the one that has the lower number comes first
pub first-by-number : (words texts : List (List ℕ)) (n m : ℕ) → AreFirsts words texts → n < length texts → m < length texts
    → places_rise (number_of (get_or texts n []) words) (number_of (get_or texts m []) words) ≡ nat_lt n m
first-by-number words texts n m firsts low high = grind (arith, nat_tests, firsts.rising n m, firsts.rising m n)
