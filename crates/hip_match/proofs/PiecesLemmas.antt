-- The pieces round one more match.
use Rattle.std.proofs.Common.{◌≡◌, ℕ, zero, suc, ◌-◌, ◌<◌, ◌≤◌, List, [], ◌∷◌, ◌++◌, refl, ap, arith, le_trans, IfSome, Option, Some, Bool, true, eq-eqb, ne_eqb, lt-ltb, le-ltb, MatchOption, if◌then◌else◌, ◌==◌, append-nil}
use Rattle.hip_match.specs.Ready.{IsBetween, IsBetweenBack, TakesLastCut}
use Rattle.std.proofs.lemmas.Bool.{cond-true, cond-false}
use Rattle.hip_match.specs.Runs.{nonempty}
use Rattle.hip_match.specs.Pieces.{InOrder, InOrderBack, gaps, gaps_back, ended, at_most_to, at_most_from, without_empty_last, without_empty_first}

pub gaps-append : (ms : List (ℕ × ℕ)) (i n : ℕ) (m : ℕ × ℕ) → gaps i (ms ++ m ∷ []) n ≡ gaps i ms m.0 ++ (m.1, n) ∷ []
gaps-append [] i n m = refl
gaps-append (x ∷ ms) i n m = ap (λ l. (i, x.0) ∷ l) (gaps-append ms x.1 n m)

pub InOrder-append : (ms : List (ℕ × ℕ)) (i n : ℕ) (m : ℕ × ℕ) → InOrder i (ms ++ m ∷ []) n → InOrder i ms m.0 × (m.0 ≤ m.1) × (m.1 ≤ n)
InOrder-append [] i n m h = h
InOrder-append (x ∷ ms) i n m h = grind (arith, InOrder-append ms x.1 n m h.2)

pub gaps_back-append : (ms : List (ℕ × ℕ)) (i n : ℕ) (m : ℕ × ℕ) → gaps_back i (ms ++ m ∷ []) n ≡ gaps_back m.1 ms n ++ (i, m.0) ∷ []
gaps_back-append [] i n m = refl
gaps_back-append (x ∷ ms) i n m = ap (λ l. (x.1, n) ∷ l) (gaps_back-append ms i x.0 m)

pub InOrderBack-append : (ms : List (ℕ × ℕ)) (i n : ℕ) (m : ℕ × ℕ) → InOrderBack i (ms ++ m ∷ []) n → InOrderBack m.1 ms n × (m.0 ≤ m.1) × (i ≤ m.0)
InOrderBack-append [] i n m h = h
InOrderBack-append (x ∷ ms) i n m h = grind (arith, InOrderBack-append ms i x.0 m h.2)

pub InOrder-le : (ms : List (ℕ × ℕ)) (i n : ℕ) → InOrder i ms n → i ≤ n
InOrder-le [] i n h = h
InOrder-le (m ∷ ms) i n h = grind (arith, InOrder-le ms m.1 n h.2)

pub InOrderBack-le : (ms : List (ℕ × ℕ)) (i n : ℕ) → InOrderBack i ms n → i ≤ n
InOrderBack-le [] i n h = h
InOrderBack-le (m ∷ ms) i n h = grind (arith, InOrderBack-le ms i m.0 h.2)

-- the last range that is given
pub at_most_to-one : (count i n : ℕ) (ms : List (ℕ × ℕ)) → ¬ (count ≡ 0) → count ≤ 1 → at_most_to count (gaps i ms n) n ≡ (i, n) ∷ []
at_most_to-one zero i n ms some few = absurd (some refl)
at_most_to-one (suc zero) i n [] some few = refl
at_most_to-one (suc zero) i n (m ∷ ms) some few = refl
at_most_to-one (suc (suc k)) i n ms some few = absurd (omega arith)

pub at_most_to-end : (count i n : ℕ) (ms : List (ℕ × ℕ)) → ¬ (count ≡ 0) → ms ≡ [] → at_most_to count (gaps i ms n) n ≡ (i, n) ∷ []
at_most_to-end count i n ms some h = grind arith

-- a range, and fewer after it
pub at_most_to-more : (count i n : ℕ) (m : ℕ × ℕ) (ms ls : List (ℕ × ℕ)) → 1 < count → ms ≡ m ∷ ls
    → at_most_to count (gaps i ms n) n ≡ (i, m.0) ∷ at_most_to (count - 1) (gaps m.1 ls n) n
at_most_to-more count i n m ms ls more h = grind arith

-- no match, listed from the back: one range, the whole
pub at_most_from-end : (count i n : ℕ) (ms : List (ℕ × ℕ)) → ¬ (count ≡ 0) → ms ≡ [] → at_most_from count (gaps_back i ms n) i ≡ (i, n) ∷ []
at_most_from-end count i n ms some h = grind arith

pub at_most_from-more : (count i n : ℕ) (m : ℕ × ℕ) (ms ls : List (ℕ × ℕ)) → 1 < count → ms ≡ m ∷ ls
    → at_most_from count (gaps_back i ms n) i ≡ (m.1, n) ∷ at_most_from (count - 1) (gaps_back i ls m.0) i
at_most_from-more count i n m ms ls more h = grind arith

pub at_most_from-one : (count i n : ℕ) (ms : List (ℕ × ℕ)) → ¬ (count ≡ 0) → count ≤ 1 → at_most_from count (gaps_back i ms n) i ≡ (i, n) ∷ []
at_most_from-one zero i n ms some few = absurd (some refl)
at_most_from-one (suc zero) i n [] some few = refl
at_most_from-one (suc zero) i n (m ∷ ms) some few = refl
at_most_from-one (suc (suc k)) i n ms some few = absurd (omega arith)

-- a last empty piece, left out
without_empty_last-gaps : (x : ℕ × ℕ) (i n : ℕ) (ms : List (ℕ × ℕ)) → without_empty_last (x ∷ gaps i ms n) ≡ x ∷ without_empty_last (gaps i ms n)
without_empty_last-gaps x i n [] = refl
without_empty_last-gaps x i n (m ∷ ms) = refl

pub terminator-next : (ending done : Bool) (old : List (ℕ × ℕ)) (x : ℕ × ℕ) (i n : ℕ) (ms : List (ℕ × ℕ))
    → old ≡ x ∷ (if done then [] else gaps i ms n)
    → (ending ≡ true → done ≡ true → ¬ (x.0 ≡ x.1))
    → (if ending then without_empty_last old else old)
    ≡ x ∷ (if ending then without_empty_last (if done then [] else gaps i ms n) else (if done then [] else gaps i ms n))
terminator-next ending done old x i n ms h full = grind (arith, without_empty_last-gaps, cond-false, ne_eqb)

pub without_empty_last-kept : (l : List (ℕ × ℕ)) (x : ℕ × ℕ) → x.0 < x.1 → without_empty_last (l ++ x ∷ []) ≡ l ++ x ∷ []
without_empty_last-kept [] x full = cond-false _ _ _ (ne_eqb x.0 x.1 (omega arith))
without_empty_last-kept (y ∷ []) x full = ap (λ r. y ∷ r) (without_empty_last-kept [] x full)
without_empty_last-kept (y ∷ z ∷ l) x full = ap (λ r. y ∷ r) (without_empty_last-kept (z ∷ l) x full)

pub without_empty_last-dropped : (l : List (ℕ × ℕ)) (x : ℕ × ℕ) → x.0 ≡ x.1 → without_empty_last (l ++ x ∷ []) ≡ l
without_empty_last-dropped [] x empty = cond-true _ _ _ (eq-eqb x.0 x.1 empty)
without_empty_last-dropped (y ∷ []) x empty = ap (λ r. y ∷ r) (without_empty_last-dropped [] x empty)
without_empty_last-dropped (y ∷ z ∷ l) x empty = ap (λ r. y ∷ r) (without_empty_last-dropped (z ∷ l) x empty)

pub terminator-next_back : (ending : Bool) (old mid new : List (ℕ × ℕ)) (x : ℕ × ℕ) (r : Option (ℕ × ℕ)) → ending ≡ true
    → old ≡ mid ++ x ∷ [] → x.0 ≡ x.1
    → MatchOption r ((mid ≡ []) × (new ≡ [])) (λ y. mid ≡ new ++ y ∷ [])
    → MatchOption r (((if ending then without_empty_last old else old) ≡ []) × (new ≡ [])) (λ y. (if ending then without_empty_last old else old) ≡ new ++ y ∷ [])
terminator-next_back ending old mid new x r is h empty later = grind (arith, cond-true, without_empty_last-dropped)

-- ranges between two places of a text are between them of an equal text
pub IsBetween-moved : (t u : List ℕ) (i j : ℕ) (l : List (ℕ × ℕ)) → u ≡ t → IsBetween t i l j → IsBetween u i l j
IsBetween-moved t u i j l same h = grind arith

pub IsBetweenBack-moved : (t u : List ℕ) (i j : ℕ) (l : List (ℕ × ℕ)) → u ≡ t → IsBetweenBack t i l j → IsBetweenBack u i l j
IsBetweenBack-moved t u i j l same h = grind arith

append_if : (b : Bool) (xs ys zs : List (ℕ × ℕ)) → (if b then xs ++ zs else ys ++ zs) ≡ (if b then xs else ys) ++ zs
append_if b xs ys zs = grind arith

-- a first empty piece, left out
without_empty_first-gaps : (x : ℕ × ℕ) (i n : ℕ) (ms : List (ℕ × ℕ)) → without_empty_first (gaps_back i ms n ++ x ∷ []) ≡ without_empty_first (gaps_back i ms n) ++ x ∷ []
without_empty_first-gaps x i n [] = append_if (i == n) [] ((i, n) ∷ []) (x ∷ [])
without_empty_first-gaps x i n (m ∷ ms) = grind (arith, append_if)

pub rterminator-next_back : (beginning done : Bool) (old : List (ℕ × ℕ)) (x : ℕ × ℕ) (i n : ℕ) (ms : List (ℕ × ℕ))
    → old ≡ (if done then [] else gaps_back i ms n) ++ x ∷ []
    → (beginning ≡ true → done ≡ true → ¬ (x.0 ≡ x.1))
    → (if beginning then without_empty_first old else old)
    ≡ (if beginning then without_empty_first (if done then [] else gaps_back i ms n) else (if done then [] else gaps_back i ms n)) ++ x ∷ []
rterminator-next_back beginning done old x i n ms h full = grind (arith, without_empty_first-gaps, cond-false, ne_eqb)

InOrder-widen : (l : List (ℕ × ℕ)) (i a b : ℕ) → InOrder i l a → a ≤ b → InOrder i l b
InOrder-widen [] i a b h le = le_trans h le
InOrder-widen (m ∷ l) i a b h le = (h.0, h.1, InOrder-widen l m.1 a b h.2 le)

-- the last part, from the end of the last match
pub ended-append : (l : List (ℕ × ℕ)) (i n : ℕ) (m : ℕ × ℕ) → InOrder i (l ++ m ∷ []) n → m.0 < m.1 → m.1 < n
    → ended i (l ++ m ∷ []) n ≡ ended i l m.1 ++ (m.1, n) ∷ []
ended-append [] i n m h full lt = grind (arith, cond-false, ne_eqb)
ended-append (x ∷ l) i n m h full lt = ap (λ r. (i, x.1) ∷ r) (ended-append l x.1 n m h.2 full lt)

pub ended-append_end : (l : List (ℕ × ℕ)) (i n : ℕ) (m : ℕ × ℕ) → InOrder i (l ++ m ∷ []) n → m.0 < m.1 → m.1 ≡ n
    → ended i (l ++ m ∷ []) n ≡ ended i l n
ended-append_end [] i n m h full same = grind (arith, cond-true, eq-eqb, cond-false, ne_eqb)
ended-append_end (x ∷ l) i n m h full same = ap (λ r. (i, x.1) ∷ r) (ended-append_end l x.1 n m h.2 full same)

pub TakesLastCut-before : (old new : List (ℕ × ℕ)) (n : ℕ) (m : ℕ × ℕ) → old ≡ new ++ m ∷ [] → m.0 < m.1 → m.1 < n → TakesLastCut n old (Some m) new
TakesLastCut-before old new n m is full lt i h = grind (arith, InOrder-append, InOrder-widen, ended-append)

pub TakesLastCut-at : (old mid new : List (ℕ × ℕ)) (n : ℕ) (m : ℕ × ℕ) (r : Option (ℕ × ℕ)) → old ≡ mid ++ m ∷ [] → m.0 < m.1 → n ≤ m.1
    → MatchOption r ((mid ≡ []) × (new ≡ [])) (λ y. mid ≡ new ++ y ∷ []) → IfSome r (λ y. y.0 < y.1) → TakesLastCut n old r new
TakesLastCut-at old mid new n m r is full ge later some i h = grind (arith, InOrder-append, ended-append_end, InOrder-le, InOrder-widen, ended-append)

pub ended-nil : (i n : ℕ) → i ≤ n → n ≤ i → ended i [] n ≡ []
ended-nil i n low high = cond-true _ _ _ (eq-eqb i n (omega arith))

-- the ranges that hold something, but for one at an end
pub nonempty-append : (l : List (ℕ × ℕ)) (x : ℕ × ℕ) → nonempty (l ++ x ∷ []) ≡ nonempty l ++ nonempty (x ∷ [])
nonempty-append [] x = refl
nonempty-append (y ∷ l) x = grind (arith, cond-true, cond-false, nonempty-append l x)

pub nonempty-kept : (x : ℕ × ℕ) (l : List (ℕ × ℕ)) → x.0 < x.1 → nonempty (x ∷ l) ≡ x ∷ nonempty l
nonempty-kept x l full = cond-true _ _ _ (lt-ltb x.0 x.1 full)

pub nonempty-dropped : (x : ℕ × ℕ) (l : List (ℕ × ℕ)) → x.1 ≤ x.0 → nonempty (x ∷ l) ≡ nonempty l
nonempty-dropped x l empty = cond-false _ _ _ (le-ltb x.0 x.1 empty)

pub nonempty-append_kept : (old l : List (ℕ × ℕ)) (x : ℕ × ℕ) → old ≡ l ++ x ∷ [] → x.0 < x.1 → nonempty old ≡ nonempty l ++ x ∷ []
nonempty-append_kept old l x is full = grind (arith, nonempty-append, nonempty-kept)

pub nonempty-append_dropped : (old l : List (ℕ × ℕ)) (x : ℕ × ℕ) → old ≡ l ++ x ∷ [] → x.1 ≤ x.0 → nonempty old ≡ nonempty l
nonempty-append_dropped old l x is empty = grind (arith, nonempty-append, nonempty-dropped, append-nil)
