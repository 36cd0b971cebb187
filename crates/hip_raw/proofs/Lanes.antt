-- Vectors that are computed lane by lane, and lists that they are stored to.
use Rattle.std.proofs.Common.{◌≡◌, ℕ, zero, suc, ◌+◌, ◌≤◌, eqb, nat_lt, Bool, true, cond, List, [], ◌∷◌, ◌++◌, map, take, drop, length, Fits, w8, refl, sym, ap, ap₂, ◌∙◌, arith}
use Rattle.std.proofs.lemmas.Bool.{agree_below, agree_below_at, eqb-true, le-ltb, lt-ltb}
use Rattle.std.proofs.lemmas.Simd.{map-map, length-chunk, put_chunk_is, take_more_put_chunk}
use Rattle.std.proofs.lemmas.List.{length-map, length-append, length-take-le, append_assoc, drop-drop, drop_at}
use lib.Lanes.{chunk, top, sel_l, put_chunk, Each1}

-- a choice between two vectors that were computed lane by lane
pub sel_is : (m : ℕ → Bool) (g h : ℕ → ℕ) (v : List ℕ) → sel_l (map m v) (map g v) (map h v) ≡ map (λ x. cond (m x) (g x) (h x)) v
sel_is m g h [] = refl
sel_is m g h (x ∷ v) = ap (λ l. cond (m x) (g x) (h x) ∷ l) (sel_is m g h v)

pub selected : (m g h : ℕ → ℕ) (v : List ℕ) {ms xs ys : List ℕ} → ms ≡ map m v → xs ≡ map g v → ys ≡ map h v
    → sel_l (map (top 7) ms) xs ys ≡ map (λ x. cond (top 7 (m x)) (g x) (h x)) v
selected m g h v p q r = (λ i. sel_l (map (top 7) (p i)) (q i) (r i)) ∙ ap (λ l. sel_l l (map g v) (map h v)) (map-map (top 7) m v) ∙ sel_is (λ x. top 7 (m x)) g h v

pub itself : (v : List ℕ) → v ≡ map (λ x. x) v
itself [] = refl
itself (x ∷ v) = ap (λ l. x ∷ l) (itself v)

pub same_map : (f g : ℕ → ℕ) (v : List ℕ) → Each1 (Fits w8) v → agree_below (λ x. eqb (f x) (g x)) (λ _. true) 256 ≡ true → map f v ≡ map g v
same_map f g [] fits all = refl
same_map f g (x ∷ v) fits all =
    ap₂ (λ y l. y ∷ l) (eqb-true _ _ (agree_below_at (λ x. eqb (f x) (g x)) (λ _. true) 256 x all fits.0.fits)) (same_map f g v fits.1 all)

-- the n bytes from i on are replaced by what g makes of them
module _ (g : ℕ → ℕ) (xs : List ℕ) (i n : ℕ) (ys : List ℕ) (room : i + n ≤ length xs) (stored : ys ≡ map g (chunk i n xs)) where
  many : length ys ≡ n
  many = ap length stored ∙ length-map (chunk i n xs) g ∙ length-chunk i n xs room

  pub block_done : take (i + n) (put_chunk i xs ys) ≡ take i xs ++ map g (take n (drop i xs))
  block_done = take_more_put_chunk i xs ys (i + n) (omega (arith, many)) room ∙ ap (λ l. take i xs ++ l) stored

  pub block_kept : drop (i + n) (put_chunk i xs ys) ≡ drop (i + n) xs
  block_kept =
      ap (drop (i + n)) (put_chunk_is i xs ys (omega (arith, many)) ∙ sym (append_assoc (take i xs) ys (drop (length ys) (drop i xs))))
      ∙ drop_at (take i xs ++ ys) _ (i + n) (omega (arith, many, length-append (take i xs) ys, length-take-le i xs (omega arith)))
      ∙ drop-drop (length ys) i xs ∙ ap (λ k. drop (i + k) xs) many

-- m positions from i on
abbrev pub up : ℕ → ℕ → List ℕ
up i zero = []
up i (suc m) = i ∷ up (suc i) m

-- whether each of m positions from i on is below len
abbrev pub below : ℕ → ℕ → ℕ → List Bool
below len i m = map (λ j. top 7 (cond (nat_lt j len) 255 0)) (up i m)

-- the lanes at positions from len on are those of ys
past_front : (len i m : ℕ) (xs ys : List ℕ) → len ≤ i → length xs ≡ m → length ys ≡ m → sel_l (below len i m) xs ys ≡ ys
past_front len i zero xs [] le long level = refl
past_front len i zero xs (y ∷ ys) le long level = absurd (omega arith)
past_front len i (suc m) [] ys le long level = absurd (omega arith)
past_front len i (suc m) (x ∷ xs) [] le long level = absurd (omega arith)
past_front len i (suc m) (x ∷ xs) (y ∷ ys) le long level =
    ap₂ (λ z l. z ∷ l) (ap (λ b. cond (top 7 (cond b 255 0)) x y) (le-ltb i len (omega arith))) (past_front len (suc i) m xs ys (omega arith) (omega arith) (omega arith))

-- the lanes at positions below len are those of xs
pub front_is : (len i m k : ℕ) (xs ys : List ℕ) → i + k ≡ len → k ≤ m → length xs ≡ m → length ys ≡ m
    → sel_l (below len i m) xs ys ≡ take k xs ++ drop k ys
front_is len i m zero xs ys reach within long level = past_front len i m xs ys (omega arith) long level
front_is len i zero (suc k) xs ys reach within long level = absurd (omega arith)
front_is len i (suc m) (suc k) [] ys reach within long level = absurd (omega arith)
front_is len i (suc m) (suc k) (x ∷ xs) [] reach within long level = absurd (omega arith)
front_is len i (suc m) (suc k) (x ∷ xs) (y ∷ ys) reach within long level =
    ap₂ (λ z l. z ∷ l) (ap (λ b. cond (top 7 (cond b 255 0)) x y) (lt-ltb i len (omega arith))) (front_is len (suc i) m k xs ys (omega arith) (omega arith) (omega arith) (omega arith))
