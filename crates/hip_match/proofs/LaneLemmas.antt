-- From the lanes of one load to the bytes of a list.
use Rattle.std.proofs.Common.{◌≡◌, ℕ, suc, ◌+◌, ◌/◌, ◌%◌, ◌^◌, ◌<◌, ◌≤◌, Bool, false, cond, List, [], ◌∷◌, map, length, get_or, replicate, Fits, w8, bit_and, ap, ◌∙◌, refl, arith}
use Rattle.std.proofs.lemmas.Nat.{and_le_r}
use Rattle.std.proofs.lemmas.Simd.{Each1-all, Each1-zip2, Each2-splat, SwzOk, SwzOk-from_below, bit_mask_l, get_or-chunk, get_or-swz_l_below, length-chunk, length-swz_l, length-zip2, map-map, mask_l-lt, mask_l-mod, swz_l}
use Rattle.std.proofs.lemmas.List.{ext_get_or, length-map, get_or-map}
use Rattle.hip_match.specs.Marks.{AreMarks, by_byte}
use Rattle.hip_match.proofs.MarkLemmas.{lanes-are}
use lib.Lanes.{Each1, chunk, mask_l, top, zip2}

-- the mask of sixteen lanes has sixteen bits
few_lanes : (v z : List ℕ) (f : ℕ → ℕ) → length v ≡ 16 → z ≡ map f v → mask_l (map (top 7) z) % 2 ^ 64 < 65536
few_lanes v z f long is = grind (arith, length-map, mask_l-lt, mask_l-mod)

-- lane by lane, z is f of the sixteen bytes from i on, and its lanes are set just where the bytes pass the test
pub marked : (test : ℕ → Bool) (xs : List ℕ) (i : ℕ) (z : List ℕ) (f : ℕ → ℕ) → i + 16 ≤ length xs
    → ((k : ℕ) → Fits w8 (get_or xs k 0)) → z ≡ map f (chunk i 16 xs) → ((x : ℕ) → x < 256 → top 7 (f x) ≡ test x)
    → AreMarks (by_byte test) xs i (i + 16) (i + 64) (mask_l (map (top 7) z) % 2 ^ 64)
marked test xs i z f room fits lanes all =
    let set : ℕ → Bool = λ x. top 7 (f x) in
    let v = chunk i 16 xs in
    let long : length v ≡ 16 = length-chunk i 16 xs room in
    let mask_is : mask_l (map (top 7) z) % 2 ^ 64 ≡ mask_l (map set v) =
    grind (arith, mask_l, top 7, map-map (top 7) f v, mask_l-mod (map set v) 64, length-map v set) in
    lanes-are (by_byte test) xs i _ (few_lanes v z f long lanes) (λ k inside.
    grind (arith, get_or-map set v k 0 false, get_or-chunk i 16 xs k 0 inside, bit_mask_l (map set v) k))

-- a lane of a comparison
pub top_of : (b : Bool) → top 7 (cond b 255 0) ≡ b
top_of b = grind arith

-- ---- look-ups in a table of sixteen

pub each_from : (P : ℕ → Type 0) (v : List ℕ) → ((i : ℕ) → i < length v → P (get_or v i 0)) → Each1 P v
each_from P [] all = tt
each_from P (x ∷ xs) all = (all 0 (omega arith), each_from P xs (λ i low. all (suc i) (omega arith)))

abbrev pub low_half : ℕ → ℕ
low_half x = bit_and x 15

abbrev pub down : ℕ → ℕ → ℕ
down a b = a / 2 ^ b

abbrev pub high_half : ℕ → ℕ
high_half x = x / 16

module _ (v : List ℕ) (long : length v ≡ 16) (fits : (i : ℕ) → i < 16 → get_or v i 0 < 256) where
  pub low_ok : SwzOk w8 16 16 0 (zip2 bit_and v (replicate 16 15))
  low_ok =
      let small = Each1-all (λ a. bit_and a 15 < 16) (λ a. omega (arith, and_le_r a 15)) v in
      SwzOk-from_below w8 16 1 16 0 (zip2 bit_and v (replicate 16 15)) refl (omega (arith, length-zip2 bit_and v (replicate 16 15) long))
      (Each1-zip2 bit_and (λ j. j < 16) v (replicate 16 15) (Each2-splat (λ a b. bit_and a b < 16) v 16 15 small))

  pub high_ok : SwzOk w8 16 16 0 (zip2 down v (replicate 16 4))
  high_ok =
      let small = each_from (λ a. a / 16 < 16) v (λ i low. grind arith) in
      SwzOk-from_below w8 16 1 16 0 (zip2 down v (replicate 16 4)) refl (omega (arith, length-zip2 down v (replicate 16 4) long))
      (Each1-zip2 down (λ j. j < 16) v (replicate 16 4) (Each2-splat (λ a b. down a b < 16) v 16 4 small))

  pub looked_up : (t : List ℕ) (g : ℕ → ℕ) (js : List ℕ) → js ≡ map g v → ((x : ℕ) → x < 256 → g x < 16) → swz_l w8 16 t 0 js ≡ map (λ x. get_or t (g x) 0) v
  looked_up t g js e small =
      let size : length js ≡ 16 = ap length e ∙ length-map v g ∙ long in
      ext_get_or 0 _ _ (grind (arith, length-swz_l, w8, length-map)) (λ i low.
      let lt : i < 16 = omega (arith, length-swz_l w8 16 t 0 js) in
      let within : i < length v = omega (arith, long) in
      let is : get_or js i 0 ≡ g (get_or v i 0) = ap (λ l. get_or l i 0) e ∙ get_or-map g v i 0 0 within in
      let below : get_or js i 0 < 16 = grind arith in
      grind (arith, get_or-swz_l_below, w8, get_or-map))
