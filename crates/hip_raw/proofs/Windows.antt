-- Parts of parts of lists.
use Rattle.std.proofs.Common.{[], ◌∷◌, zero, suc, refl, ◌≡◌, ℕ, ◌+◌, ◌-◌, ◌≤◌, List, ◌++◌, length, take, drop, sym, ap, ap₂, ◌∙◌, length-append, length-drop, length-take-le, take_all, arith}
use Rattle.std.specs.List.{refill}
use Rattle.std.proofs.Math.Seq.{take-append-add, take-append_seam}
use Rattle.std.proofs.lemmas.List.{drop-append-le, drop-take, drop-drop, take-take}

-- a part of a window is one window, at the sum of the positions
pub slice_of_window : (xs : List ℕ) (a n s e : ℕ) → s ≤ e → e ≤ n → take (e - s) (drop s (take n (drop a xs))) ≡ take (e - s) (drop (a + s) xs)
slice_of_window xs a n s e s≤e e≤n =
    let whole : s + (n - s) ≡ n = omega arith in
    let back = ap (λ k. drop s (take k (drop a xs))) (sym whole) ∙ drop-take s (n - s) (drop a xs) in
    ap (take (e - s)) back ∙ take-take (e - s) (n - s) (drop s (drop a xs)) (omega arith) ∙ ap (take (e - s)) (drop-drop s a xs)

-- the front that two lists make, whatever stands behind them
pub take-append_two : (xs ys zs : List ℕ) (m n : ℕ) → length xs ≡ m → length ys ≡ n → take (m + n) (xs ++ (ys ++ zs)) ≡ xs ++ ys
take-append_two xs ys zs m n to_m to_n =
    ap (λ k. take (k + n) (xs ++ (ys ++ zs))) (sym to_m) ∙ take-append-add xs (ys ++ zs) n
    ∙ ap (λ k. xs ++ take k (ys ++ zs)) (sym to_n) ∙ ap (λ ws. xs ++ ws) (take-append_seam ys zs)

-- the first items of a list whose front was written over are those of its first items whose front was
pub take-over_front : (ws xs : List ℕ) (m : ℕ) → take m (ws ++ drop (length ws) xs) ≡ take m (ws ++ drop (length ws) (take m xs))
take-over_front [] xs m = sym (take-take m m xs (omega arith))
take-over_front (w ∷ ws) xs zero = refl
take-over_front (w ∷ ws) [] (suc m) = refl
take-over_front (w ∷ ws) (x ∷ xs) (suc m) = ap (λ ys. w ∷ ys) (take-over_front ws xs m)

-- writing over the front of a list, and then taking that front
pub refill-front : (m : ℕ) (xs ws : List ℕ) → m ≤ length xs → take m (refill (length xs) xs ws) ≡ refill (length (take m xs)) (take m xs) ws
refill-front m xs ws le =
    let count : length (take m xs) ≡ m = length-take-le m xs le in
    let short : take m (refill (length xs) xs ws) ≡ take m (ws ++ drop (length ws) xs) = take-take m (length xs) (ws ++ drop (length ws) xs) le in
    short ∙ take-over_front ws xs m ∙ ap (λ k. take k (ws ++ drop (length ws) (take m xs))) (sym count)

-- other bytes stand behind a window that ends at `s + l`
module _ (xs new ys h : List ℕ) (a n s l : ℕ) (within : a + n ≤ length xs) (view : take n (drop a xs) ≡ h) (start : s ≡ a) (size : l ≡ length h) (is : new ≡ take (s + l) xs ++ ys) where
  long : length h ≡ n
  long = ap length (sym view) ∙ length-take-le n (drop a xs) (omega (arith, length-drop a xs))

  front : length (take (s + l) xs) ≡ s + l
  front = length-take-le (s + l) xs (omega (arith, long))

  pub pushed_len : length new ≡ s + l + length ys
  pushed_len = ap length is ∙ length-append (take (s + l) xs) ys ∙ ap (λ k. k + length ys) front

  pub pushed : (b m : ℕ) → b ≡ s → m ≡ l + length ys → take m (drop b new) ≡ h ++ ys
  pushed b m begins ends =
      ap₂ (λ j k. take k (drop j new)) begins ends ∙ ap (λ ws. take (l + length ys) (drop s ws)) is
      ∙ ap (take (l + length ys)) (drop-append-le s (take (s + l) xs) ys (omega (arith, front)) ∙ ap (λ ws. ws ++ ys) (drop-take s l xs ∙ ap₂ (λ j k. take k (drop j xs)) start (size ∙ long) ∙ view))
      ∙ take_all (l + length ys) (h ++ ys) (omega (arith, length-append h ys))
