-- The lanes of two loads that were compared, and the bytes of these.
use Rattle.std.proofs.Common.{◌≡◌, ◌≢◌, ℕ, ◌+◌, ◌-◌, ◌*◌, ◌%◌, ◌^◌, ◌<◌, ◌≤◌, eqb, Bool, true, false, not, cond, ◌↔◌, true≢false, List, [], ◌∷◌, map, length, get_or, IsTrue, refl, sym, ap, ap₂, ◌∙◌, subst, arith, inl, inr, w8}
use Rattle.std.proofs.lemmas.Bool.{cases_eq, eq-eqb, ne_eqb, eqb-true, not-true, not-false}
use Rattle.std.proofs.lemmas.List.{ext_get_or}
use Rattle.std.proofs.lemmas.Simd.{length-chunk, get_or-chunk, get_or-zip2, length-zip2, tops_compared, mask_l-mod, leading_from_mask_l, trailing_mask_l}
use lib.Count.{count_trailing_zeros}
use lib.Lanes.{chunk, zip2, mask_l, top}
use Rattle.std.proofs.lemmas.List.Sums.{prefix_len-le-length, prefix_len_passes, prefix_len_stops}
use Rattle.std.specs.List.{prefix_len}
use Rattle.hip_raw.specs.Alike.{Alike, IsAlikeRun}

abbrev pub unlike : ℕ → ℕ → Bool
unlike x y = not (eqb x y)

same_from_zero : (xs ys : List ℕ) → length xs ≡ length ys → mask_l (zip2 unlike xs ys) ≡ 0 → xs ≡ ys
same_from_zero [] [] long e = refl
same_from_zero [] (y ∷ ys) long e = absurd (omega arith)
same_from_zero (x ∷ xs) [] long e = absurd (omega arith)
same_from_zero (x ∷ xs) (y ∷ ys) long e =
    elim (cases_eq x y) [
      | inl same ↦ (λ i. same i ∷ same_from_zero xs ys (omega arith) (omega arith) i)
      | inr other ↦ let odd = subst (λ b. cond (not b) 1 0 + 2 * mask_l (zip2 unlike xs ys) ≡ 0) (ne_eqb x y other) e in absurd (omega (arith, odd))
    ]

zero_from_same : (xs : List ℕ) → mask_l (zip2 unlike xs xs) ≡ 0
zero_from_same [] = refl
zero_from_same (x ∷ xs) = subst (λ b. cond (not b) 1 0 + 2 * mask_l (zip2 unlike xs xs) ≡ 0) (sym (eq-eqb x x refl)) (omega (arith, zero_from_same xs))

itself : (bs : List Bool) → map (λ b. b) bs ≡ bs
itself [] = refl
itself (b ∷ bs) = ap (λ l. b ∷ l) (itself bs)

module _ (xs ys : List ℕ) (i n : ℕ) (in_xs : i + n ≤ length xs) (in_ys : i + n ≤ length ys) where
  long : length (chunk i n xs) ≡ length (chunk i n ys)
  long = length-chunk i n xs in_xs ∙ sym (length-chunk i n ys in_ys)

  abbrev marks : List Bool
  marks = zip2 unlike (chunk i n xs) (chunk i n ys)

  many : length marks ≡ n
  many = length-zip2 unlike (chunk i n xs) (chunk i n ys) long ∙ length-chunk i n xs in_xs

  mask_is : n ≤ 64 → mask_l (map (top 7) (zip2 (λ x y. cond (unlike x y) 255 0) (chunk i n xs) (chunk i n ys))) % 2 ^ 64 ≡ mask_l marks
  mask_is few =
      ap (λ l. mask_l l % 2 ^ 64) (tops_compared w8 unlike (chunk i n xs) (chunk i n ys))
      ∙ mask_l-mod marks 64 (omega (arith, length-zip2 unlike (chunk i n xs) (chunk i n ys) long, length-chunk i n xs in_xs))

  at : (k : ℕ) → i ≤ k → k < i + n → (get_or (chunk i n xs) (k - i) 0 ≡ get_or xs k 0) × (get_or (chunk i n ys) (k - i) 0 ≡ get_or ys k 0)
  at k from to =
      let back : i + (k - i) ≡ k = omega arith in
      (get_or-chunk i n xs (k - i) 0 (omega arith) ∙ ap (λ j. get_or xs j 0) back, get_or-chunk i n ys (k - i) 0 (omega arith) ∙ ap (λ j. get_or ys j 0) back)

  -- no lane is marked just where the bytes are alike
  pub alike_at : (m : ℕ) → n ≤ 64 → m ≡ mask_l (map (top 7) (zip2 (λ x y. cond (unlike x y) 255 0) (chunk i n xs) (chunk i n ys))) % 2 ^ 64
      → IsTrue (eqb m 0) ↔ Alike xs ys i (i + n)
  alike_at m few is = (
    λ none k from to.
        let same = same_from_zero _ _ long (sym (is ∙ mask_is few) ∙ eqb-true m 0 none) in
        sym (at k from to).0 ∙ ap (λ l. get_or l (k - i) 0) same ∙ (at k from to).1,
    λ alike.
        let same : chunk i n xs ≡ chunk i n ys = ext_get_or 0 _ _ long (λ k l.
        let inside : k < n = omega (arith, length-chunk i n xs in_xs) in
        get_or-chunk i n xs k 0 inside ∙ alike (i + k) (omega arith) (omega arith) ∙ sym (get_or-chunk i n ys k 0 inside)) in
        eq-eqb m 0 (is ∙ mask_is few ∙ ap (λ l. mask_l (zip2 unlike (chunk i n xs) l)) (sym same) ∙ zero_from_same (chunk i n xs)),
  )

  lanes_at : (k : ℕ) → k < n → get_or marks k false ≡ unlike (get_or xs (i + k) 0) (get_or ys (i + k) 0)
  lanes_at k inside =
      get_or-zip2 unlike _ _ k 0 0 false (omega (arith, length-chunk i n xs in_xs)) (omega (arith, length-chunk i n ys in_ys))
      ∙ ap₂ unlike (get_or-chunk i n xs k 0 inside) (get_or-chunk i n ys k 0 inside)

  -- the lowest mark is at the first byte that is not alike
  pub alike_run : (r : ℕ) → r ≡ prefix_len not marks → IsAlikeRun xs ys i n r
  alike_run r is =
      let whole = many in
      let bound = prefix_len-le-length not marks in
      record {
        within = omega arith;
        alike = λ k from to.
            let back : i + (k - i) ≡ k = omega arith in
            let passes = not-true _ (prefix_len_passes not marks (k - i) false (omega arith)) in
            subst (λ j. get_or xs j 0 ≡ get_or ys j 0) back (eqb-true _ _ (not-false _ (sym (lanes_at (k - i) (omega arith)) ∙ passes)));
        apart = λ short same.
            let stops = not-false _ (prefix_len_stops not marks false (omega arith)) in
            let set : unlike (get_or xs (i + r) 0) (get_or ys (i + r) 0) ≡ true = sym (lanes_at r short) ∙ ap (λ j. get_or marks j false) is ∙ stops in
            true≢false (sym (eq-eqb _ _ same) ∙ not-true _ set);
      }

  abbrev raw : ℕ
  raw = mask_l (map (top 7) (zip2 (λ x y. cond (unlike x y) 255 0) (chunk i n xs) (chunk i n ys))) % 2 ^ 64

  marks_is : n ≤ 64 → raw ≡ mask_l (map (λ b. b) marks)
  marks_is few = mask_is few ∙ ap mask_l (sym (itself marks))

  pub run_from_none : n ≤ 64 → raw ≡ 0 → IsAlikeRun xs ys i n n
  run_from_none few none = alike_run n (sym (leading_from_mask_l (λ b. b) marks (sym (marks_is few) ∙ none) ∙ many))

  pub run_from_some : n ≤ 64 → raw ≢ 0 → IsAlikeRun xs ys i n (count_trailing_zeros 64 raw)
  run_from_some few some =
      let at_least : 0 < mask_l (map (λ b. b) marks) = omega (arith, marks_is few) in
      alike_run _ (ap (count_trailing_zeros 64) (marks_is few) ∙ trailing_mask_l (λ b. b) 64 marks (omega (arith, many)) at_least)
