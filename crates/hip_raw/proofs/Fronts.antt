-- The values of the first places of a block.
use Rattle.std.proofs.Common.{◌≡◌, ◌≤◌, ◌+◌, ◌-◌, ◌*◌, ℕ, zero, suc, List, [], ◌∷◌, ◌++◌, Option, Some, map, length, take, drop, replicate, refl, sym, ap, ap₂, ◌∙◌, arith}
use Rattle.std.specs.List.{refill, length_refill}
use Rattle.std.proofs.Math.Seq.{take-append-add, take-append_seam}
use Rattle.std.proofs.lemmas.List.{length-append, length-drop, length-map, map-append, take-map, take-replicate, take-take, append_assoc, replicate-append-replicate}
use lib.Seq.{length-take-le}
use Rattle.hip_raw.specs.Places.{somes, front}

pub somes-map : (xs : List ℕ) → somes (map Some xs) ≡ xs
somes-map [] = refl
somes-map (x ∷ xs) = ap (λ ys. x ∷ ys) (somes-map xs)

pub map-replicate : (n x : ℕ) → replicate n (Some x) ≡ map Some (replicate n x)
map-replicate zero x = refl
map-replicate (suc n) x = ap (λ cs. Some x ∷ cs) (map-replicate n x)

-- fewer of the zeros behind some places
pub zeros_cut : (from k m : ℕ) (cs ds : List (Option ℕ)) → k ≤ m → from ≤ length ds → take (from + m) cs ≡ take from ds ++ replicate m (Some 0)
    → take (from + k) cs ≡ take from ds ++ replicate k (Some 0)
zeros_cut from k m cs ds le within e =
    let zero : Option ℕ = Some 0 in
    let long : length (take from ds) ≡ from = length-take-le from ds within in
    sym (take-take (from + k) (from + m) cs (omega arith)) ∙ ap (take (from + k)) e ∙ ap (λ j. take (j + k) (take from ds ++ replicate m zero)) (sym long)
    ∙ take-append-add (take from ds) (replicate m zero) k ∙ ap (λ l. take from ds ++ l) (take-replicate k m zero le)

-- as many as two runs of zeros that overlap, behind some places
pub zeros_joined : (from count width : ℕ) (cs ds es : List (Option ℕ)) → width ≤ count → count ≤ 2 * width → from ≤ length ds
    → take (from + width) cs ≡ take from ds ++ replicate width (Some 0) → take (from + (count - width) + width) es ≡ take (from + (count - width)) cs ++ replicate width (Some 0)
    → take (from + count) es ≡ take from ds ++ replicate count (Some 0)
zeros_joined from count width cs ds es least most within one two =
    let zero : Option ℕ = Some 0 in
    let k = count - width in
    let end : from + k + width ≡ from + count = omega arith in
    let all : k + width ≡ count = omega arith in
    ap (λ j. take j es) (sym end) ∙ two ∙ ap (λ l. l ++ replicate width zero) (zeros_cut from k width cs ds (omega arith) within one)
    ∙ append_assoc (take from ds) (replicate k zero) (replicate width zero) ∙ ap (λ l. take from ds ++ l) (replicate-append-replicate k width zero ∙ ap (λ j. replicate j zero) all)

module _ (n : ℕ) (cs : List (Option ℕ)) where
  pub front_long : n ≤ length cs → take n cs ≡ map Some (front n cs) → length (front n cs) ≡ n
  front_long le filled = omega (arith, length-map (front n cs) Some, ap length filled, length-take-le n cs le)

  pub front_is : (xs : List ℕ) → take n cs ≡ map Some xs → front n cs ≡ xs
  front_is xs e = ap somes e ∙ somes-map xs

  pub filled_is : (xs : List ℕ) → take n cs ≡ map Some xs → take n cs ≡ map Some (front n cs)
  filled_is xs e = e ∙ ap (map Some) (sym (front_is xs e))

  -- fewer of them
  pub cut : (m : ℕ) → m ≤ n → take n cs ≡ map Some (front n cs) → take m cs ≡ map Some (take m (front n cs))
  cut m le filled = sym (take-take m n cs le) ∙ ap (take m) filled ∙ take-map Some m (front n cs)

  -- after they were lent
  pub lent : (ws : List ℕ) → length (front n cs) ≡ n → take n (map Some (refill n (front n cs) ws) ++ drop (0 + n) cs) ≡ map Some (refill n (front n cs) ws)
  lent ws long =
      let count : length (map Some (refill n (front n cs) ws)) ≡ n = length-map (refill n (front n cs) ws) Some ∙ sym (length_refill n (front n cs) ws (sym long)) in
      ap (λ k. take k (map Some (refill n (front n cs) ws) ++ drop (0 + n) cs)) (sym count) ∙ take-append_seam (map Some (refill n (front n cs) ws)) (drop (0 + n) cs)

  pub lent_places : (ws : List ℕ) → n ≤ length cs → length (front n cs) ≡ n → length (map Some (refill n (front n cs) ws) ++ drop (0 + n) cs) ≡ length cs
  lent_places ws le long =
      omega (arith, length-append (map Some (refill n (front n cs) ws)) (drop (0 + n) cs), length-map (refill n (front n cs) ws) Some, length_refill n (front n cs) ws (sym long), length-drop (0 + n) cs)

-- the first places, and zeros behind them
pub zeros_behind : (n keep count : ℕ) (cs ds : List (Option ℕ)) → keep ≤ n → take n ds ≡ map Some (front n ds) → take (keep + count) cs ≡ take keep ds ++ replicate count (Some 0)
    → take (keep + count) cs ≡ map Some (take keep (front n ds) ++ replicate count 0)
zeros_behind n keep count cs ds le filled e =
    e ∙ ap₂ (λ xs ys. xs ++ ys) (cut n ds keep le filled) (map-replicate count 0) ∙ sym (map-append Some (take keep (front n ds)) (replicate count 0))

pub ruleset fronts = (cut, filled_is, front_is, front_long, lent, lent_places, zeros_behind)
