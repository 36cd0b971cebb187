use Rattle.std.proofs.Common.{◌≡◌, ◌==◌, ◌+◌, ◌<◌, ◌≤◌, ◌∙◌, ℕ, not, cond, bit_and, get_or, length, map, replicate, List, Fits, w8, ap, arith}
use Rattle.std.proofs.lemmas.Nat.{and_le_r}
use Rattle.std.proofs.lemmas.List.{length-map}
use Rattle.std.proofs.lemmas.Simd.{get_or-chunk, length-chunk, map-map, swz_l, zip2_of_maps, zip2_splat}
use lib.Lanes.{chunk, zip2}
use Rattle.hip_match.specs.Marks.{has_nibbles}
use Rattle.hip_match.proofs.LaneLemmas.{down, high_half, high_ok, looked_up, low_half, low_ok, marked, top_of}
use Rattle.hip_match.proofs.byte_test.nibble_lanes.Goals as goal

module _ (rows columns bytes : List ℕ) (at : ℕ) (room : at + 16 ≤ length bytes) (fits : (k : ℕ) → Fits w8 (get_or bytes k 0)) where
  abbrev v : List ℕ
  v = chunk at 16 bytes

  long : length v ≡ 16
  long = length-chunk at 16 bytes room

  lane_fits : (i : ℕ) → i < 16 → get_or v i 0 < 256
  lane_fits i low = let h = (fits (at + i)).fits in omega (arith, get_or-chunk at 16 bytes i 0 low, h)

  abbrev differs : ℕ → ℕ → ℕ
  differs a b = cond (not (a == b)) 255 0

  lanes_are : zip2 differs (zip2 bit_and (swz_l w8 16 rows 0 (zip2 bit_and v (replicate 16 15))) (swz_l w8 16 columns 0 (zip2 down v (replicate 16 4)))) (replicate 16 0)
      ≡ map (λ x. cond (has_nibbles rows columns x) 255 0) v
  lanes_are =
      let r = looked_up v long lane_fits rows low_half _ (zip2_splat bit_and v 16 15 long) (λ x low. omega (arith, and_le_r x 15)) in
      let c = looked_up v long lane_fits columns high_half _ (zip2_splat down v 16 4 long) (λ x low. omega arith) in
      let both = zip2_of_maps bit_and _ _ v r c in
      ap (λ l. zip2 differs l (replicate 16 0)) both
      ∙ zip2_splat differs _ 16 0 (length-map v _ ∙ long)
      ∙ map-map (λ a. differs a 0) _ v

pub swizzle-rows : goal.swizzle-rows
swizzle-rows c = low_ok _ (length-chunk _ 16 _ c.requires) (lane_fits c.args.rows.now c.args.columns.now _ _ c.requires c.type_inv.bytes)

pub swizzle-columns : goal.swizzle-columns
swizzle-columns c = high_ok _ (length-chunk _ 16 _ c.requires) (lane_fits c.args.rows.now c.args.columns.now _ _ c.requires c.type_inv.bytes)

pub returns : goal.returns
returns c =
    marked (has_nibbles c.args.rows.now c.args.columns.now) c.args.bytes.now c.args.at _ _ c.requires c.type_inv.bytes
    (lanes_are c.args.rows.now c.args.columns.now c.args.bytes.now c.args.at c.requires c.type_inv.bytes)
    (λ x low. top_of (has_nibbles c.args.rows.now c.args.columns.now x))
