-- The root or the dot that a path begins with depends on its first part alone.
use Rattle.std.proofs.Common.{◌≡◌, ℕ, false, not, cond, List, [], ◌∷◌, ◌++◌, length, ◌<◌, get_or, arith, refl, ap, All, bytes_eq}
use Rattle.std.proofs.lemmas.Bool.Decides.{nat_tests}
use Rattle.std.proofs.lemmas.Grind.{common_steps}
use Rattle.std.proofs.lemmas.List.{take-append-le}
use Rattle.std.proofs.lemmas.List.Folds.{prefix_len-append}
use Rattle.std.proofs.lemmas.List.Sums.{prefix_len-le-length, prefix_len_is}
use Rattle.std.specs.List.{before_first, position_or_len}
use Rattle.std.specs.Path.{slash, cur_dir}
use Rattle.hip_names.specs.Components.{CurDir, is_slash, start}

-- a slash ends the first part, whatever stands behind it
pub before_first-behind : (front rest : List ℕ) → before_first is_slash (front ++ slash ∷ rest) ≡ before_first is_slash front
before_first-behind front rest = grind (arith, nat_tests, prefix_len-append, take-append-le, prefix_len-le-length)

pub start-behind : (front rest later : List ℕ) → start (front ++ slash ∷ rest) ≡ start (front ++ slash ∷ later)
start-behind [] rest later = refl
start-behind (x ∷ front) rest later = rw (before_first-behind (x ∷ front) rest, before_first-behind (x ∷ front) later)

pub start-ended : (front rest : List ℕ) → 0 < length front → start (front ++ slash ∷ rest) ≡ start front
start-ended [] rest some = absurd (omega arith)
start-ended (x ∷ front) rest some = rw (before_first-behind (x ∷ front) rest)

pub before_first-whole : (part : List ℕ) → All (λ x. is_slash x ≡ false) part → before_first is_slash part ≡ part
before_first-whole part whole =
    let len : position_or_len is_slash part ≡ length part = prefix_len_is (λ x. not (is_slash x)) part (length part) 0 (omega arith) (λ k below. ap not (whole k 0 below)) (λ past. absurd (omega arith)) in
    grind (arith, common_steps)

-- a path of one part
pub start-part : (part : List ℕ) → All (λ x. is_slash x ≡ false) part → start part ≡ cond (bytes_eq part cur_dir) (CurDir ∷ []) []
start-part [] whole = refl
start-part (x ∷ part) whole =
    let first : is_slash x ≡ false = whole 0 0 (omega arith) in
    let all = before_first-whole (x ∷ part) whole in
    rw all (grind (arith, nat_tests, common_steps))

-- a path that doesn't begin with a slash
pub start-unrooted : (x : ℕ) (path : List ℕ) → is_slash x ≡ false → start (x ∷ path) ≡ cond (bytes_eq (before_first is_slash (x ∷ path)) cur_dir) (CurDir ∷ []) []
start-unrooted x path first = grind (arith, nat_tests, common_steps)

pub before_first-head : (x : ℕ) (path : List ℕ) → is_slash x ≡ false → get_or (before_first is_slash (x ∷ path)) 0 0 ≡ x
before_first-head x path first = grind (arith, nat_tests, common_steps)
