-- The ranges that are cut off the ends of a text, as Rust's documentation of `str` tells it. The text has n bytes.
use Rattle.std.specs.Prelude.{◌≡◌, ℕ, ◌<◌, ◌≤◌, Option, None, Some, List, [], ◌∷◌}
use Rattle.std.specs.Option.{option_map}
use Rattle.hip_match.specs.Occurrence.{start_of}
use Rattle.hip_match.specs.Leftmost.{leftmost}
use Rattle.hip_match.specs.Rightmost.{rightmost}

-- nonempty matches, one after another from i up to j
abbrev pub Follows : (ℕ → Option ℕ) → ℕ → List (ℕ × ℕ) → ℕ → Type 0
Follows ends i [] j = i ≡ j
Follows ends i (m ∷ ms) j = (m.0 ≡ i) × (m.0 < m.1) × (ends m.0 ≡ Some m.1) × Follows ends m.1 ms j

-- like `Follows`, but of matches that are listed from the back
abbrev pub FollowsBack : (ℕ → Option ℕ) → ℕ → List (ℕ × ℕ) → ℕ → Type 0
FollowsBack ends i [] j = i ≡ j
FollowsBack ends i (m ∷ ms) j = (m.1 ≡ j) × (m.0 < m.1) × (ends m.0 ≡ Some m.1) × FollowsBack ends i ms m.0

-- from i up to j there are nonempty matches alone, one after another
abbrev pub IsSequence : (ℕ → Option ℕ) → ℕ → ℕ → Type 0
IsSequence ends i j = (ms : List (ℕ × ℕ)) × Follows ends i ms j

abbrev pub IsSequenceBack : (ℕ → Option ℕ) → ℕ → ℕ → Type 0
IsSequenceBack ends i j = (ms : List (ℕ × ℕ)) × FollowsBack ends i ms j

-- the longest front that is a sequence of nonempty matches ends at j
pub record TrimsFront (ends : ℕ → Option ℕ) (j : ℕ) : Type 0 where
  pub sequence : IsSequence ends 0 j
  pub longest : (k : ℕ) → IsSequence ends 0 k → k ≤ j

-- the longest back of the text from `from` on that is a sequence of nonempty matches starts at i
pub record TrimsBack (ends : ℕ → Option ℕ) (from n i : ℕ) : Type 0 where
  pub left : from ≤ i
  pub sequence : IsSequenceBack ends i n
  pub longest : (k : ℕ) → from ≤ k → IsSequenceBack ends k n → i ≤ k

-- `strip_prefix`: all but one match at the front
abbrev pub strip_prefix : (ℕ → Option ℕ) → ℕ → Option (ℕ × ℕ)
strip_prefix ends n = option_map (λ b. (b, n)) (ends 0)

-- `strip_suffix`: all but one match at the end
abbrev pub strip_suffix : (ℕ → Option ℕ) → ℕ → Option (ℕ × ℕ)
strip_suffix ends n = option_map (λ a. (0, a)) (start_of ends n)

-- the range before the first match of a list and the range behind it
abbrev pub cut_at_first : List (ℕ × ℕ) → ℕ → Option ((ℕ × ℕ) × (ℕ × ℕ))
cut_at_first [] n = None
cut_at_first (m ∷ ms) n = Some ((0, m.0), (m.1, n))

-- `split_once` and `rsplit_once`
abbrev pub split_once : (ℕ → Option ℕ) → ℕ → Option ((ℕ × ℕ) × (ℕ × ℕ))
split_once ends n = cut_at_first (leftmost ends n) n

abbrev pub rsplit_once : (ℕ → Option ℕ) → ℕ → Option ((ℕ × ℕ) × (ℕ × ℕ))
rsplit_once ends n = cut_at_first (rightmost ends n) n
