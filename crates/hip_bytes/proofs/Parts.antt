-- Parts, by where the bytes lie.
use Rattle.std.proofs.Common.{ℕ, ◌-◌, Bool, slice_range}
use Rattle.hip_raw.specs.Meter.{RisesAtMost}
use Rattle.hip_bytes.specs.Cost.{cut_cost}
use Rattle.hip_bytes.specs.Handle.{Handle}
use Rattle.hip_bytes.specs.Made.{IsPart}

abbrev pub Parts : Bool → Handle → Handle → ℕ → ℕ → ℕ → ℕ → Type 0
Parts shares old new start end m m' = IsPart old new (slice_range old.items start end) × RisesAtMost m m' (cut_cost shares old.kind (end - start))
