use Rattle.std.proofs.Common.{◌≡◌, ℕ, List, Some, length, map, take}
use Rattle.hip_bytes.specs.JsonItems.{read_items}
use Rattle.hip_bytes.proofs.hip_byt.json.test.Given as goal

-- the first `i` items are bytes
abbrev pub invariant-loop-i : goal.invariant-loop-i
invariant-loop-i l = (bytes : List ℕ) × (read_items (take l.i l.items) ≡ map Some bytes) × (l.i ≡ length bytes)
