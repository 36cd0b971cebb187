-- The fields of a buffer.
use Rattle.std.specs.Prelude.{◌≡◌, ◌^◌, ◌<◌, ◌≤◌, length, map, take, Some}
use Rattle.hip_raw.specs.Places.{front}
use Rattle.hip_raw.specs.declared.buffer.Buffer.TheInside.{Inside}

-- all places lie in one block, which is freed by the allocator that made it, and the first of them hold a byte each
pub record IsBuffer (b : Inside) : Type 0 where
  pub cells : b.cells.at ≡ b.base.ptr
  pub deed : b.deed.at ≡ b.base.ptr
  pub owed : b.deed.len ≡ b.size
  pub alloc : b.deed.alloc ≡ b.alloc
  pub places : length b.cells.slots ≡ b.size
  pub within : b.len ≤ b.size
  pub filled : take b.len b.cells.slots ≡ map Some (front b.len b.cells.slots)
  pub small : b.size < 2 ^ 63
