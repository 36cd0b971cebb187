use Rattle.std.proofs.Common.{◌≡◌, Some, length, map, take}
use Rattle.hip_bytes.specs.JsonItems.{read_items}
use Rattle.hip_bytes.proofs.hip_byt.json.fill.Given as goal

-- the front of the room has the bytes that as many items are
abbrev pub invariant-loop-at : goal.invariant-loop-at
invariant-loop-at l = record {
  room : length l.room ≡ length l.items;
  filled : read_items (take l.at l.items) ≡ map Some (take l.at l.room);
}
