use Rattle.std.proofs.Common.{◌≡◌, ◌≤◌, length, map, take, vec_capacity}
use Rattle.serde_json.specs.View.{view}
use Rattle.hip_bytes.specs.Json.{json_byte}
use Rattle.hip_bytes.proofs.hip_byt.HipByt.to_json.Given as goal

-- as many items are made as bytes were seen, and there is room for all
abbrev pub invariant-loop-byte : goal.invariant-loop-byte
invariant-loop-byte g l = record {
  made : map view l.items.items ≡ map json_byte (take l.byte-index l.bytes);
  room : length l.bytes ≤ vec_capacity l.items;
}
