use Rattle.std.proofs.Common.{◌≡◌, ◌<◌, ◌+◌, ◌-◌, ◌*◌, ◌^◌, length, take}
use Rattle.std.specs.List.{flat_map}
use Rattle.hip_bytes.proofs.hip_byt.build.joined_len.Given as goal

-- the gaps' lengths, and those of the pieces so far
abbrev pub invariant-loop-piece : goal.invariant-loop-piece
invariant-loop-piece g l = record {
  len : l.len ≡ (length l.pieces - 1) * length l.sep + length (flat_map g.P.Piece.bytes (take l.piece-index l.pieces));
  fits : l.len < 2 ^ 64;
}
