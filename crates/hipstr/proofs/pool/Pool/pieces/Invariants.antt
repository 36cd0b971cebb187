use Rattle.std.proofs.Common.{◌≡◌, map, take, drop}
use Rattle.hipstr.specs.Step.{items_of}
use Rattle.hipstr.proofs.pool.Pool.pieces.Given as goal

-- the bytes of the slots so far
abbrev pub invariant-loop-i : goal.invariant-loop-i
invariant-loop-i g l = map (λ piece. piece.now) l.pieces.items ≡ map items_of (take l.i (drop l.first l.self))
