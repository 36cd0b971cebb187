use Rattle.std.proofs.Common.{◌≡◌, ◌-◌, ◌*◌, length, take, true, All, flat_map, IsCharBoundary}
use Rattle.hipstr.specs.Meter.{RisesAtMost}
use Rattle.hip_uses.specs.Token.{AreAdjacent, IsTokenOf, token_bytes}
use Rattle.hip_uses.specs.Turns.{TurnsAhead}
use Rattle.hip_uses.proofs.tokens.tokens_metered.Given as goal

abbrev pub invariant-loop-start : goal.invariant-loop-start
invariant-loop-start g l = record {
  boundary : IsCharBoundary l.source.items l.start;
  joined : flat_map token_bytes l.tokens.items ≡ take l.start l.source.items;
  each : All (IsTokenOf l.source) l.tokens.items;
  places : AreAdjacent 0 l.tokens.items l.start;
  ahead : TurnsAhead l.source.items l.start l.turns.upto l.turns.turns;
  shared : g.B.Backend.SHARES ≡ true → RisesAtMost l.fn.meter l.meter (23 * length l.tokens.items);
}

abbrev pub decreases-loop-start : goal.decreases-loop-start
decreases-loop-start g l = length l.source.items - l.start
