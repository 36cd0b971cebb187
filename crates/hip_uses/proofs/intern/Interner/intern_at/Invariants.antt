use Rattle.std.proofs.Common.{◌≡◌, ◌+◌, ◌≤◌, length}
use Rattle.hip_uses.specs.{Interning.words_cost, Words.filled_parts}
use Rattle.hip_uses.proofs.Words.{Walked}
use Rattle.hip_uses.proofs.intern.Interner.intern_at.Given as goal

abbrev pub invariant-loop-start : goal.invariant-loop-start
invariant-loop-start g l = record {
  ready : g.I.Ranges.ready l.ranges;
  text : g.I.Ranges.text l.ranges ≡ l.text.items;
  walked : Walked l.fn.self l.text.items (g.I.Ranges.rest l.initial.ranges) l.self (g.I.Ranges.rest l.ranges) l.numbers.items;
  never_falls : l.fn.meter ≤ l.meter;
  at_most : l.meter + words_cost g.B.Backend.SHARES l.text.kind l.self (filled_parts l.text.items (g.I.Ranges.rest l.ranges))
      ≤ l.fn.meter + words_cost g.B.Backend.SHARES l.text.kind l.fn.self (filled_parts l.text.items (g.I.Ranges.rest l.initial.ranges));
}

abbrev pub decreases-loop-start : goal.decreases-loop-start
decreases-loop-start g l = length (g.I.Ranges.rest l.ranges)
