use Rattle.std.proofs.Common.{◌≡◌, ◌++◌, take, drop}
use Rattle.hip_match.specs.Draw.{draw, left_by}
use Rattle.hip_match.proofs.draw.draw_into.Given as goal

abbrev pub invariant-loop-end : goal.invariant-loop-end
invariant-loop-end g l =
    g.R.Ranges.ready l.ranges × (g.R.Ranges.text l.ranges ≡ g.R.Ranges.text l.initial.ranges) × (l.count ≡ l.end-index)
    × (drop l.count l.drawn ≡ drop l.count l.initial.drawn)
    × (draw (g.R.Ranges.rest l.initial.ranges) l.script ≡ take l.count l.drawn ++ draw (g.R.Ranges.rest l.ranges) (drop l.end-index l.script))
    × (left_by (g.R.Ranges.rest l.initial.ranges) l.script ≡ left_by (g.R.Ranges.rest l.ranges) (drop l.end-index l.script))
