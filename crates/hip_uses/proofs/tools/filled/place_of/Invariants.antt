use Rattle.std.proofs.Common.{◌≡◌, ◌≢◌, ℕ, ◌<◌, length, take, get_or}
use Rattle.hip_uses.specs.Template.{written}
use Rattle.hip_uses.specs.declared.template.Hole.{Hole}
use Rattle.hip_uses.proofs.tools.filled.place_of.Given as goal

abbrev pub invariant-loop-hole : goal.invariant-loop-hole
invariant-loop-hole g l = record {
  place : l.place ≡ length (written (take l.hole-index l.holes));
  others : (k : ℕ) (d : Hole g.row.B.Denot g.row.B-Sole.Denot g.row.B-Extent.Denot) → k < l.hole-index → (get_or l.holes k d).name.items ≢ l.name.items;
}
