use Rattle.std.proofs.Common.{◌≤◌, ◌∙◌, take, ap, arith}
use Rattle.hip_raw.specs.Held.{held_items}
use Rattle.hip_raw.proofs.Fronts.{cut, filled_is, front_is}
use Rattle.hip_raw.proofs.buffer.Buffer.truncate.Goals as goal

pub invariant_of-self : goal.invariant_of-self
invariant_of-self c =
    let b = c.self.inside in
    let shorter : c.args.len ≤ b.len = omega (arith, c.if-len-self.true) in
    record {
      cells = c.self.invariant.cells;
      deed = c.self.invariant.deed;
      owed = c.self.invariant.owed;
      alloc = c.self.invariant.alloc;
      places = c.self.invariant.places;
      within = omega (arith, shorter, c.self.invariant.within);
      filled = filled_is c.args.len b.cells.slots _ (cut b.len b.cells.slots c.args.len shorter c.self.invariant.filled);
      small = c.self.invariant.small;
    }

pub returns-then-len-self-clause-items : goal.returns-then-len-self-clause-items
returns-then-len-self-clause-items c =
    let b = c.self.inside in
    let shorter : c.args.len ≤ b.len = omega (arith, c.if-len-self.true) in
    front_is c.args.len b.cells.slots _ (cut b.len b.cells.slots c.args.len shorter c.self.invariant.filled) ∙ ap (λ held. take c.args.len (held_items held)) c.self.view_is
