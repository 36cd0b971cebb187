use Rattle.std.proofs.Common.{◌+◌, ◌-◌, length, arith}
use Rattle.hip_bytes.proofs.Slices.{slice-of-slice, range-fits, kind-of-part}
use Rattle.hip_bytes.proofs.laws.slice_of_slice.Goals as goal

pub returns-clause-items : goal.returns-clause-items
returns-clause-items c =
    slice-of-slice c.args.bytes.now c.args.start c.args.end c.args.from c.args.to c.requires.slice_of_it.0 c.requires.slice_of_it.1

pub returns-clause-range : goal.returns-clause-range
returns-clause-range c =
    range-fits (c.args.start + c.args.from) (c.args.start + c.args.to) (length c.args.bytes.now) (omega (arith, c.requires.slice_of_it.0)) (omega (arith, c.requires.slice.0, c.requires.slice.1, c.requires.slice_of_it.1))

pub returns-clause-kind : goal.returns-clause-kind
returns-clause-kind c =
    kind-of-part c.args.kind (c.args.end - c.args.start) (c.args.to - c.args.from) (omega (arith, c.requires.slice_of_it.0, c.requires.slice_of_it.1))
