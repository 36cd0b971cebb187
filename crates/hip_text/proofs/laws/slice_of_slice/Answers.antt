use Rattle.std.proofs.Common.{arith}
use Rattle.hip_bytes.proofs.Slices.{slice-of-slice}
use Rattle.hip_text.proofs.Boundaries.{boundary-of-part, end-of-part}
use Rattle.hip_text.proofs.laws.slice_of_slice.Goals as goal

pub returns-clause-items : goal.returns-clause-items
returns-clause-items c =
    slice-of-slice c.args.text.now c.args.start c.args.end c.args.from c.args.to c.requires.slice_of_it.0 (end-of-part c.args.text.now c.args.start c.args.end c.args.to c.requires.slice.0 c.requires.slice.1 c.requires.slice_of_it.2)

pub returns-clause-ordered : goal.returns-clause-ordered
returns-clause-ordered c =
    let within = end-of-part c.args.text.now c.args.start c.args.end c.args.to c.requires.slice.0 c.requires.slice.1 c.requires.slice_of_it.2 in
    (omega (arith, c.requires.slice_of_it.0), omega (arith, within, c.requires.slice.0, c.requires.slice.1.0))

pub returns-clause-boundaries : goal.returns-clause-boundaries
returns-clause-boundaries c = (
  boundary-of-part c.args.text.now c.args.start c.args.end c.args.from c.requires.slice.0 c.requires.slice.1 c.requires.slice_of_it.1,
  boundary-of-part c.args.text.now c.args.start c.args.end c.args.to c.requires.slice.0 c.requires.slice.1 c.requires.slice_of_it.2,
)
