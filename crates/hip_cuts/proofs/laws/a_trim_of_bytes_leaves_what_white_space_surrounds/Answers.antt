use Rattle.hip_cuts.proofs.Spaces.{bytes_before, bytes_behind, bytes_between}
use Rattle.hip_cuts.proofs.laws.a_trim_of_bytes_leaves_what_white_space_surrounds.Goals as goal

pub returns-clause-both : goal.returns-clause-both
returns-clause-both g source = λ result same answers. bytes_between g.args.bytes.now source same result answers

pub returns-clause-start : goal.returns-clause-start
returns-clause-start g source = λ result same answers. bytes_behind g.args.bytes.now source same result answers

pub returns-clause-end : goal.returns-clause-end
returns-clause-end g source = λ result same answers. bytes_before g.args.bytes.now source same result answers
