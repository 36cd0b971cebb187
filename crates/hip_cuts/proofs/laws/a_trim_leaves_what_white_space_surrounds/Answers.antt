use Rattle.std.proofs.Common.{rules}
use Rattle.hip_cuts.proofs.Spaces.{trimmed_between, trimmed_end, trimmed_start}
use Rattle.hip_cuts.proofs.laws.a_trim_leaves_what_white_space_surrounds.Goals as goal

pub returns-clause-both : goal.returns-clause-both
returns-clause-both g source = λ result same answers. trimmed_between g.args.text.now (search rules) source same result answers

pub returns-clause-start : goal.returns-clause-start
returns-clause-start g source = λ result same answers. trimmed_start g.args.text.now (search rules) source same result answers

pub returns-clause-end : goal.returns-clause-end
returns-clause-end g source = λ result same answers. trimmed_end g.args.text.now (search rules) source same result answers
