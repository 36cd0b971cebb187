use Rattle.std.proofs.Common.{rules}
use Rattle.hip_script.proofs.LineLaws.{ends_with_return, ends_without_return, no_line}
use Rattle.hip_script.proofs.lines.cut_return.Goals as goal

pub returns-in-13 : goal.returns-in-13
returns-in-13 c = search (rules, ends_with_return)

pub returns-in_default : goal.returns-in_default
returns-in_default c = no_line _ c.in_default.len_below

pub returns-in_default-2 : goal.returns-in_default-2
returns-in_default-2 c = search (rules, ends_without_return)
