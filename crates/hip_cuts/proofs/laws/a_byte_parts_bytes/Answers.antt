use Rattle.hip_cuts.proofs.Parted.{parted_at_byte, parted_at_last_byte}
use Rattle.hip_cuts.proofs.laws.a_byte_parts_bytes.Goals as goal

pub returns-clause-first : goal.returns-clause-first
returns-clause-first g source = λ result same answers. parted_at_byte g.args.byte g.args.bytes.now source same result answers

pub returns-clause-last : goal.returns-clause-last
returns-clause-last g source = λ result same answers. parted_at_last_byte g.args.byte g.args.bytes.now source same result answers
