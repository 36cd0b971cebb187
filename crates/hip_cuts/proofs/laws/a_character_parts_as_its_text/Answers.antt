use Rattle.std.proofs.Common.{rules}
use Rattle.hip_cuts.proofs.Parted.{parted_last_char, parted_once_char, stripped_back_char, stripped_front_char}
use Rattle.hip_cuts.proofs.laws.a_character_parts_as_its_text.Goals as goal

pub returns-clause-first : goal.returns-clause-first
returns-clause-first g source = λ result same answers. parted_once_char g.args.c g.args.text.now source (search rules) (search rules) same result answers

pub returns-clause-last : goal.returns-clause-last
returns-clause-last g source = λ result same answers. parted_last_char g.args.c g.args.text.now source (search rules) (search rules) same result answers

pub returns-clause-prefix : goal.returns-clause-prefix
returns-clause-prefix g source = λ result same answers. stripped_front_char g.args.c g.args.text.now source (search rules) (search rules) same result answers

pub returns-clause-suffix : goal.returns-clause-suffix
returns-clause-suffix g source = λ result same answers. stripped_back_char g.args.c g.args.text.now source (search rules) (search rules) same result answers
