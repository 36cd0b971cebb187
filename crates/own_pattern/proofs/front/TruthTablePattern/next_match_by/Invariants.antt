use Rattle.hipstr.specs.Characters.{char_ends}
use Rattle.hipstr.specs.Occurrence.{NoneStarts}
use Rattle.own_pattern.specs.Table.{in_table}
use Rattle.own_pattern.proofs.front.TruthTablePattern.next_match_by.Given as goal

abbrev pub invariant-loop-at : goal.invariant-loop-at
invariant-loop-at l = NoneStarts (char_ends (in_table l.self) l.text) l.from l.at
