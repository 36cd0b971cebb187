use Rattle.hip_match.proofs.chosen.ChosenClone.clone.Given as goal

abbrev pub ghost-choose_from : goal.ghost-choose_from
ghost-choose_from a = a.seen.now.answers
