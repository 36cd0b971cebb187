use Rattle.hip_match.proofs.chosen.choose_from.Given as goal

abbrev pub ghost-choose : goal.ghost-choose
ghost-choose g a = g.answers
