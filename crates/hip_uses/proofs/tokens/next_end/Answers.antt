use Rattle.std.proofs.Common.{◌∙◌, ◌+◌, arith}
use Rattle.hip_uses.specs.Token.{IsClassRun}
use Rattle.hip_uses.specs.Turns.{NoTurn}
use Rattle.hip_uses.proofs.Runs.{run-boundary}
use Rattle.hip_uses.proofs.TurnLemmas.{one-class, run-to-turn}
use Rattle.hip_uses.proofs.tokens.next_end.Goals as goal

pub run_end-requires-clause-class : goal.run_end-requires-clause-class
run_end-requires-clause-class c = λ k lo hi.
    let none : NoTurn c.args.text.now c.args.start c.next.new.self.upto = rw (← c.as_bytes.ensures.value) c.in-None.ensures.found.none in
    one-class c.args.text.now c.args.start k lo (λ j low high. none j low (omega (arith, c.max.ensures))) ∙ c.requires.class

pub returns-in-Some-clause-run : goal.returns-in-Some-clause-run
returns-in-Some-clause-run c = run-to-turn c.args.text.now c.args.class c.args.start c.in-Some.last c.requires.class (rw (← c.as_bytes.ensures.value) c.in-Some.ensures.found)

pub returns-in-Some-clause-boundary : goal.returns-in-Some-clause-boundary
returns-in-Some-clause-boundary c =
    let run : IsClassRun c.args.text.now c.args.class c.args.start (c.in-Some.last + 1) = returns-in-Some-clause-run c in
    run-boundary _ _ _ _ c.utf8.text run.filled run.within run.one_class run.longest
