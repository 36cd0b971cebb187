use Rattle.std.proofs.Common.{◌+◌, get_or, arith}
use Rattle.std.proofs.lemmas.Grind.{common_steps}
use Rattle.hipstr.proofs.{Amortised.step-paid, Amortised.RunAmortised-take_more, Counts.counts-more, Runs.Run-take_more}
use Rattle.hipstr.specs.declared.command.Command.TheVariants.{New}
use Rattle.hipstr.proofs.machine.run.Goals as goal

pub loop-command-preserved : goal.loop-command-preserved
loop-command-preserved g c =
    let so_far = c.loop-command.invariant.run in
    let shares = g.B.Backend.SHARES in
    let command = get_or c.args.commands.now c.loop-command.command-index (New 0) in
    let step = rw (← c.from.ensures) at c.perform.ensures.step in
    record {
      run = (
        _,
        _,
        Run-take_more _ _ _ _ _ _ _ _ _ _ _ _ c.perform.ensures.counted.0 c.loop-command-test.true so_far.2 step c.perform.ensures.counted.1 c.push_reserved.ensures.items,
        counts-more _ _ _ _ _ so_far.3 (rw (← c.from.ensures) at c.perform.ensures.copied),
        record { never_falls = omega (arith, so_far.4.never_falls, c.perform.ensures.counted.2.never_falls); at_most = omega (arith, so_far.4.at_most, c.perform.ensures.counted.2.at_most) },
      );
      amortised = λ unshared.
          let before = c.loop-command.invariant.amortised unshared in
          let paid = step-paid shares c.loop-command.pool c.perform.new.self command c.loop-command.meter c.perform.new.meter c.perform.ensures.counted.0
          unshared c.perform.ensures.paid c.perform.ensures.counted.1 c.perform.ensures.counted.2 in (
            before.0 + paid.0,
            RunAmortised-take_more shares c.args.pool.now c.loop-command.pool c.perform.new.self c.args.commands.now c.loop-command.command-index (New 0) c.loop-command.answers.items
                c.push_reserved.new.self.items before.0 c.from.result paid.0 c.loop-command-test.true before.1 step paid.1 c.push_reserved.ensures.items,
            omega (arith, before.2, paid.2),
          );
      answered = omega arith;
      room = omega arith;
    }

pub returns-clause-run : goal.returns-clause-run
returns-clause-run g c = grind (arith, common_steps)

pub returns-clause-amortised : goal.returns-clause-amortised
returns-clause-amortised g c = grind (arith, common_steps)
