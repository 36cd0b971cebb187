use Rattle.std.proofs.Common.{◌<◌}
use Rattle.std.proofs.lemmas.Fmt.{decimal_digit}
use Rattle.hip_script.proofs.print.print_number.Goals as goal

pub returns-then-number-lt10 : goal.returns-then-number-lt10
returns-then-number-lt10 g c =
    let below : c.args.number < 10 = c.if-number-lt10.true in
    rw (decimal_digit c.args.number below) c.write.ensures
