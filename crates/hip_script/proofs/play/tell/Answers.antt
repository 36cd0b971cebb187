use Rattle.std.proofs.Common.{ap, refl, rules}
use Rattle.hip_script.specs.{Played.printed_show, Printed.printed_number}
use Rattle.hip_script.proofs.play.tell.Goals as goal

pub returns-in-Show : goal.returns-in-Show
returns-in-Show g c = rw c.in-Show.is (record { text = printed_show c.args.pool.now c.in-Show.slot; tells = (refl, refl); written = c.show.ensures })

pub returns-in-Copied : goal.returns-in-Copied
returns-in-Copied g c =
    rw c.in-Copied.is (record { text = printed_number c.copied.result; tells = (ap printed_number c.copied.ensures, refl, (search rules)); written = c.print_count.ensures })
