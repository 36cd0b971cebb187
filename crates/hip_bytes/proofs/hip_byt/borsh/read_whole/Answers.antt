use Rattle.std.proofs.Common.{rules, subst, sym}
use Rattle.std.proofs.KnownBytes.{Consumes-trans}
use Rattle.std.specs.Io.KnownBytes.{Consumes}
use Rattle.hip_bytes.proofs.Forms.{filled-further}
use Rattle.hip_bytes.proofs.hip_byt.borsh.read_whole.Goals as goal

pub loop-done-preserved : goal.loop-done-preserved
loop-done-preserved g c =
    let filled = filled-further c.loop-done.room c.read.new.room c.loop-done.done c.in_ok-count.count c.loop-done.invariant.within c.in_ok-count.ensures.within.0 in
    record {
      room = search rules;
      within = search rules;
      taken = subst (Consumes _ _) (sym filled) (Consumes-trans _ _ _ _ _ c.loop-done.invariant.taken c.in_ok-count.ensures.bytes.0);
      bytes = search rules;
      failures = search rules;
    }
