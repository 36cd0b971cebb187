use Rattle.std.proofs.Common.{rules, subst, arith}
use Rattle.std.proofs.lemmas.Grind.{common_steps}
use Rattle.std.proofs.KnownBytes.{Appends-trans}
use Rattle.std.specs.Io.KnownBytes.{Appends}
use Rattle.hip_bytes.proofs.Forms.{take-further}
use Rattle.hip_bytes.proofs.hip_byt.borsh.write_whole.Goals as goal

pub loop-done-preserved : goal.loop-done-preserved
loop-done-preserved g c = record {
  within = search rules;
  written = subst (Appends _ _) (take-further c.args.bytes.now c.loop-done.done c.in_ok-count.count) (Appends-trans _ _ _ _ _ c.loop-done.invariant.written c.in_ok-count.ensures.bytes);
  failures = search rules;
}

pub returns-in_err-count-clause-moved : goal.returns-in_err-count-clause-moved
returns-in_err-count-clause-moved g c = grind (arith, common_steps)

pub returns-then-count-eq0-clause-moved : goal.returns-then-count-eq0-clause-moved
returns-then-count-eq0-clause-moved g c = grind (arith, common_steps)

pub returns-clause-moved : goal.returns-clause-moved
returns-clause-moved g c = grind (arith, common_steps)
