use Rattle.std.proofs.Common.{◌≡◌, get_or, arith}
use Rattle.hip_uses.specs.Token.{class_of}
use Rattle.hip_uses.proofs.Runs.{run-boundary, within_more}
use Rattle.hip_uses.proofs.tokens.run_end.Goals as goal

pub loop-end-preserved : goal.loop-end-preserved
loop-end-preserved c = (
  omega arith,
  omega arith,
  within_more (λ k. class_of (get_or c.args.text.now k 0) ≡ c.args.class) c.args.start c.loop-end.end c.loop-end.invariant.2
      (rw (← c.as_bytes-bytes.ensures.value) (c.is_of.ensures.0 c.if-is_of.true)),
  omega arith,
)

pub returns-else-is_of-clause-boundary : goal.returns-else-is_of-clause-boundary
returns-else-is_of-clause-boundary c =
    run-boundary _ _ _ _ c.utf8.text c.loop-end.invariant.0 c.loop-end.invariant.1 c.loop-end.invariant.2 (λ lt same. grind arith)
