use Rattle.std.proofs.Common.{ℕ, Global, arith, length, vec_items}
use Rattle.std.proofs.lemmas.Grind.{common_steps}
use Rattle.hip_bytes.proofs.Forms.{handed-on, read-further}
use Rattle.hip_bytes.specs.Moved.{MovesIn}
use Rattle.hip_bytes.proofs.hip_byt.borsh.read_vec.Goals as goal

pub returns-in_err-read_whole-clause-moved : goal.returns-in_err-read_whole-clause-moved
returns-in_err-read_whole-clause-moved g c =
    handed-on _ _ (MovesIn (vec_items {X = ℕ} {Z = Global}) c.args.len (g.R.ByteSource.to_come c.args.source.now) (g.R.ByteSource.to_come c.read_whole.new.source))
    c.from_residual-in_err-read_whole.ensures.1
    (read-further {T = Unit {0}} (λ _. c.read_whole.new.room) (vec_items {X = ℕ} {Z = Global}) _ _ _ c.loop-vec.vec.items (length c.slice_mut.result.now) c.args.len _ c.loop-vec.invariant.taken
    (omega (arith, c.slice_mut.ensures.len, c.in_ok-resize.ensures.len, c.loop-vec.vec.ok.0, c.min.ensures, c.len-start.ensures)) c.in_err-read_whole.ensures.moved)

pub loop-vec-smaller : goal.loop-vec-smaller
loop-vec-smaller g c = grind (arith, common_steps)

pub loop-vec-preserved : goal.loop-vec-preserved
loop-vec-preserved g c = grind (arith, common_steps)
