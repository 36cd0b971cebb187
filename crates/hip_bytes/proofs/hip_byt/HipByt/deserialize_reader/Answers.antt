use Rattle.std.proofs.Common.{rules, ◌∙◌, ℕ, Err, Global, ap, length, vec_items, arith}
use Rattle.std.proofs.lemmas.Grind.{common_steps}
use Rattle.std.proofs.lemmas.List.{length-replicate}
use Rattle.hip_bytes.proofs.Forms.{handed-on, read-form, read-rest, read-unmade}
use Rattle.hip_bytes.specs.Borsh.{BorshReads}
use Rattle.hip_bytes.specs.declared.borsh_fault.BorshFault.{BorshFault}
use Rattle.hip_bytes.proofs.hip_byt.HipByt.deserialize_reader.Goals as goal

pub returns-in_err-read_whole-2-clause-read : goal.returns-in_err-read_whole-2-clause-read
returns-in_err-read_whole-2-clause-read g c =
    let len = ap length c.as_mut_slice.ensures.items ∙ ap length c.zeroed-inline.ensures ∙ length-replicate c.from_le_bytes-len.result 0 in
    handed-on _ _ (BorshReads (g.R.ByteSource.to_come c.args.source.now) (g.R.ByteSource.to_come c.read_whole-then-len-le-INLINE_CAPACITY.new.source))
    c.from_residual-in_err-read_whole-2.ensures.1
    (read-rest {T = Unit {0}} (λ _. c.read_whole-then-len-le-INLINE_CAPACITY.new.room) _ _ _ c.read_whole.new.room (length c.as_mut_slice.result.now) _ c.in_ok-read_whole.ensures.moved.1 c.in_ok-read_whole.ensures.moved.0 (len ∙ c.from_le_bytes-len.ensures)
    (λ is. absurd (c.in_err-read_whole-2.ensures.memory (ap (λ (fault : BorshFault). Err fault) is))) c.in_err-read_whole-2.ensures.moved)

pub returns-in_err-read_vec-clause-read : goal.returns-in_err-read_vec-clause-read
returns-in_err-read_vec-clause-read g c =
    handed-on _ _ (BorshReads (g.R.ByteSource.to_come c.args.source.now) (g.R.ByteSource.to_come c.read_vec.new.source))
    c.from_residual-in_err-read_vec.ensures.1
    (read-rest (vec_items {X = ℕ} {Z = Global}) _ _ _ c.read_whole.new.room c.from_le_bytes-len.result _ c.in_ok-read_whole.ensures.moved.1 c.in_ok-read_whole.ensures.moved.0
    c.from_le_bytes-len.ensures (λ is. c.if-len-le-INLINE_CAPACITY.false) c.in_err-read_vec.ensures.moved)

pub returns-in-Ok-clause-read : goal.returns-in-Ok-clause-read
returns-in-Ok-clause-read g c =
    let same = c.in-Ok.ensures.made.items_are in (
      search rules,
      search rules,
      read-form _ _ _ c.read_whole.new.room c.in-Ok.handle.items c.from_le_bytes-len.result c.in_ok-read_whole.ensures.moved.1 (rw same c.in_ok-read_vec.ensures.moved.1) c.in_ok-read_whole.ensures.moved.0
          c.in_ok-read_whole.ensures.bytes (rw same c.in_ok-read_vec.ensures.moved.0) c.from_le_bytes-len.ensures,
    )

pub returns-clause-read : goal.returns-clause-read
returns-clause-read g c =
    read-unmade _ _ _ c.read_whole.new.room c.in_ok-read_vec.field-0.items c.from_le_bytes-len.result c.in_ok-read_whole.ensures.moved.1 c.in_ok-read_vec.ensures.moved.1 c.in_ok-read_whole.ensures.moved.0
    c.in_ok-read_vec.ensures.moved.0 c.from_le_bytes-len.ensures c.if-len-le-INLINE_CAPACITY.false

pub returns-then-len-le-INLINE_CAPACITY-clause-read : goal.returns-then-len-le-INLINE_CAPACITY-clause-read
returns-then-len-le-INLINE_CAPACITY-clause-read g c = grind (arith, common_steps)
