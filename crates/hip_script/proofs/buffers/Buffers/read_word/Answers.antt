use Rattle.std.proofs.{Common.ℕ, Common.refl, lemmas.Result.on_ok_weaker}
use Rattle.hipstr.specs.{declared.End.End, declared.command.Side.Side}
use Rattle.hip_script.specs.Said.{fields_in, held}
use Rattle.hip_script.proofs.Growth.{puts}
use Rattle.hip_script.proofs.buffers.Buffers.read_word.Goals as goal

pub returns-in-Source-clause-ok : goal.returns-in-Source-clause-ok
returns-in-Source-clause-ok c =
    let set = λ (n : ℕ). record (fields_in (held c.args.self.now) c.args.said.now) { source = n } in
    rw c.in-Source.is (on_ok_weaker c.put.result (λ is. puts set _ _ _ _ _ _ _ c.requires c.number.ensures is refl refl refl) c.put.ensures.ok)

pub returns-in-Target-clause-ok : goal.returns-in-Target-clause-ok
returns-in-Target-clause-ok c =
    let set = λ (n : ℕ). record (fields_in (held c.args.self.now) c.args.said.now) { target = n } in
    rw c.in-Target.is (on_ok_weaker c.put-in-Target.result (λ is. puts set _ _ _ _ _ _ _ c.requires c.number-in-Target.ensures is refl refl refl) c.put-in-Target.ensures.ok)

pub returns-in-Number-clause-ok : goal.returns-in-Number-clause-ok
returns-in-Number-clause-ok c =
    let set = λ (n : ℕ). record (fields_in (held c.args.self.now) c.args.said.now) { number = n } in
    rw c.in-Number.is (on_ok_weaker c.put-in-Number.result (λ is. puts set _ _ _ _ _ _ _ c.requires c.number-in-Number.ensures is refl refl refl) c.put-in-Number.ensures.ok)

pub returns-in-Byte-clause-ok : goal.returns-in-Byte-clause-ok
returns-in-Byte-clause-ok c =
    let set = λ (n : ℕ). record (fields_in (held c.args.self.now) c.args.said.now) { byte = n } in
    rw c.in-Byte.is (on_ok_weaker c.put-in-Byte.result (λ is. puts set _ _ _ _ _ _ _ c.requires c.byte.ensures is refl refl refl) c.put-in-Byte.ensures.ok)

pub returns-in-Side-clause-ok : goal.returns-in-Side-clause-ok
returns-in-Side-clause-ok c =
    let set = λ (n : Side). record (fields_in (held c.args.self.now) c.args.said.now) { side = n } in
    rw c.in-Side.is (on_ok_weaker c.put-in-Side.result (λ is. puts set _ _ _ _ _ _ _ c.requires c.one_of.ensures is refl refl refl) c.put-in-Side.ensures.ok)

pub returns-in-End-clause-ok : goal.returns-in-End-clause-ok
returns-in-End-clause-ok c =
    let set = λ (n : End). record (fields_in (held c.args.self.now) c.args.said.now) { end = n } in
    rw c.in-End.is (on_ok_weaker c.put-in-End.result (λ is. puts set _ _ _ _ _ _ _ c.requires c.one_of-in-End.ensures is refl refl refl) c.put-in-End.ensures.ok)
