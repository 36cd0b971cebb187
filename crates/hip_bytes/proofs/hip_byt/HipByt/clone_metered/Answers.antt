use Rattle.std.proofs.Common.{◌∙◌, ◌≤◌, length, ap, sym, subst, subst₂, rules}
use Rattle.std.proofs.lemmas.Result.{IfOk-from_err}
use Rattle.hip_raw.specs.Borrowed.{borrowed_bytes}
use Rattle.hip_raw.specs.Meter.{RisesAtLeast}
use Rattle.hip_bytes.specs.Cost.{clone_cost}
use Rattle.hip_bytes.specs.Kinds.{Holds}
use Rattle.hip_bytes.specs.Repr.{handle_of}
use Rattle.hip_bytes.specs.declared.kind.TheConstants.{INLINE_CAPACITY}
use Rattle.hip_bytes.proofs.Clones.{Clones, in_handle, in_owner, lent, refused}
use Rattle.hip_bytes.proofs.hip_byt.HipByt.clone_metered.Goals as goal
use Rattle.hip_bytes.proofs.hip_byt.HipByt.clone_metered.Goals.{in-Inline, in-Borrowed, in-Allocated+in_ok-slice_unchecked_metered-in-Allocated}

pub returns-in_err-slice_unchecked_metered-in-Allocated : goal.returns-in_err-slice_unchecked_metered-in-Allocated
returns-in_err-slice_unchecked_metered-in-Allocated g c =
    let view = ap handle_of (sym c.in-Allocated.is) ∙ c.self.view_is in
    let cloned = refused g.B.Backend.SHARES c.in-Allocated.allocated c.args.self.now c.len.result _ _ view c.len.ensures.len c.slice_unchecked_metered.ensures.counted c.from_residual.result c.from_residual.ensures.0 in
    record { clone = cloned.0; counted = cloned.1; copied = IfOk-from_err _ (λ _. RisesAtLeast c.args.meter.now c.slice_unchecked_metered.new.meter (clone_cost g.B.Backend.SHARES c.args.self.now.kind (length c.args.self.now.items))) c.from_residual.ensures.0 }

pub returns : goal.returns
returns g c =
    let made = handle_of c.match-self.repr in
    let cloned : Clones g.B.Backend.SHARES c.args.self.now made c.args.meter.now c.match-self.meter =
    elim c.match-self.branch [
      | in-Inline w ↦
          let short : length w.in-Inline.inline ≤ INLINE_CAPACITY = search rules in
          let view = ap handle_of (sym w.in-Inline.is) ∙ c.self.view_is in
          subst₂ (λ h m. Clones g.B.Backend.SHARES c.args.self.now h c.args.meter.now m) (ap handle_of (sym w.repr-is)) (sym w.meter-is)
          (in_handle g.B.Backend.SHARES w.in-Inline.inline w.clone_metered.result c.args.self.now _ _ view w.clone_metered.ensures.items short w.clone_metered.ensures.counted w.clone_metered.ensures.exact)
      | in-Borrowed w ↦
          let view = ap handle_of (sym w.in-Borrowed.is) ∙ c.self.view_is in
          subst₂ (λ h m. Clones g.B.Backend.SHARES c.args.self.now h c.args.meter.now m) (ap handle_of (sym w.repr-is)) (sym w.meter-is)
          (lent g.B.Backend.SHARES (borrowed_bytes w.in-Borrowed.borrowed) c.args.self.now _ view)
      | in-Allocated+in_ok-slice_unchecked_metered-in-Allocated w ↦
          let part = w.in_ok-slice_unchecked_metered-in-Allocated.ensures in
          let view = ap handle_of (sym w.in-Allocated.is) ∙ c.self.view_is in
          subst₂ (λ h m. Clones g.B.Backend.SHARES c.args.self.now h c.args.meter.now m) (ap handle_of (sym w.repr-is)) (sym w.meter-is)
          (in_owner g.B.Backend.SHARES w.in-Allocated.allocated c.args.self.now w.len.result _ _ view w.len.ensures.len part.counted w.in_ok-slice_unchecked_metered-in-Allocated.field-0 part.items part.fits part.copied)
    ] in
    record { clone = subst (λ h. Holds h c.args.self.now.kind c.args.self.now.items) (sym c.of.ensures) cloned.0; counted = cloned.1; copied = cloned.2 }
