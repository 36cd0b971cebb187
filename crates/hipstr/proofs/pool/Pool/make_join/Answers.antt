use Rattle.std.proofs.Common.{refl, rules}
use Rattle.hipstr.proofs.{Counts.refused-counts, Joins.join-counted, Joins.join-refused, Joins.join-step}
use Rattle.hipstr.specs.{Reason.grow_reason_of, Step.counts_of, declared.command.Command.TheVariants.Join}
use Rattle.hipstr.proofs.pool.Pool.make_join.Goals as goal

pub returns : goal.returns
returns g c = record {
  step = join-step _ c.in_ok-handle.handle g.B.Backend.SHARES c.args.self.now c.put.new.self c.args.first c.args.count c.args.sep c.args.t c.in_ok-handle.handle
      c.in_ok-find_all.ensures.found c.in_ok-find.ensures.found c.in_ok-find.ensures.within refl c.in_ok-handle.ensures.too_long c.in_ok-handle.ensures.holds c.put.ensures;
  counted = join-counted _ g.B.Backend.SHARES c.args.self.now c.args.first c.args.count c.args.sep c.args.t _ _
      c.in_ok-find_all.ensures.found c.in_ok-find.ensures.found c.in_ok-handle.ensures.too_long c.in_ok-handle.ensures.counted c.in_ok-handle.ensures.refused_counts_none;
  copied = c.in_ok-handle.ensures.copied;
}

pub returns-in_err-handle : goal.returns-in_err-handle
returns-in_err-handle g c =
    record {
      step = join-refused _ g.B.Backend.SHARES c.args.self.now c.args.self.now c.args.first c.args.count c.args.sep c.args.t c.in_err-handle.field-0.0 _
          c.in_ok-find_all.ensures.found c.in_ok-find.ensures.found refl (search rules) refl c.in_err-handle.ensures.too_long;
      counted = join-counted _ g.B.Backend.SHARES c.args.self.now c.args.first c.args.count c.args.sep c.args.t _ _
          c.in_ok-find_all.ensures.found c.in_ok-find.ensures.found c.in_err-handle.ensures.too_long c.in_err-handle.ensures.counted c.in_err-handle.ensures.refused_counts_none;
      copied = refused-counts (λ answer. counts_of g.B.Backend.SHARES c.args.self.now (Join c.args.first c.args.count c.args.sep c.args.t) answer c.args.self.now) _ (grow_reason_of c.in_err-handle.field-0.0) refl (search rules) c.in_err-handle.ensures.counted;
    }
