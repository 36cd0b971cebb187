use Rattle.std.proofs.Common.{List, ℕ, length, subst}
use Rattle.hip_bytes.specs.{Meter.RisesAtMost, Join.join_cost, Made.JoinAnswers}
use Rattle.hipstr.proofs.{Counts.join-counts, Joins.joined-pieces, Joins.join-holds, Joins.join-too_long}
use Rattle.hipstr.proofs.pool.Pool.joined.Goals as goal

pub returns-clause-holds : goal.returns-clause-holds
returns-clause-holds g c =
    let same = joined-pieces c.args.self.now c.args.first c.args.count c.args.sep.now c.in_ok-pieces.pieces.items c.deref.result.now c.deref.ensures.value c.in_ok-pieces.ensures in
    join-holds _ c.join_slices_metered.result (subst (λ (xs : List ℕ). JoinAnswers xs c.join_slices_metered.result) same c.join_slices_metered.ensures.joined)

pub returns-clause-too_long : goal.returns-clause-too_long
returns-clause-too_long g c =
    let same = joined-pieces c.args.self.now c.args.first c.args.count c.args.sep.now c.in_ok-pieces.pieces.items c.deref.result.now c.deref.ensures.value c.in_ok-pieces.ensures in
    join-too_long _ c.join_slices_metered.result (subst (λ (xs : List ℕ). JoinAnswers xs c.join_slices_metered.result) same c.join_slices_metered.ensures.joined)

pub returns-clause-counted : goal.returns-clause-counted
returns-clause-counted g c =
    let same = joined-pieces c.args.self.now c.args.first c.args.count c.args.sep.now c.in_ok-pieces.pieces.items c.deref.result.now c.deref.ensures.value c.in_ok-pieces.ensures in
    subst (λ (xs : List ℕ). RisesAtMost c.args.meter.now c.join_slices_metered.new.meter (join_cost g.B.Backend.SHARES (length xs))) same c.join_slices_metered.ensures.counted

pub returns-clause-copied : goal.returns-clause-copied
returns-clause-copied g c =
    let same = joined-pieces c.args.self.now c.args.first c.args.count c.args.sep.now c.in_ok-pieces.pieces.items c.deref.result.now c.deref.ensures.value c.in_ok-pieces.ensures in
    join-counts _ c.join_slices_metered.result _ _ (subst (λ (xs : List ℕ). JoinAnswers xs c.join_slices_metered.result) same c.join_slices_metered.ensures.joined) c.join_slices_metered.ensures.copied
