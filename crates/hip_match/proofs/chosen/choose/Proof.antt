-- `choose` makes a value of no bytes, whose ghost field is the list that the caller's proof chooses.
use Rattle.std.proofs.Common.{[], ◌∷◌, refl}
use Rattle.std.proofs.raw_atomic.Walks.{proved}
use mir.Val.{Val, vstruct, vnil}
use contract.Running.{tables}
use base.Fml.{Fml, ftrue}
use types.Kit.{‵, raw, ◌$◌, ◌∵◌, !, qed, done, keep, use0, suffices, group}
use types.Run.{enter, no_more, returns}
use types.Part.{agg}
use types.ByLocal.{alloc_all, pass_all, free_all, look_at, sets}
use denote.Shadow.{makes_shadow}
use denote.Signature.{type_at}
use denote.Steps.{nothing}
use denote.Triple.Entry.{on_entry, Res}
use denote.Triple.Walked.{Stays, walk_of, says, ends_at}
use Rattle.hip_match.specs.contracts.chosen.choose as f
use Rattle.hip_match.proofs.chosen.choose.Statement.{statement}
use Rattle.hip_match.proofs.chosen.choose.Code as code

abbrev stayed : Stays f.ended.signature.params f.ended.kept
stayed = tt

pub choose_spec : {M : Type 1} → statement M
choose_spec 𝓤 𝓛 𝓜 𝓡 wired =
    let c = f.clauses 𝓛 𝓜.mem 𝓡.returns in let W = walk_of 𝓛 f.ended stayed c in let 𝓣 = tables 𝓤 𝓛.H 𝓜 𝓡 𝓡.env in
    proved 𝓛 f.ended stayed c 𝓜 𝓡 tt
    f.Key.name code.function (code.unfolded 𝓤 𝓛.H 𝓜 𝓡 wired)
    (λ κs. tt) (λ κs. tt) (λ κs qs bounds a n are.
    let y : W.Ghost = ((κs, qs, bounds, a, tt), n) in
    let v : Val = vstruct vnil in let r : Res f.ended.signature κs = record { answers = n } in
    let O : Fml = (type_at f.ended.signature.result κs).own_val r (v ∷ []) in
    qed 𝓛 (raw (on_entry 𝓛 f.signature κs qs a y.0.4) ∷ ‵ ftrue ∷ []) ∵ keep ! [] $
    enter ! _ _ _ _ _ $ alloc_all ! (λ l. pass_all ! refl tt $
    sets ! (agg ! (no_more !)) refl (tt, tt) $
    returns ! (look_at ! 0 refl) $ free_all ! refl $
    use0 𝓛 (‵ O) (makes_shadow 𝓛 O ((λ _. (tt, tt)), tt) ((tt, (refl, tt)), tt)) $
    suffices ! _ (ends_at 𝓛 f.ended stayed c y v r tt tt) $ says ! refl $ nothing ! $ nothing ! $ group ! 3 $ done !))
