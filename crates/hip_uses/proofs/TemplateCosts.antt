-- What a template's parts copy.
use Rattle.std.proofs.Common.{◌≡◌, ◌∙◌, ℕ, ◌+◌, ◌-◌, ◌≤◌, Bool, List, [], ◌∷◌, ◌++◌, length, ap, sym, subst, arith, flat_map, slice_range}
use Rattle.std.proofs.lemmas.List.{flat_map_more}
use Rattle.hip_fields.specs.Records.{Texts, fields_cost}
use Rattle.hipstr.specs.Cost.{cut_cost}
use Rattle.hipstr.specs.Handle.{Handle}
use Rattle.hipstr.specs.Made.{IsPart}
use Rattle.hipstr.specs.Meter.{RisesAtMost}
use Rattle.hipstr.specs.declared.Kind.{Kind}
use Rattle.hip_uses.specs.Template.{hole_texts, template_texts}
use Rattle.hip_uses.specs.declared.template.Hole.{Hole}
use Rattle.hip_uses.proofs.Runs.{length-range}

-- a part by its own bytes
pub own-part : (source part : Handle) (items : List ℕ) → IsPart source part items → IsPart source part part.items
own-part source part items is = subst (IsPart source part) (sym is.items_are) is

fields_cost-append : (shares : Bool) (kind : Kind) (xs ys : Texts) → fields_cost shares kind (xs ++ ys) ≡ fields_cost shares kind xs + fields_cost shares kind ys
fields_cost-append shares kind [] ys = omega arith
fields_cost-append shares kind (x ∷ xs) ys = omega (arith, fields_cost-append shares kind xs ys)

part-cost : (shares : Bool) (source part : Handle) (start end : ℕ) → IsPart source part (slice_range source.items start end) → start ≤ end → end ≤ length source.items
    → cut_cost shares source.kind (end - start) ≡ cut_cost shares source.kind (length part.items)
part-cost shares source part start end is ordered within =
    ap (cut_cost shares source.kind) (sym (ap length is.items_are ∙ length-range source.items start end ordered within))

-- one hole more
pub holes-cost : {B S P : Type 0} (shares : Bool) (source : Handle) (holes more : List (Hole B S P)) (hole : Hole B S P) (from left name right first before middle after : ℕ) → more ≡ holes ++ hole ∷ []
    → IsPart source hole.before (slice_range source.items from left) → IsPart source hole.name (slice_range source.items name right) → from ≤ left → left ≤ length source.items → name ≤ right → right ≤ length source.items
    → RisesAtMost first before (fields_cost shares source.kind (flat_map hole_texts holes)) → RisesAtMost before middle (cut_cost shares source.kind (left - from)) → RisesAtMost middle after (cut_cost shares source.kind (right - name))
    → RisesAtMost first after (fields_cost shares source.kind (flat_map hole_texts more))
holes-cost shares source holes more hole from left name right first before middle after pushed front named low high low_name high_name so_far one two =
    let all : fields_cost shares source.kind (flat_map hole_texts more) ≡ fields_cost shares source.kind (flat_map hole_texts holes) + fields_cost shares source.kind (hole_texts hole) =
    ap (λ l. fields_cost shares source.kind (flat_map hole_texts l)) pushed ∙ ap (fields_cost shares source.kind) (sym (flat_map_more hole_texts [] holes hole)) ∙ fields_cost-append shares source.kind (flat_map hole_texts holes) (hole_texts hole) in
    record {
      never_falls = omega (arith, so_far.never_falls, one.never_falls, two.never_falls);
      at_most = omega (arith, so_far.at_most, one.at_most, two.at_most, all, part-cost shares source hole.before from left front low high, part-cost shares source hole.name name right named low_name high_name);
    }

-- and the text behind the last
pub rest-cost : {B S P : Type 0} (shares : Bool) (source : Handle) (holes : List (Hole B S P)) (rest : Handle) (end first before after : ℕ) → IsPart source rest (slice_range source.items end (length source.items)) → end ≤ length source.items
    → RisesAtMost first before (fields_cost shares source.kind (flat_map hole_texts holes)) → RisesAtMost before after (cut_cost shares source.kind (length source.items - end))
    → RisesAtMost first after (fields_cost shares source.kind (template_texts holes rest))
rest-cost shares source holes rest end first before after is within so_far one =
    let all = fields_cost-append shares source.kind (flat_map hole_texts holes) (rest.items ∷ []) in
    record {
      never_falls = omega (arith, so_far.never_falls, one.never_falls);
      at_most = omega (arith, so_far.at_most, one.at_most, all, part-cost shares source rest end (length source.items) is within (omega arith));
    }
