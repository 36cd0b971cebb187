-- One hole more of a template.
use Rattle.std.proofs.Common.{◌≡◌, ℕ, ◌+◌, ◌-◌, ◌*◌, ◌<◌, List, [], ◌∷◌, ◌++◌, Option, None, Some, Result, Ok, Err, length, take, drop, get_or, refl, append_assoc, take-append-drop, arith, Bor, HashMap, flat_map, option_map, subst, IsSome, OnOk}
use Rattle.std.specs.HashMap.{Updates}
use Rattle.std.proofs.lemmas.Grind.{common_steps}
use Rattle.std.proofs.lemmas.List.{drop_more, flat_map_more, get_or-map, length-map}
use Rattle.std.proofs.lemmas.List.Folds.{flat_map-map}
use Rattle.hipstr.specs.Join.{joined}
use Rattle.hipstr.specs.Handle.{Handle}
use Rattle.hip_uses.specs.Number.{text_bytes, same_text}
use Rattle.hip_uses.specs.Template.{AllKnown, all_shown, FillFails, CutsHole, CutsHoles, HoleFails, IsUnknown, filled, value_in, value_of, value_with, woven, written}
use Rattle.hip_uses.specs.declared.template.Hole.{Hole}
use Rattle.hip_uses.specs.declared.fault.TemplateFault.{TemplateFault}
use Rattle.hip_uses.specs.declared.fault.TemplateFault.TheVariants.{Unclosed, Unknown, Memory}

-- the pieces of one hole more
pub woven-more : {B S P : Type 0} (values : List (Handle × Handle)) (holes : List (Hole B S P)) (i : ℕ) (hole : Hole B S P) (before value : Bor (List ℕ)) (pieces middle more : List (Bor (List ℕ)))
    → i < length holes → hole ≡ get_or holes i hole → before.now ≡ hole.before.items → Some value.now ≡ option_map text_bytes (value_of values hole.name.items)
    → all_shown pieces ≡ woven values (take i holes) → middle ≡ pieces ++ before ∷ [] → more ≡ middle ++ value ∷ []
    → all_shown more ≡ woven values (take (i + 1) holes)
woven-more values holes i hole before value pieces middle more low here shown is so_far pushed pushed_too = grind (arith, common_steps)

-- two pieces a hole, of which the second is its value
length-woven : {B S P : Type 0} (values : List (Handle × Handle)) (holes : List (Hole B S P)) → length (woven values holes) ≡ 2 * length holes
length-woven values [] = refl
length-woven values (hole ∷ holes) = omega (arith, length-woven values holes)

woven-at : {B S P : Type 0} (values : List (Handle × Handle)) (holes : List (Hole B S P)) (i : ℕ) (hole : Hole B S P) → i < length holes → hole ≡ get_or holes i hole
    → get_or (woven values holes) (2 * i + 1) [] ≡ value_in values hole
woven-at values [] i hole low here = absurd (omega arith)
woven-at values (first ∷ holes) i hole low here = grind (arith, woven-at values holes (i - 1) hole)

-- as many pieces as two a hole
pub pieces_count : {B S P : Type 0} (values : List (Handle × Handle)) (holes : List (Hole B S P)) (pieces : List (Bor (List ℕ))) → all_shown pieces ≡ woven values holes → length pieces ≡ 2 * length holes
pieces_count values holes pieces are = grind (arith, length-map, length-woven)

-- the value of an earlier hole of this name
pub value-again : {B S P : Type 0} (values : List (Handle × Handle)) (holes : List (Hole B S P)) (i : ℕ) (hole : Hole B S P) (pieces : List (Bor (List ℕ))) (d : Bor (List ℕ)) (name : List ℕ)
    → i < length holes → hole ≡ get_or holes i hole → all_shown pieces ≡ woven values holes → AllKnown values holes → hole.name.items ≡ name
    → Some (get_or pieces (2 * i + 1) d).now ≡ option_map text_bytes (value_of values name)
value-again values holes i hole pieces d name low here all known same =
    grind (arith, pieces_count values holes pieces, get_or-map (λ (text : Bor (List ℕ)). text.now) pieces (2 * i + 1) d [], woven-at values holes i hole, known i hole)

-- a name that has a value is known, and one that has none isn't
pub some-known : (value : List ℕ) (o : Option Handle) → Some value ≡ option_map text_bytes o → IsSome o
some-known value o is = grind arith

pub none-known : (o : Option Handle) → None ≡ option_map text_bytes o → o ≡ None
none-known o is = grind arith

-- a hole under whose name nothing goes
pub hole-fails : {B S P : Type 0} (values : List (Handle × Handle)) (hole : Hole B S P) (fault : TemplateFault B S P) → value_of values hole.name.items ≡ None → IsUnknown hole.name.items fault
    → HoleFails values hole fault
hole-fails values hole fault none is = grind arith

-- the pieces one behind another, and the rest, are the holes filled and the rest
pub pieces-joined : {B S P : Type 0} (values : List (Handle × Handle)) (holes : List (Hole B S P)) (pieces all : List (Bor (List ℕ))) (rest : Bor (List ℕ)) (text : List ℕ)
    → all_shown pieces ≡ woven values holes → all ≡ pieces ++ rest ∷ [] → rest.now ≡ text → joined [] all ≡ filled values holes ++ text
pieces-joined values holes pieces all rest text is pushed shown =
    let Now : Bor (List ℕ) → List ℕ = λ text. text.now in
    grind (arith, flat-joined all, flat-filled values holes, flat_map_more Now [] pieces rest, flat_map-map (λ (l : List ℕ). l) Now pieces)
  where
    flat-joined : (pieces : List (Bor (List ℕ))) → joined [] pieces ≡ flat_map (λ (p : Bor (List ℕ)). p.now) pieces
    flat-joined [] = refl
    flat-joined (p ∷ ps) = refl

    flat-filled : {B S P : Type 0} (values : List (Handle × Handle)) (holes : List (Hole B S P)) → flat_map (λ (l : List ℕ). l) (woven values holes) ≡ filled values holes
    flat-filled values [] = refl
    flat-filled values (hole ∷ holes) = grind (arith, flat-filled values holes, append_assoc)

-- each hole up to a place is known, and the next
pub known-more : {B S P : Type 0} (values : List (Handle × Handle)) (holes : List (Hole B S P)) (i : ℕ) (hole : Hole B S P) → i < length holes → hole ≡ get_or holes i hole
    → IsSome (value_of values hole.name.items) → AllKnown values (take i holes) → AllKnown values (take (i + 1) holes)
known-more values holes i hole within is known so_far = grind (arith, common_steps)

-- the hole at a place can't be filled, and each before it is known
pub fails-first : {B S P : Type 0} (values : List (Handle × Handle)) (holes : List (Hole B S P)) (i : ℕ) (hole : Hole B S P) (fault : TemplateFault B S P) → i < length holes → hole ≡ get_or holes i hole
    → AllKnown values (take i holes) → HoleFails values hole fault → FillFails values holes fault
fails-first values holes i hole (Unclosed text) within is so_far fails = fails
fails-first values holes i hole (Unknown name) within is so_far fails = (take i holes, hole, drop (i + 1) holes, grind (arith, take-append-drop i holes, drop_more), so_far, fails)
fails-first values holes i hole Memory within is so_far fails = tt

-- a value more under a name, if there was memory for it
pub set-more : {R E S : Type 0} (result : Result R E) (before after : HashMap Handle Handle S) (old : List (Handle × Handle)) (name value : Handle)
    → before.entries ≡ old → OnOk result (Updates same_text before after name (Some value))
    → OnOk result ((other : List ℕ) → value_of after.entries other ≡ value_with old name.items value other)
set-more (Ok done) before after old name value is updated = λ other. grind (arith, updated.0 (record { kind = name.kind; items = other; capacity = 0 }))
set-more (Err error) before after old name value is refused = tt

-- one hole more that is written
pub written-more : {B S P : Type 0} (template rest : List ℕ) (holes more : List (Hole B S P)) (hole : Hole B S P) (after : List ℕ) → written holes ++ rest ≡ template
    → CutsHole rest hole after → more ≡ holes ++ hole ∷ [] → written more ++ after ≡ template
written-more template rest holes more hole after so_far cut pushed = grind (arith, common_steps)

-- one hole more is cut
cuts-behind : {B S P : Type 0} (template rest : List ℕ) (holes : List (Hole B S P)) (hole : Hole B S P) (after : List ℕ) → CutsHoles template holes rest → CutsHole rest hole after → CutsHoles template (holes ++ hole ∷ []) after
cuts-behind template rest [] hole after same cut = (after, subst (λ text. CutsHole text hole after) same cut, refl)
cuts-behind template rest (first ∷ holes) hole after so_far cut = (so_far.0, so_far.1, cuts-behind so_far.0 rest holes hole after so_far.2 cut)

pub cuts-more : {B S P : Type 0} (template rest : List ℕ) (holes more : List (Hole B S P)) (hole : Hole B S P) (after : List ℕ) → CutsHoles template holes rest
    → CutsHole rest hole after → more ≡ holes ++ hole ∷ [] → CutsHoles template more after
cuts-more template rest holes more hole after so_far cut pushed = rw pushed (cuts-behind template rest holes hole after so_far cut)
