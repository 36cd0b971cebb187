-- The bytes of records' fields are those that the definition of records has.
use Rattle.std.proofs.Common.{◌≡◌, ℕ, ◌<◌, ◌≤◌, ◌⊎◌, inl, inr, true, false, codes, refl, subst, List, [], ◌∷◌, length, map, ap, sym, ◌∙◌, Vec}
use Rattle.std.proofs.lemmas.Bool.{cases_lt, le-ltb, lt-ltb}
use Rattle.std.specs.declared.alloc.Global.{Global}
use Rattle.hip_fields.specs.Records.{AreFields, AreRecords, records_of}
use Rattle.hipstr.specs.Runs.{lines}
use Rattle.hipstr.specs.{Handle.Handle, Slot.SlotState, Slot.state_at}
use Rattle.hip_script.specs.{Played.FieldsText, Printed.printed_records, Said.items_of, Said.texts_of}

fields-items : (source : Handle) (texts : List (List ℕ)) (fields : List Handle) → AreFields source texts fields → map items_of fields ≡ texts
fields-items source [] fields are = ap (map items_of) are
fields-items source (text ∷ texts) [] are = absurd are
fields-items source (text ∷ texts) (field ∷ fields) are =
    ap (λ t. t ∷ map items_of fields) are.0.items_are ∙ ap (λ t. text ∷ t) (fields-items source texts fields are.1)

pub records-texts : (source : Handle) (records : List (List (List ℕ))) (handles : List (Vec Handle Global)) → AreRecords source records handles
    → map texts_of handles ≡ records
records-texts source [] handles are = ap (map texts_of) are
records-texts source (texts ∷ more) [] are = absurd are
records-texts source (texts ∷ more) (fields ∷ handles) are =
    ap (λ t. t ∷ map texts_of handles) (fields-items source texts fields.items are.0) ∙ ap (λ t. texts ∷ t) (records-texts source more handles are.1)

-- a slot that is a text, and what its records print
pub fields-text : (slots : List SlotState) (s separator : ℕ) (text : Handle) (handles passed : List (Vec Handle Global)) → s < length slots
    → record { is_text = true; handle = text } ≡ state_at slots s → AreRecords text (records_of separator text.items) handles → passed ≡ handles
    → FieldsText slots s separator (printed_records (map texts_of passed))
fields-text slots s separator text handles passed inside is are passes =
    rw (lt-ltb s (length slots) inside, sym is) (inl (ap printed_records (ap (map texts_of) passes ∙ records-texts text (records_of separator text.items) handles are)
    ∙ ap (λ (state : SlotState). printed_records (records_of separator state.handle.items)) is))

-- why there are none: no such slot, no text, no memory
pub fields-no-slot : (slots : List SlotState) (s separator : ℕ) → (s < length slots → false ≡ true) → FieldsText slots s separator (codes "refused NoSlot\n")
fields-no-slot slots s separator never = by-order (cases_lt s (length slots)) where
  by-order : (s < length slots) ⊎ (length slots ≤ s) → FieldsText slots s separator (codes "refused NoSlot\n")
  by-order (inl within) = let clash = never within in absurd (cc)
  by-order (inr beyond) = rw (le-ltb s (length slots) beyond) refl

pub fields-no-text : (slots : List SlotState) (s separator : ℕ) (bytes : Handle) → s < length slots → record { is_text = false; handle = bytes } ≡ state_at slots s
    → FieldsText slots s separator (codes "refused NotText\n")
fields-no-text slots s separator bytes inside is = rw (lt-ltb s (length slots) inside, sym is) refl

pub fields-no-memory : (slots : List SlotState) (s separator : ℕ) (text : Handle) → s < length slots → record { is_text = true; handle = text } ≡ state_at slots s → (lines text.items ≡ [] → ⊥)
    → FieldsText slots s separator (codes "refused Memory\n")
fields-no-memory slots s separator text inside is some =
    rw (lt-ltb s (length slots) inside, sym is) (inr (subst (λ (state : SlotState). lines state.handle.items ≡ [] → ⊥) is some, refl))
