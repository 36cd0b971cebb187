-- Where owners are shared, a command that makes parts copies little.
use Rattle.std.proofs.Common.{◌≡◌, ◌∙◌, ℕ, ◌-◌, ◌≤◌, Bool, true, false, List, [], ◌∷◌, length, Option, Some, None, MatchOption, if◌then◌else◌, ap, refl, subst, sym, arith}
use Rattle.std.specs.Prelude.{is_none}
use Rattle.hip_bytes.proofs.Costs.{shared_clone_is_little, shared_part_is_little}
use Rattle.hip_bytes.specs.{Cost.clone_cost, Cost.cut_cost, Handle.Handle, Range.slice_of, declared.kind.Kind.Kind}
use Rattle.hip_cuts.proofs.Costs.{part-little, parts_little}
use Rattle.hip_cuts.specs.Piece.{IsLittle, part_cost, parts_cost}
use Rattle.hipstr.specs.{Little.CopiesLittle, Slot.SlotState, Slot.slot_at, declared.command.Command.Command, declared.command.Reason.Reason}
use Rattle.hipstr.specs.Step.{Costs, TrimsTo, TrimsMatchesTo, copies_of, drawn_of, fault_of, option_cost, parted_slot, stripped_slot}
use Rattle.hipstr.specs.declared.command.Command.TheVariants.{Clone, Slice, Trim, TrimMatches, Strip, Pieces, Once}

-- one part and one clone cost at most 23 bytes
pub one_part : (shares : Bool) → shares ≡ true → (kind : Kind) (len : ℕ) → cut_cost shares kind len ≤ 23
one_part shares shared kind len = subst (λ (b : Bool). cut_cost b kind len ≤ 23) (sym shared) (shared_part_is_little kind len)

pub one_clone : (shares : Bool) → shares ≡ true → (kind : Kind) (len : ℕ) → clone_cost shares kind len ≤ 23
one_clone shares shared kind len = subst (λ (b : Bool). clone_cost b kind len ≤ 23) (sym shared) (shared_clone_is_little kind len)

-- a cost that is little stays so where there is a fault, for which nothing is copied
unless-refused : (source : Handle) (count : ℕ) (allowed : Bool) (copied cost : ℕ) → IsLittle source count copied → cost ≡ (if allowed then copied else 0) → IsLittle source count cost
unless-refused source count true copied cost little is = record { at_most = omega (arith, little.at_most, is); lent = λ lent. is ∙ little.lent lent }
unless-refused source count false copied cost little is = record { at_most = omega (arith, is); lent = λ lent. is }

clone-little : (source : Handle) (len : ℕ) → IsLittle source 1 (clone_cost true source.kind len)
clone-little source len = record { at_most = omega (arith, shared_clone_is_little source.kind len); lent = λ lent. ap (λ (kind : Kind). clone_cost true kind len) lent }

-- a strip costs little, whether there is something to strip or not
strip-little : (source : Handle) (range : Option (ℕ × ℕ)) → IsLittle source 1 (option_cost (part_cost true source) range)
strip-little source None = record { at_most = omega arith; lent = λ lent. refl }
strip-little source (Some range) = part-little source (range.1 - range.0)

once-little : (source : Handle) (parts : Option ((ℕ × ℕ) × (ℕ × ℕ))) → IsLittle source 2 (option_cost (λ (parts : (ℕ × ℕ) × (ℕ × ℕ)). parts_cost true source (parts.0 ∷ parts.1 ∷ [])) parts)
once-little source None = record { at_most = omega arith; lent = λ lent. refl }
once-little source (Some parts) = parts_little source (parts.0 ∷ parts.1 ∷ [])

trim-little : (source : Handle) (fault : Option Reason) (Trims : ℕ × ℕ → Type 0) (cost : ℕ)
    → MatchOption fault ((range : ℕ × ℕ) × Trims range × (cost ≡ part_cost true source range)) (λ reason. cost ≡ 0) → IsLittle source 1 cost
trim-little source None Trims cost costs =
    let little = part-little source (costs.0.1 - costs.0.0) in
    record { at_most = omega (arith, little.at_most, costs.2); lent = λ lent. costs.2 ∙ little.lent lent }
trim-little source (Some reason) Trims cost costs = record { at_most = omega (arith, costs); lent = λ lent. costs }

pub copies_little : (slots : List SlotState) (command : Command) (cost : ℕ) → Costs true slots command cost → CopiesLittle slots command cost
copies_little slots (Clone s t) cost costs =
    unless-refused (slot_at slots s) 1 (is_none (fault_of slots (Clone s t))) (copies_of true slots (Clone s t)) cost (clone-little (slot_at slots s) (length (slot_at slots s).items)) costs
copies_little slots (Slice s t low high) cost costs =
    unless-refused (slot_at slots s) 1 (is_none (fault_of slots (Slice s t low high))) (copies_of true slots (Slice s t low high)) cost (part-little (slot_at slots s) (length (slice_of low high (slot_at slots s).items))) costs
copies_little slots (Trim s t side) cost costs = trim-little (slot_at slots s) (fault_of slots (Trim s t side)) (TrimsTo slots s side) cost costs
copies_little slots (TrimMatches s t side pattern) cost costs =
    trim-little (slot_at slots s) (fault_of slots (TrimMatches s t side pattern)) (TrimsMatchesTo slots s side pattern) cost costs
copies_little slots (Strip s t end pattern) cost costs =
    unless-refused (slot_at slots s) 1 (is_none (fault_of slots (Strip s t end pattern))) (copies_of true slots (Strip s t end pattern)) cost (strip-little (slot_at slots s) (stripped_slot slots s end pattern)) costs
copies_little slots (Pieces s how script first) cost costs =
    unless-refused (slot_at slots s) (length (drawn_of slots s how script.now)) (is_none (fault_of slots (Pieces s how script first))) (copies_of true slots (Pieces s how script first)) cost
    (parts_little (slot_at slots s) (drawn_of slots s how script.now)) costs
copies_little slots (Once s t u end pattern) cost costs =
    unless-refused (slot_at slots s) 2 (is_none (fault_of slots (Once s t u end pattern))) (copies_of true slots (Once s t u end pattern)) cost (once-little (slot_at slots s) (parted_slot slots s end pattern)) costs
copies_little slots command cost costs = tt
