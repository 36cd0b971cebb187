-- The answers of calls that cut a part out of a path. A refusal says where memory may be needed.
use Rattle.std.specs.Prelude.{◌≡◌, ℕ, Bool, List, length, Option, Some, None, Result, Ok, Err, IfOk, IfSome}
use Rattle.hip_bytes.specs.Handle.{Handle}
use Rattle.hip_bytes.specs.Cost.{cut_cost, CutNeedsMemory, PartCounts}
use Rattle.hip_bytes.specs.Made.{IsPart}
use Rattle.hip_raw.specs.Meter.{RisesAtMost}
use Rattle.hip_names.specs.PathParts.{HasNoParent, IsParent}

-- the part of a source with these of its items, if there are any
abbrev pub PartIfAny : {E : Type 0} → Option (List ℕ) → Handle → Result (Option Handle) E → Type 0
PartIfAny None source result = result ≡ Ok None
PartIfAny (Some items) source (Ok (Some part)) = IsPart source part items
PartIfAny (Some items) source (Ok None) = ⊥
PartIfAny (Some items) source (Err error) = CutNeedsMemory source.kind (length items)

-- the rise of a meter by such a call
abbrev pub PartIfAnyCosts : Bool → Option (List ℕ) → Handle → ℕ → ℕ → Type 0
PartIfAnyCosts shares None source before after = after ≡ before
PartIfAnyCosts shares (Some items) source before after = RisesAtMost before after (cut_cost shares source.kind (length items))

-- the part, if there is any, was counted
abbrev pub PartIfAnyCounts : {E : Type 0} → Bool → Handle → Result (Option Handle) E → ℕ → ℕ → Type 0
PartIfAnyCounts shares source result before after =
    IfOk result (λ found. IfSome found (λ part. PartCounts shares source part before after))

-- the part of a source that is its parent as a path, if it has one
abbrev pub ParentAnswers : {E : Type 0} → Handle → Result (Option Handle) E → Type 0
ParentAnswers source (Ok None) = HasNoParent source.items
ParentAnswers source (Ok (Some parent)) = IsParent source.items parent.items × IsPart source parent parent.items
ParentAnswers source (Err error) = (parent : List ℕ) × IsParent source.items parent × CutNeedsMemory source.kind (length parent)

abbrev pub ParentCosts : {E : Type 0} → Bool → Handle → Result (Option Handle) E → ℕ → ℕ → Type 0
ParentCosts shares source (Ok None) before after = after ≡ before
ParentCosts shares source (Ok (Some parent)) before after = RisesAtMost before after (cut_cost shares source.kind (length parent.items))
ParentCosts shares source (Err error) before after =
    (parent : List ℕ) × IsParent source.items parent × RisesAtMost before after (cut_cost shares source.kind (length parent))
