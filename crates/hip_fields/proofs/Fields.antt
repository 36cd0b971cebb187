-- One field more of those that are to be made.
use Rattle.std.proofs.Common.{◌≡◌, ℕ, ◌+◌, ◌≤◌, ◌==◌, Bool, List, [], ◌∷◌, ◌++◌, length, Result, arith}
use Rattle.std.proofs.lemmas.Grind.{common_steps}
use Rattle.std.specs.Prelude.{IfOk}
use Rattle.std.specs.declared.alloc.Global.{Global}
use Rattle.std.specs.declared.vec.Vec.{Vec}
use Rattle.hip_text.specs.Cost.{cut_cost}
use Rattle.hip_text.specs.Handle.{Handle}
use Rattle.hip_text.specs.Made.{IsPart}
use Rattle.hip_text.specs.Meter.{RisesAtMost}
use Rattle.hip_bytes.specs.declared.kind.Kind.{Kind}
use Rattle.hip_match.specs.Characters.{char_ends}
use Rattle.hip_match.specs.Joined.{parts_at}
use Rattle.hip_match.specs.Pieces.{split}
use Rattle.hip_fields.specs.Records.{AreFields, fields_cost, fields_of}

-- the fields at the pieces of a line
pub fields-at : {E : Type 0} (source : Handle) (drawn : Result (Vec Handle Global) E) (separator : ℕ) (text line : List ℕ) (pieces : List (ℕ × ℕ))
    → text ≡ line → pieces ≡ split (char_ends (λ c. c == separator) text) (length text)
    → IfOk drawn (λ fields. AreFields source (parts_at line pieces) fields.items) → IfOk drawn (λ fields. AreFields source (fields_of separator line) fields.items)
fields-at source drawn separator text line pieces same are fields = grind arith

pub field-next : (source : Handle) (all old new : List (List ℕ)) (text : List ℕ) (done items : List Handle) (field : Handle)
    → old ≡ text ∷ new → IsPart source field text → items ≡ done ++ field ∷ []
    → ((more : List Handle) → AreFields source old more → AreFields source all (done ++ more))
    → (more : List Handle) → AreFields source new more → AreFields source all (items ++ more)
field-next source all old new text done items field first is pushed so_far more are = grind (arith, common_steps)

-- the rest of the fields costs as much less
pub field-cost : (shares : Bool) (kind : Kind) (old new : List (List ℕ)) (text : List ℕ) (len before after : ℕ)
    → old ≡ text ∷ new → len ≡ length text → RisesAtMost before after (cut_cost shares kind len)
    → (before ≤ after) × (after + fields_cost shares kind new ≤ before + fields_cost shares kind old)
field-cost shares kind old new text len before after first long rises = grind arith
