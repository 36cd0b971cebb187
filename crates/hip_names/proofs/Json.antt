-- The members of an object, of which there is one.
use Rattle.std.proofs.Common.{◌≡◌, List, [], ◌∷◌, Some, None, length, string_bytes, arith, codes, refl}
use Rattle.std.specs.Prelude.{String, option_and_then, slice_get, if◌then◌else◌}
use Rattle.std.specs.Str.{bytes_eq}
use Rattle.std.specs.declared.alloc.Global.{Global}
use Rattle.serde_json.specs.View.{members_view, view}
use Rattle.serde_json.specs.declared.value.Value.{Value}
use Rattle.hip_bytes.specs.Json.{only_unix}

pub only-of : (entries : List (String Global × Value)) → length entries ≡ 1
    → only_unix (members_view entries) ≡ option_and_then (λ (entry : String Global × Value). if bytes_eq (string_bytes entry.0) (codes "Unix") then Some (view entry.1) else None) (slice_get entries 0)
only-of [] one = refl
only-of (entry ∷ []) one = refl
only-of (entry ∷ other ∷ more) one = absurd (omega arith)

pub only-none : (entries : List (String Global × Value)) → (length entries ≡ 1 → ⊥) → only_unix (members_view entries) ≡ None
only-none [] many = refl
only-none (entry ∷ []) many = absurd (many refl)
only-none (entry ∷ other ∷ more) many = refl

pub ruleset unix = (only-of)
