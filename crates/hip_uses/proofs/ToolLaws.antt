-- What a tool tells of an input that was read.
use Rattle.std.proofs.Common.{◌≡◌, ℕ, List, Option, None, Some, Result, Ok, Err, IfErr, IfSome, IsUtf8, subst}
use Rattle.hip_uses.specs.declared.fault.ToolFault.{ToolFault}
use Rattle.hip_uses.specs.Tools.{InputFails, Tells}

pub tells-after : {T : Type 0} (Own : List ℕ → ToolFault → Type 0) (remaining : Option (List ℕ)) (text : List ℕ) (result : Result T ToolFault) → IfSome remaining (λ input. IsUtf8 input × (text ≡ input))
    → IfErr result (InputFails (Own text) text) → IfSome remaining (λ input. Tells (Own input) input result)
tells-after Own None text result is fails = tt
tells-after Own (Some input) text (Ok done) is fails = is.0
tells-after Own (Some input) text (Err fault) is fails = subst (λ input. InputFails (Own input) input fault) is.1 fails
