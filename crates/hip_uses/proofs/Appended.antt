-- A writer after one write and another.
use Rattle.std.proofs.Common.{◌∙◌, ℕ, List, ◌++◌, Option, None, Some, append_assoc}
use Rattle.std.specs.Io.KnownBytes.{Appends}

pub appends-then : (a b c : Option (List ℕ)) (xs ys : List ℕ) → Appends a b xs → Appends b c ys → Appends a c (xs ++ ys)
appends-then None b c xs ys first second = tt
appends-then (Some a) None c xs ys first second = absurd first
appends-then (Some a) (Some b) None xs ys first second = absurd second
appends-then (Some a) (Some b) (Some c) xs ys first second = second ∙ rw first (append_assoc a xs ys)
