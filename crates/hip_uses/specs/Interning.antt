-- The greatest number of bytes that are copied where texts get numbers. `shares` says whether owners are shared.
use Rattle.std.specs.Prelude.{ℕ, ◌+◌, ◌*◌, Bool, List, [], ◌∷◌, Option, None, Some, length}
use Rattle.hipstr.specs.Cost.{clone_cost, cut_cost}
use Rattle.hipstr.specs.Handle.{Handle}
use Rattle.hipstr.specs.declared.Kind.{Kind}
use Rattle.hip_uses.specs.Number.{interned, number_of}

-- a text that has a number costs nothing
abbrev pub new_cost : Option ℕ → ℕ → ℕ
new_cost None cost = cost
new_cost (Some number) cost = 0

-- a text: its clone, by which it is found, where it is new
abbrev pub interned_cost : Bool → Handle → List (List ℕ) → ℕ
interned_cost shares text texts = new_cost (number_of text.items texts) (clone_cost shares text.kind (length text.items))

-- a part of a text of this kind: the part and its clone, where it is new
abbrev pub word_cost : Bool → Kind → List (List ℕ) → List ℕ → ℕ
word_cost shares kind texts word = new_cost (number_of word texts) (2 * cut_cost shares kind (length word))

-- parts one after another
abbrev pub words_cost : Bool → Kind → List (List ℕ) → List (List ℕ) → ℕ
words_cost shares kind texts [] = 0
words_cost shares kind texts (word ∷ words) = word_cost shares kind texts word + words_cost shares kind (interned texts word) words
