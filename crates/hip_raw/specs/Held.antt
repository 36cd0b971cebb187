-- An owner, and an allocated handle, as contracts see them.
use Rattle.std.specs.Prelude.{◌≡◌, ℕ, ◌^◌, ◌<◌, ◌≤◌, List, length, vec_capacity, Result, Ok, Err}
use Rattle.std.specs.declared.vec.Vec.{Vec}
use Rattle.std.specs.declared.alloc.Global.{Global}

-- a list of bytes, and how many it can hold with no new memory
pub record Held : Type 0 where
  pub items : List ℕ
  pub capacity : ℕ

abbrev pub held_items : Held → List ℕ
held_items held = held.items

abbrev pub held_capacity : Held → ℕ
held_capacity held = held.capacity

-- a list with a capacity is that of a vector, and has at least its room
pub record IsTakenOver (vec : Vec ℕ Global) (items : List ℕ) (capacity : ℕ) : Type 0 where
  pub items_are : items ≡ vec.items
  pub room : vec_capacity vec ≤ capacity
  pub fits : length items ≤ capacity
  pub bound : length items < 2 ^ 64

-- a vector is taken over by an owner, of which the functions tell the list and the capacity, or is handed back
abbrev pub OwnAnswers : {O : Type 0} → (O → List ℕ) → (O → ℕ) → Vec ℕ Global → Result O (Vec ℕ Global) → Type 0
OwnAnswers items capacity vec (Ok owner) = IsTakenOver vec (items owner) (capacity owner)
OwnAnswers items capacity vec (Err back) = back ≡ vec
