use Rattle.std.proofs.Common.{ℕ, ◌-◌, ◌≤◌, length}
use Rattle.hip_match.specs.Characters.{char_ends}
use Rattle.hip_match.specs.Marks.{Ahead, Behind}
use Rattle.hip_match.specs.Occurrence.{NoneStarts}
use Rattle.hip_match.proofs.marked_set.next_marked.Given as goal

abbrev pub invariant-loop-at : goal.invariant-loop-at
invariant-loop-at g l =
    let places = g.S.Test.PlaceTest.places in
    let is_found_by = g.S.MarkedSet.is_found_by l.set in
    is_found_by (places l.marks.test) × Ahead (places l.marks.test) l.text l.past l.marks.front.next l.marks.front.bits × (l.from ≤ l.past)
    × NoneStarts (char_ends (g.S.CharSet.belongs l.set) l.text) l.from l.past
    × ((to : ℕ) → is_found_by (places l.initial.marks.test) × Behind (places l.initial.marks.test) l.text to l.initial.marks.back.start l.initial.marks.back.bits
    → is_found_by (places l.marks.test) × Behind (places l.marks.test) l.text to l.marks.back.start l.marks.back.bits)

abbrev pub decreases-loop-at : goal.decreases-loop-at
decreases-loop-at g l = length l.initial.text - l.past
