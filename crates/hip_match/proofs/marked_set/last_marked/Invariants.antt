use Rattle.std.proofs.Common.{◌≡◌, ℕ, ◌<◌, ◌≤◌, Some}
use Rattle.hip_match.specs.Characters.{char_ends}
use Rattle.hip_match.specs.Marks.{Ahead, Behind}
use Rattle.hip_match.proofs.marked_set.last_marked.Given as goal

abbrev pub invariant-loop-at : goal.invariant-loop-at
invariant-loop-at g l =
    let places = g.S.Test.PlaceTest.places in
    let is_found_by = g.S.MarkedSet.is_found_by l.set in
    is_found_by (places l.marks.test) × Behind (places l.marks.test) l.text l.past l.marks.back.start l.marks.back.bits × (l.past ≤ l.to)
    × ((c d : ℕ) → char_ends (g.S.CharSet.belongs l.set) l.text c ≡ Some d → l.past ≤ c → l.to < d)
    × ((from : ℕ) → is_found_by (places l.initial.marks.test) × Ahead (places l.initial.marks.test) l.text from l.initial.marks.front.next l.initial.marks.front.bits
    → is_found_by (places l.marks.test) × Ahead (places l.marks.test) l.text from l.marks.front.next l.marks.front.bits)

abbrev pub decreases-loop-at : goal.decreases-loop-at
decreases-loop-at g l = l.past
