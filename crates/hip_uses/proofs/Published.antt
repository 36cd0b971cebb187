-- One subscriber more has the message.
use Rattle.std.proofs.lemmas.List.Elements.{All-pop}
use Rattle.std.proofs.Common.{◌≡◌, ◌∙◌, ℕ, suc, ap, ◌*◌, ◌+◌, ◌<◌, ◌≤◌, List, length, map, get_or, arith, slice_set}
use Rattle.std.proofs.lemmas.Grind.{common_steps}
use Rattle.std.proofs.lemmas.List.{same_lists}
use Rattle.std.proofs.Math.Nat.{mul-le-mul_left, mul_comm, suc-mul}
use Rattle.hipstr.specs.Handle.{Handle}
use Rattle.hipstr.specs.Kinds.{Holds}
use Rattle.hipstr.specs.Meter.{RisesAtMost}
use Rattle.hip_uses.specs.Waiting.{message_of}

-- of the list that there was the first i are changed, and the others are as they were
pub record AreChanged {X : Type 0} (f : X → X) (old : List X) (i : ℕ) (now : List X) : Type 0 where
  pub length_is : length now ≡ length old
  pub changed : (k : ℕ) (other : X) → k < i → get_or now k other ≡ f (get_or old k other)
  pub others : (k : ℕ) (other : X) → i ≤ k → get_or now k other ≡ get_or old k other

pub AreChanged-more : {X : Type 0} (f : X → X) (old now : List X) (i : ℕ) (x y : X) → i < length now → y ≡ f (get_or now i x)
    → AreChanged f old i now → AreChanged f old (i + 1) (slice_set now i y)
AreChanged-more f old now i x y lt is so_far = grind (arith, common_steps)

pub AreChanged-all : {X : Type 0} (f : X → X) (old now : List X) (i : ℕ) → length old ≤ i → AreChanged f old i now → now ≡ map f old
AreChanged-all f old now i all so_far = grind (arith, common_steps, same_lists)

-- a clone of a message is the same message
pub same-message : (copy message : Handle) → Holds copy message.kind message.items → message_of copy ≡ message_of message
same-message copy message holds = let kind = holds.kind_is in let items = holds.items_are in cc

-- one clone more
pub rises-times : (cost first before after count more : ℕ) → more ≡ count + 1 → RisesAtMost first before (count * cost) → RisesAtMost before after cost → RisesAtMost first after (more * cost)
rises-times cost first before after count more is so_far next =
    let one : more ≡ suc count = omega (arith, is) in
    let all : more * cost ≡ count * cost + cost = ap (λ n. n * cost) one ∙ suc-mul count cost in
    record { never_falls = omega (arith, so_far.never_falls, next.never_falls); at_most = omega (arith, so_far.at_most, next.at_most, all) }

-- clones that each cost little
pub rises-little : (cost first after count : ℕ) → cost ≤ 23 → RisesAtMost first after (count * cost) → RisesAtMost first after (23 * count)
rises-little cost first after count little rises =
    record { never_falls = rises.never_falls; at_most = omega (arith, rises.at_most, mul-le-mul_left count little, mul_comm count 23) }

pub ruleset queues = (common_steps, same_lists, All-pop)
