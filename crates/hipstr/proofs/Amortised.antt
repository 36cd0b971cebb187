-- Lemmas on the amortised cost of runs.
use Rattle.std.proofs.Common.{◌≡◌, ◌∙◌, ℕ, zero, suc, ◌+◌, ◌*◌, ◌<◌, ◌≤◌, Bool, false, List, [], ◌∷◌, ◌++◌, length, take, get_or, slice_set, Option, Some, None, MatchOption, refl, ap, subst, sym, arith}
use Rattle.std.proofs.lemmas.List.{take_more}
use Rattle.hip_bytes.specs.{Cost.handle_pot, Cost.PushIsPaid, Meter.RisesAtLeast, Meter.RisesAtMost, declared.kind.Kind.Kind}
use Rattle.hip_bytes.specs.declared.kind.Kind.TheVariants.{Inline, Borrowed, Allocated}
use Rattle.hipstr.proofs.InPlace.{InPlace}
use Rattle.hipstr.specs.Amortised.{added_to, pots, pushed_onto_owner, rises, CostsAmortised, PushesArePaid, RunAmortised}
use Rattle.hipstr.specs.{Slot.SlotState, Slot.slot_at, Step.Step, Step.Costs, Step.counts_of, declared.command.Command.Command, declared.command.Answer.Answer}

-- the pots grow by no more than they rise
pub pots-rise : (old new : List SlotState) → pots new ≤ pots old + rises old new
pots-rise old [] = omega arith
pots-rise [] (after ∷ new) = omega (arith, pots-rise [] new)
pots-rise (before ∷ old) (after ∷ new) = omega (arith, pots-rise old new)

-- the pots where one slot is another
pots-set : (slots : List SlotState) (i : ℕ) (slot : SlotState) → i < length slots → pots (slice_set slots i slot) + handle_pot (slot_at slots i) ≡ pots slots + handle_pot slot.handle
pots-set [] i slot within = absurd (omega (arith, within))
pots-set (s ∷ slots) zero slot within = omega arith
pots-set (s ∷ slots) (suc i) slot within = omega (arith, pots-set slots i slot (omega (arith, within)))

-- a push onto a slot in its place
pub pushed-in_place : (shares : Bool) {old new : List SlotState} {t : ℕ} {was slot : SlotState} (at : InPlace old new t was slot) (added before after : ℕ) → PushIsPaid shares was.handle slot.handle added before after
    → shares ≡ false → MatchOption (added_to (slot_at old t).kind added) (Unit {0}) (λ n. after + pots new ≤ before + pots old + 3 * n)
pushed-in_place shares {old} {new} {t} {was} {slot} at added before after paid unshared =
    subst (λ (state : SlotState). MatchOption (added_to state.handle.kind added) (Unit {0}) (λ n. after + pots new ≤ before + pots old + 3 * n)) at.is_was (by-kind was.handle.kind refl) where
      by-kind : (kind : Kind) → was.handle.kind ≡ kind → MatchOption (added_to kind added) (Unit {0}) (λ n. after + pots new ≤ before + pots old + 3 * n)
      by-kind Inline is = tt
      by-kind Borrowed is = tt
      by-kind Allocated is = omega (arith, paid unshared is, pots-set old t slot at.within, ap pots at.put, ap (λ (state : SlotState). handle_pot state.handle) at.is_was)

-- a step's addition to the amortised cost pays for the bytes that it copies and for the pots that it leaves
pub step-paid : (shares : Bool) (old new : List SlotState) (command : Command) (before after cost : ℕ) → shares ≡ false
    → PushesArePaid shares old command new before after → Costs shares old command cost → RisesAtMost before after cost
    → (amortised : ℕ) × CostsAmortised shares old command new amortised × (after + pots new ≤ before + pots old + amortised)
step-paid shares old new command before after cost unshared paid costs risen = by-pushed (pushed_onto_owner old command) (paid unshared) where
  by-pushed : (pushed : Option ℕ) → MatchOption pushed (Unit {0}) (λ added. after + pots new ≤ before + pots old + 3 * added)
      → (amortised : ℕ) × MatchOption pushed ((cost : ℕ) × Costs shares old command cost × (amortised ≡ cost + rises old new)) (λ added. amortised ≡ 3 * added)
      × (after + pots new ≤ before + pots old + amortised)
  by-pushed None paid = (cost + rises old new, (cost, costs, refl), omega (arith, risen.at_most, pots-rise old new))
  by-pushed (Some added) paid = (3 * added, refl, paid)

-- a run goes on by a step
RunAmortised-append : (shares : Bool) (old mid new : List SlotState) (commands : List Command) (answers : List Answer) (total : ℕ) (command : Command) (answer : Answer)
    (amortised : ℕ) → RunAmortised shares old commands answers mid total → Step shares mid command answer new → CostsAmortised shares mid command new amortised
    → RunAmortised shares old (commands ++ command ∷ []) (answers ++ answer ∷ []) new (total + amortised)
RunAmortised-append shares old mid new [] [] total command answer amortised run step costs =
    subst (λ (slots : List SlotState). RunAmortised shares slots (command ∷ []) (answer ∷ []) new (total + amortised)) run.0
    (new, amortised, 0, step, costs, (refl, refl), ap (λ n. n + amortised) run.1 ∙ omega arith)
RunAmortised-append shares old mid new [] (a ∷ answers) total command answer amortised run step costs = absurd run
RunAmortised-append shares old mid new (c ∷ commands) [] total command answer amortised run step costs = absurd run
RunAmortised-append shares old mid new (c ∷ commands) (a ∷ answers) total command answer amortised run step costs = (
  run.0,
  run.1,
  run.2 + amortised,
  run.3,
  run.4,
  RunAmortised-append shares run.0 mid new commands answers run.2 command answer amortised run.5 step costs,
  ap (λ n. n + amortised) run.6 ∙ omega arith,
)

-- a run over the commands before a position goes on by the command there
pub RunAmortised-take_more : (shares : Bool) (old mid new : List SlotState) (commands : List Command) (i : ℕ) (default : Command) (answers more : List Answer) (total : ℕ) (answer : Answer) (amortised : ℕ)
    → i < length commands → RunAmortised shares old (take i commands) answers mid total → Step shares mid (get_or commands i default) answer new → CostsAmortised shares mid (get_or commands i default) new amortised
    → more ≡ answers ++ answer ∷ [] → RunAmortised shares old (take (i + 1) commands) more new (total + amortised)
RunAmortised-take_more shares old mid new commands i default answers more total answer amortised within run step costs added =
    rw (take_more commands i default within, added) (RunAmortised-append shares old mid new (take i commands) answers total (get_or commands i default) answer amortised run step costs)

-- ---- a command that is performed
-- The step of a command, the bytes that it copies at most and at least, and that a push is paid, where the meter goes from `before` to `after`.
abbrev pub IsPerformed : Bool → List SlotState → Answer → List SlotState → ℕ → ℕ → Command → Type 0
IsPerformed shares old answer new before after command = record {
  step : Step shares old command answer new;
  counted : (cost : ℕ) × Costs shares old command cost × RisesAtMost before after cost;
  copied : RisesAtLeast before after (counts_of shares old command answer new);
  paid : PushesArePaid shares old command new before after;
}

-- the command that was given is performed as the one that it is
pub performed-as : (shares : Bool) (old : List SlotState) (answer : Answer) (new : List SlotState) (before after : ℕ) (given command : Command) → given ≡ command
    → IsPerformed shares old answer new before after command → IsPerformed shares old answer new before after given
performed-as shares old answer new before after given command is = subst (λ (c : Command). IsPerformed shares old answer new before after c) (sym is)
