-- Lemmas on runs of the list machine.
use Rattle.std.proofs.Common.{◌≡◌, ◌∙◌, ℕ, ◌+◌, ◌<◌, Bool, List, [], ◌∷◌, ◌++◌, length, take, get_or, refl, ap, subst, arith}
use Rattle.std.proofs.lemmas.List.{take_more}
use Rattle.hipstr.specs.{Slot.SlotState, Step.Step, Step.Costs, Step.counts_of, Run.Run, declared.command.Command.Command, declared.command.Answer.Answer}

-- a run goes on by a step, at the step's cost
pub Run-append : (shares : Bool) (old mid new : List SlotState) (commands : List Command) (answers : List Answer) (least most : ℕ) (command : Command) (answer : Answer)
    (cost : ℕ) → Run shares old commands answers mid least most → Step shares mid command answer new → Costs shares mid command cost
    → Run shares old (commands ++ command ∷ []) (answers ++ answer ∷ []) new (least + counts_of shares mid command answer new) (most + cost)
Run-append shares old mid new [] [] least most command answer cost run step costs =
    subst (λ (slots : List SlotState). Run shares slots (command ∷ []) (answer ∷ []) new (least + counts_of shares mid command answer new) (most + cost)) run.0
    (new, cost, 0, 0, step, costs, (refl, refl, refl), ap (λ n. n + counts_of shares mid command answer new) run.1 ∙ omega arith, ap (λ n. n + cost) run.2 ∙ omega arith)
Run-append shares old mid new [] (a ∷ answers) least most command answer cost run step costs = absurd run
Run-append shares old mid new (c ∷ commands) [] least most command answer cost run step costs = absurd run
Run-append shares old mid new (c ∷ commands) (a ∷ answers) least most command answer cost run step costs = (
  run.0,
  run.1,
  run.2 + counts_of shares mid command answer new,
  run.3 + cost,
  run.4,
  run.5,
  Run-append shares run.0 mid new commands answers run.2 run.3 command answer cost run.6 step costs,
  ap (λ n. n + counts_of shares mid command answer new) run.7 ∙ omega arith,
  ap (λ n. n + cost) run.8 ∙ omega arith,
)

-- a run over the commands before a position goes on by the command there
pub Run-take_more : (shares : Bool) (old mid new : List SlotState) (commands : List Command) (i : ℕ) (default : Command) (answers more : List Answer) (least most : ℕ) (answer : Answer) (cost : ℕ)
    → i < length commands → Run shares old (take i commands) answers mid least most → Step shares mid (get_or commands i default) answer new → Costs shares mid (get_or commands i default) cost
    → more ≡ answers ++ answer ∷ [] → Run shares old (take (i + 1) commands) more new (least + counts_of shares mid (get_or commands i default) answer new) (most + cost)
Run-take_more shares old mid new commands i default answers more least most answer cost within run step costs added =
    rw (take_more commands i default within, added) (Run-append shares old mid new (take i commands) answers least most (get_or commands i default) answer cost run step costs)
