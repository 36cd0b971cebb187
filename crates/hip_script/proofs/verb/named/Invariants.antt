use Rattle.std.proofs.Common.{◌≡◌, drop, map}
use Rattle.hip_script.specs.Words.{look_up}
use Rattle.hip_script.proofs.verb.named.Given as goal

-- the names that are left give the same for the word
abbrev pub invariant-loop-name : goal.invariant-loop-name
invariant-loop-name g l = look_up l.word (map (λ e. (e.0.now, e.1)) (drop l.name-index l.names)) ≡ look_up l.word (map (λ e. (e.0.now, e.1)) l.names)
