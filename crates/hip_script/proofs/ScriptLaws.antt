-- A script, a line at a time.
use Rattle.std.proofs.Common.{◌≡◌, ℕ, ◌+◌, List, [], ◌∷◌, ◌++◌, length, map, Some, Result, Ok, Err, refl, sym, ap, ◌∙◌, append_assoc}
use Rattle.std.proofs.lemmas.List.{append-nil}
use Rattle.std.specs.List.{AllByRecursion}
use Rattle.hip_script.proofs.Growth.{within-grows, fields-grow}
use Rattle.hip_script.specs.Grammar.{lines_said, line_said, spoken, then_said}
use Rattle.hip_script.specs.{Lines.lines, Spoken.Spoken, declared.said.Said.Said}
use Rattle.hip_script.specs.Said.{Grows, Held, IsWithin, ReadsLine, says_in}

-- these lines before others
abbrev pub put_before : List Spoken → Result (List Spoken) ℕ → Result (List Spoken) ℕ
put_before so_far (Ok said) = Ok (so_far ++ said)
put_before so_far (Err number) = Err number

all-within : (old new : Held) (lines : List Said) (last : Said) → Grows old new → AllByRecursion (IsWithin old) lines → IsWithin new last
    → AllByRecursion (IsWithin new) (lines ++ last ∷ [])
all-within old new [] last grows all within = (within, tt)
all-within old new (x ∷ xs) last grows all within = (within-grows old new x grows all.0, all-within old new xs last grows all.1 within)

all-say : (old new : Held) (lines : List Said) (last : Said) → Grows old new → AllByRecursion (IsWithin old) lines
    → map (says_in new) (lines ++ last ∷ []) ≡ map (says_in old) lines ++ says_in new last ∷ []
all-say old new [] last grows all = refl
all-say old new (x ∷ xs) last grows all =
    ap (λ t. t ∷ map (says_in new) (xs ++ last ∷ [])) (ap (spoken x.verb) (fields-grow old new x grows all.0))
    ∙ ap (λ t. says_in old x ∷ t) (all-say old new xs last grows all.1)

put-one : (so_far : List Spoken) (said : Spoken) (number : ℕ) (later : Result (List Spoken) ℕ)
    → put_before (so_far ++ said ∷ []) later ≡ put_before so_far (then_said (Some said) number later)
put-one so_far said number (Ok more) = ap Ok (append_assoc so_far (said ∷ []) more)
put-one so_far said number (Err n) = refl

line-says : (line : List ℕ) (number : ℕ) (more : List (List ℕ)) → (length line ≡ 0 → ⊥)
    → lines_said number (line ∷ more) ≡ then_said (line_said line) number (lines_said (number + 1) more)
line-says [] number more some = absurd (some refl)
line-says (b ∷ bs) number more some = refl

-- a line that is read, with what came before it
pub script-goes_on : (old new : Held) (line rest after : List ℕ) (number : ℕ) (before after_lines : List Said) (said : Said) (whole : Result (List Spoken) ℕ)
    → AllByRecursion (IsWithin old) before → ReadsLine (line_said line) old new said → (length line ≡ 0 → ⊥) → lines rest ≡ line ∷ lines after
    → after_lines ≡ before ++ said ∷ []
    → put_before (map (says_in old) before) (lines_said (number + 1) (lines rest)) ≡ whole
    → AllByRecursion (IsWithin new) after_lines
    × (put_before (map (says_in new) after_lines) (lines_said (number + 1 + 1) (lines after)) ≡ whole)
script-goes_on old new line rest after number before after_lines said whole all reads some first pushed so_far =
    let later = lines_said (number + 1 + 1) (lines after) in
    let so_far_says = map (says_in old) before in
    rw pushed (
      all-within old new before said reads.grows all reads.within,
      ap (λ t. put_before t later) (all-say old new before said reads.grows all)
          ∙ put-one so_far_says (says_in new said) (number + 1) later
          ∙ ap (put_before so_far_says) (sym (ap (lines_said (number + 1)) first ∙ line-says line (number + 1) (lines after) some
          ∙ ap (λ t. then_said t (number + 1) later) reads.read_is))
          ∙ so_far,
    )

-- all lines were read
pub script-ends : (rest : List ℕ) (number : ℕ) (so_far : List Spoken) (whole : Result (List Spoken) ℕ)
    → rest ≡ [] → put_before so_far (lines_said (number + 1) (lines rest)) ≡ whole → whole ≡ Ok so_far
unfolding lines
script-ends rest number so_far whole none is =
    sym is ∙ ap (λ text. put_before so_far (lines_said (number + 1) (lines text))) none ∙ ap Ok (append-nil so_far)
