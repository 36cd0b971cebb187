-- The characters of a text, and the ends that letters stand for, one after another.
use Rattle.std.proofs.Common.{◌≡◌, ℕ, ◌≤◌, ◌<◌, List, [], ◌∷◌, ◌++◌, length, map, Option, Some, None, arith, refl, sym, ap, ◌∙◌}
use Rattle.std.proofs.lemmas.List.{map-id}
use Rattle.std.specs.Option.{option_map}
use Rattle.hip_script.specs.{Grammar.only, Spoken.Pattern.CharOf, Spoken.Quoted.Sought}
use Rattle.hipstr.specs.declared.End.{End}

-- the one character so far, if there is one
pub record IsOnly (found : Option ℕ) (so_far : List ℕ) : Type 0 where
  pub is : option_map (λ c. Sought (CharOf c)) found ≡ only so_far
  pub few : length so_far ≤ 1

many : (cs : List ℕ) → 1 < length cs → None ≡ only cs
many [] h = absurd (omega arith)
many (c ∷ []) h = absurd (omega arith)
many (c ∷ d ∷ more) h = refl

some-length : (found : ℕ) (so_far : List ℕ) → IsOnly (Some found) so_far → 0 < length so_far
some-length found [] h = absurd (let is = h.is in cc)
some-length found (c ∷ more) h = omega arith

pub only-second : (found : Option ℕ) (first : ℕ) (so_far all : List ℕ) → found ≡ Some first → IsOnly found so_far → length so_far < length all → None ≡ only all
only-second found first so_far all is h more =
    let some = some-length first so_far (rw is at h) in many all (omega arith)

-- every item of a loop over a list
pub all-same : (yielded all : List ℕ) → map (λ x. x) yielded ≡ all → yielded ≡ all
all-same yielded all is = sym (map-id yielded) ∙ is

pub only-all : (found : Option ℕ) (so_far all : List ℕ) → IsOnly found so_far → map (λ x. x) so_far ≡ all → option_map (λ c. Sought (CharOf c)) found ≡ only all
only-all found so_far all h is = h.is ∙ ap only (all-same so_far all is)

-- these ends before those that letters stand for
abbrev pub ends_behind : List End → Option (List End) → Option (List End)
ends_behind ends found = option_map (λ more. ends ++ more) found
