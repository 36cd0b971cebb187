-- The words of a text get their numbers one after another.
use Rattle.std.proofs.Common.{◌≡◌, ◌∙◌, ap, sym, ℕ, ◌<◌, List, [], ◌∷◌, ◌++◌, Some, length, take, refl, arith, slice_range}
use Rattle.std.proofs.lemmas.Grind.{common_steps}
use Rattle.std.proofs.Math.Seq.{take-append_seam, take-length}
use Rattle.hipstr.specs.Occurrence.{IsCut}
use Rattle.hip_uses.specs.Words.{filled_parts}
use Rattle.hip_uses.specs.Number.{AreNumbers, SomeInterned, all_interned, interned, number_of}
use Rattle.hip_uses.proofs.Interned.{number_from-push}

-- a text keeps its number where another is interned
number-stays : (word text : List ℕ) (texts : List (List ℕ)) (number : ℕ) → number_of word texts ≡ Some number → number_of word (interned texts text) ≡ Some number
number-stays word text texts number is = grind (arith, number_from-push)

one-more : (texts words : List (List ℕ)) (numbers : List ℕ) (word text : List ℕ) (number : ℕ) → AreNumbers texts words numbers → number_of word (interned texts text) ≡ Some number
    → AreNumbers (interned texts text) (words ++ word ∷ []) (numbers ++ number ∷ [])
one-more texts [] numbers word text number are is = grind arith
one-more texts (first ∷ words) numbers word text number are is = grind (arith, number-stays, one-more texts words)

interned-last : (texts words : List (List ℕ)) (word : List ℕ) → all_interned texts (words ++ word ∷ []) ≡ interned (all_interned texts words) word
interned-last texts [] word = refl
interned-last texts (first ∷ words) word = interned-last (interned texts first) words word

-- the first texts stay first
pub kept-interned : (first texts : List (List ℕ)) (text : List ℕ) → take (length first) texts ≡ first → take (length first) (interned texts text) ≡ first
kept-interned first texts text is = grind (arith, common_steps)

-- of the parts at all ranges of a text the words that were drawn have their numbers
pub record Walked (old : List (List ℕ)) (text : List ℕ) (all : List (ℕ × ℕ)) (now : List (List ℕ)) (rest : List (ℕ × ℕ)) (numbers : List ℕ) : Type 0 where
  pub done : List (List ℕ)
  pub whole : done ++ filled_parts text rest ≡ filled_parts text all
  pub are : AreNumbers now done numbers
  pub texts : now ≡ all_interned old done
  pub kept : take (length old) now ≡ old

pub walked-none : (old : List (List ℕ)) (text : List ℕ) (all : List (ℕ × ℕ)) → Walked old text all old all []
walked-none old text all = record { done = []; whole = refl; are = tt; texts = refl; kept = take-length old }

pub walked-on : (old : List (List ℕ)) (text : List ℕ) (all : List (ℕ × ℕ)) (now later : List (List ℕ)) (rest next : List (ℕ × ℕ)) (numbers more : List ℕ) (range : ℕ × ℕ) (number : ℕ)
    → Walked old text all now rest numbers → rest ≡ range ∷ next → IsCut text range → range.0 < range.1 → later ≡ interned now (slice_range text range.0 range.1)
    → number_of (slice_range text range.0 range.1) later ≡ Some number → more ≡ numbers ++ number ∷ [] → Walked old text all later next more
walked-on old text all now later rest next numbers more range number so_far first cut some is has pushed = record {
  done = so_far.done ++ slice_range text range.0 range.1 ∷ [];
  whole = grind (arith, common_steps);
  are = grind (arith, one-more);
  texts = grind (arith, interned-last);
  kept = grind (arith, kept-interned);
}

pub walked-some : (old : List (List ℕ)) (text : List ℕ) (all : List (ℕ × ℕ)) (now : List (List ℕ)) (rest : List (ℕ × ℕ)) (numbers : List ℕ) → Walked old text all now rest numbers → SomeInterned old (filled_parts text all) now
walked-some old text all now rest numbers so_far = record { count = length so_far.done; interned = so_far.texts ∙ ap (all_interned old) (sym (take-append_seam so_far.done (filled_parts text rest)) ∙ ap (take (length so_far.done)) so_far.whole) }
