-- The walk of a way to take a text apart has that way's pieces, and as many ends.
use Rattle.std.proofs.Common.{◌≡◌, ◌∙◌, ℕ, Bool, false, List, ap, refl, sym}
use Rattle.std.proofs.Math.Bool.{or-false, or-true}
use Rattle.std.specs.Borrow.{Bor}
use Rattle.std.specs.Prelude.{◌&&◌}
use Rattle.hipstr.specs.{declared.command.Pat.Pat, declared.machine.parts.Way.Way, Cut.has_one_end, Cut.pieces_of, declared.command.How.How}
use Rattle.hipstr.specs.declared.command.Pat.TheVariants.{Text as text_of, Char as char_of, Set as set_of}
use Rattle.hipstr.specs.Ways.{goes_one_way, is_counted, pieces_walked, walked_of, walks_one_way}
use Rattle.hipstr.specs.declared.command.How.TheVariants.{Split, Inclusive, Terminator, SplitN, Matches, RSplit, RTerminator, RSplitN, RMatches, Lines, Words, AsciiWords}

pub walked : (how : How) → ((text : List ℕ) → pieces_walked (walked_of how) text ≡ pieces_of how text) × (walks_one_way (walked_of how) ≡ has_one_end how)
walked (Split pattern) = (λ text. refl, refl)
walked (Inclusive pattern) = (λ text. refl, refl)
walked (Terminator pattern) = (λ text. refl, refl)
walked (SplitN count pattern) = (λ text. refl, refl)
walked (Matches pattern) = (λ text. refl, refl)
walked (RSplit pattern) = (λ text. refl, refl)
walked (RTerminator pattern) = (λ text. refl, refl)
walked (RSplitN count pattern) = (λ text. refl, refl)
walked (RMatches pattern) = (λ text. refl, refl)
walked Lines = (λ text. refl, refl)
walked Words = (λ text. refl, refl)
walked AsciiWords = (λ text. refl, refl)

-- a text's pieces come from the front alone, and so the script has no back
pub text-alone : (way : Way) (pattern : Pat) (bytes : Bor (List ℕ)) (backward : Bool) → pattern ≡ text_of bytes → (goes_one_way way pattern && backward) ≡ false → backward ≡ false
text-alone way pattern bytes backward is none = ap (λ b. b && backward) (sym (or-true (is_counted way)) ∙ ap (goes_one_way way) (sym is)) ∙ none

-- those by characters come from both ends but for a number of them
pub char-ends : (way : Way) (pattern : Pat) (c : ℕ) (backward : Bool) → pattern ≡ char_of c → (goes_one_way way pattern && backward) ≡ false → (is_counted way && backward) ≡ false
char-ends way pattern c backward is none = ap (λ b. b && backward) (sym (or-false (is_counted way)) ∙ ap (goes_one_way way) (sym is)) ∙ none

pub set-ends : (way : Way) (pattern : Pat) (set : Bor (List ℕ)) (backward : Bool) → pattern ≡ set_of set → (goes_one_way way pattern && backward) ≡ false → (is_counted way && backward) ≡ false
set-ends way pattern set backward is none = ap (λ b. b && backward) (sym (or-false (is_counted way)) ∙ ap (goes_one_way way) (sym is)) ∙ none
