-- Ways to take a text apart by a pattern that occurs there as `ends` tells: the pieces that each gives of a text of n bytes.
use Rattle.std.specs.Prelude.{ℕ, ◌||◌, Bool, true, false, List, Option, length}
use Rattle.hip_match.specs.Leftmost.{leftmost}
use Rattle.hip_match.specs.Pieces.{split, split_inclusive, split_terminator, splitn, rsplit, rsplit_terminator, rsplitn}
use Rattle.hip_match.specs.Rightmost.{rightmost}
use Rattle.hip_match.specs.Runs.{lines, split_whitespace, split_ascii_whitespace}
use Rattle.hipstr.specs.Cut.{is_text, occurrences}
use Rattle.hipstr.specs.declared.command.How.{How}
use Rattle.hipstr.specs.declared.command.How.TheVariants.{Split as how_split, Inclusive as how_inclusive, Terminator as how_terminator, SplitN as how_splitn, Matches as how_matches, RSplit as how_rsplit, RTerminator as how_rterminator, RSplitN as how_rsplitn, RMatches as how_rmatches, Lines as how_lines, Words as how_words, AsciiWords as how_asciiwords}
use Rattle.hipstr.specs.declared.command.Pat.{Pat}
use Rattle.hipstr.specs.declared.machine.parts.Walked.{Walked}
use Rattle.hipstr.specs.declared.machine.parts.Walked.TheVariants.{By, Lines, Words, AsciiWords}
use Rattle.hipstr.specs.declared.machine.parts.Way.{Way}
use Rattle.hipstr.specs.declared.machine.parts.Way.TheVariants.{Split, Inclusive, Terminator, SplitN, Matches, RSplit, RTerminator, RSplitN, RMatches}

abbrev pub pieces_by : Way → (ℕ → Option ℕ) → ℕ → List (ℕ × ℕ)
pieces_by Split ends n = split ends n
pieces_by Inclusive ends n = split_inclusive ends n
pieces_by Terminator ends n = split_terminator ends n
pieces_by (SplitN count) ends n = splitn count ends n
pieces_by Matches ends n = leftmost ends n
pieces_by RSplit ends n = rsplit ends n
pieces_by RTerminator ends n = rsplit_terminator ends n
pieces_by (RSplitN count) ends n = rsplitn count ends n
pieces_by RMatches ends n = rightmost ends n

-- pieces of a number at most, which come from the front alone
abbrev pub is_counted : Way → Bool
is_counted (SplitN count) = true
is_counted (RSplitN count) = true
is_counted way = false

abbrev pub goes_one_way : Way → Pat → Bool
goes_one_way way pattern = is_counted way || is_text pattern

-- the walk of a way to take a text apart, its pieces, and whether they come from the front alone
abbrev pub walked_of : How → Walked
walked_of (how_split pattern) = By Split pattern
walked_of (how_inclusive pattern) = By Inclusive pattern
walked_of (how_terminator pattern) = By Terminator pattern
walked_of (how_splitn count pattern) = By (SplitN count) pattern
walked_of (how_matches pattern) = By Matches pattern
walked_of (how_rsplit pattern) = By RSplit pattern
walked_of (how_rterminator pattern) = By RTerminator pattern
walked_of (how_rsplitn count pattern) = By (RSplitN count) pattern
walked_of (how_rmatches pattern) = By RMatches pattern
walked_of how_lines = Lines
walked_of how_words = Words
walked_of how_asciiwords = AsciiWords

abbrev pub pieces_walked : Walked → List ℕ → List (ℕ × ℕ)
pieces_walked (By way pattern) text = pieces_by way (occurrences pattern text) (length text)
pieces_walked Lines text = lines text
pieces_walked Words text = split_whitespace text
pieces_walked AsciiWords text = split_ascii_whitespace text

abbrev pub walks_one_way : Walked → Bool
walks_one_way (By way pattern) = goes_one_way way pattern
walks_one_way walked = false
