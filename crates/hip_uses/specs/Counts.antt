-- The words of a text, and how often each comes.
use Rattle.std.specs.Prelude.{◌≡◌, ℕ, ◌≤◌, ◌^◌, ◌==◌, ◌&&◌, ◌||◌, nat_eq, nat_lt, Bool, false, List, [], ◌++◌, Option, None, Some, IsPermutation, IsSortedBy, codes, decimal, length, map}
use Rattle.std.specs.Cmp.Lexicographic.{pointwise}
use Rattle.std.specs.List.{count_by, flat_map}
use Rattle.hipstr.specs.Characters.{char_ends}
use Rattle.hip_uses.specs.Number.{all_interned, number_of}
use Rattle.hip_uses.specs.Words.{is_gap, parts_between}
use Rattle.hip_uses.specs.declared.fault.ToolFault.{ToolFault}
use Rattle.hip_uses.specs.declared.fault.ToolFault.TheVariants.{TooManyWords}

-- the longest runs of letters, digits, and characters that aren't ASCII
abbrev pub words_of : List ℕ → List (List ℕ)
words_of text = parts_between (char_ends is_gap) text

-- the different words, in the order in which they first come
abbrev pub different : List (List ℕ) → List (List ℕ)
different words = all_interned [] words

-- a word with how often it comes
abbrev pub counted : List (List ℕ) → List ℕ → List ℕ × ℕ
counted words word = (word, count_by (pointwise nat_eq word) words)

-- whether both places are there, and the first is before the second
abbrev pub places_rise : Option ℕ → Option ℕ → Bool
places_rise None later = false
places_rise (Some place) None = false
places_rise (Some place) (Some later) = nat_lt place later

-- whether a word first comes before another does
abbrev pub comes_first : List (List ℕ) → List ℕ → List ℕ → Bool
comes_first words word other = places_rise (number_of word words) (number_of other words)

-- whether a word stands before another: it comes more often, or as often and first
abbrev pub stands_first : List (List ℕ) → List ℕ × ℕ → List ℕ × ℕ → Bool
stands_first words a b = nat_lt b.1 a.1 || (a.1 == b.1 && comes_first words a.0 b.0)

-- each different word once, with how often it comes, in this order
pub record AreCounts (words : List (List ℕ)) (rows : List (List ℕ × ℕ)) : Type 0 where
  pub each_once : IsPermutation (map (counted words) (different words)) rows
  pub in_order : IsSortedBy (stands_first words) rows

-- how often a word comes, one space, and the word
abbrev pub count_line : List ℕ × ℕ → List ℕ
count_line row = decimal row.1 ++ (codes " " ++ (row.0 ++ codes "\n"))

abbrev pub count_lines : List (List ℕ × ℕ) → List ℕ
count_lines rows = flat_map count_line rows

-- the different words of a text, a line each
pub record AreCountLines (input text : List ℕ) : Type 0 where
  pub rows : List (List ℕ × ℕ)
  pub counts : AreCounts (words_of input) rows
  pub lines : text ≡ count_lines rows

-- there are more different words than numbers of 32 bits
abbrev pub CountFails : List ℕ → ToolFault → Type 0
CountFails input TooManyWords = 2 ^ 32 ≤ length (different (words_of input))
CountFails input fault = ⊥
