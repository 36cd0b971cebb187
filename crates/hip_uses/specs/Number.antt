-- The number of a text: its place among those that were interned.
use Rattle.std.specs.Prelude.{◌≡◌, ℕ, ◌+◌, Bool, nat_eq, List, [], ◌∷◌, ◌++◌, Option, None, Some, if◌then◌else◌, slice_get, take}
use Rattle.std.specs.List.{AllZip}
use Rattle.std.specs.Cmp.Lexicographic.{pointwise}
use Rattle.hipstr.specs.Handle.{Handle}

abbrev pub text_bytes : Handle → List ℕ
text_bytes text = text.items

-- whether two handles are the same text, of whichever kind
abbrev pub same_text : Handle → Handle → Bool
same_text a b = pointwise nat_eq a.items b.items

-- the place of the text in the list, the first of which is `from`
abbrev pub number_from : ℕ → List ℕ → List (List ℕ) → Option ℕ
number_from from text [] = None
number_from from text (t ∷ ts) = if pointwise nat_eq text t then Some from else number_from (from + 1) text ts

abbrev pub number_of : List ℕ → List (List ℕ) → Option ℕ
number_of text texts = number_from 0 text texts

-- a text that has a number leaves all as it is; any other is put at the end
abbrev pub interned_from : Option ℕ → List (List ℕ) → List ℕ → List (List ℕ)
interned_from None texts text = texts ++ text ∷ []
interned_from (Some number) texts text = texts

abbrev pub interned : List (List ℕ) → List ℕ → List (List ℕ)
interned texts text = interned_from (number_of text texts) texts text

-- no text stands twice: the text of a number has that number
abbrev pub StandOnce : List (List ℕ) → Type 0
StandOnce texts = (number : ℕ) (text : List ℕ) → slice_get texts number ≡ Some text → number_of text texts ≡ Some number

-- the texts once these too are interned, one after another
abbrev pub all_interned : List (List ℕ) → List (List ℕ) → List (List ℕ)
all_interned texts [] = texts
all_interned texts (word ∷ words) = all_interned (interned texts word) words

-- the texts once a front of these words is interned: none of them, some or all
pub record SomeInterned (texts words later : List (List ℕ)) : Type 0 where
  pub count : ℕ
  pub interned : later ≡ all_interned texts (take count words)

-- each word has its number among the texts
abbrev pub AreNumbers : List (List ℕ) → List (List ℕ) → List ℕ → Type 0
AreNumbers texts words numbers = AllZip (λ word number. number_of word texts ≡ Some number) words numbers
