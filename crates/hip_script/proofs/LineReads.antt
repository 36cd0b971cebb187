-- A line: its name, its words, and nothing behind them.
use Rattle.std.proofs.Common.{◌≡◌, ℕ, List, Some, None, refl, sym, ap, ◌∙◌}
use Rattle.std.specs.Option.{option_and_then}
use Rattle.hip_script.specs.Grammar.{ended, line_said, no_fields, row_said, rows, words_said}
use Rattle.hip_script.specs.Said.{Held, ReadsFields, ReadsLine, fields_in}
use Rattle.hip_script.specs.{Spoken.Fields, declared.said.Said.Said, declared.verb.Verb.Verb, declared.verb.Word.Word}
use Rattle.hip_script.specs.Words.{Left, look_up, said_at}

pub row-none : (line : List ℕ) (before : Left) → before ≡ Some line → said_at (λ word. look_up word rows) before ≡ None → line_said line ≡ None
unfolding line_said
row-none line before is none =
    ap (option_and_then (λ (found : (Verb × List Word) × Left). row_said found.0 found.1)) (ap (said_at (λ word. look_up word rows)) (sym is) ∙ none)

-- a line whose name was read is what the words behind the name make it
pub record HasRow (line : List ℕ) (verb : Verb) (list : List Word) (left : Left) : Type 0 where
  pub is : line_said line ≡ option_and_then (ended verb) (words_said list no_fields left)

pub row-some : (line : List ℕ) (verb : Verb) (list : List Word) (before left : Left) → before ≡ Some line
    → said_at (λ word. look_up word rows) before ≡ Some ((verb, list), left) → HasRow line verb list left
unfolding line_said
row-some line verb list before left is read = record {
  is = ap (option_and_then (λ (found : (Verb × List Word) × Left). row_said found.0 found.1)) (ap (said_at (λ word. look_up word rows)) (sym is) ∙ read);
}

pub line-fails : (line : List ℕ) (verb : Verb) (list : List Word) (left : Left) (held : Held) (said : Said) → HasRow line verb list left
    → fields_in held said ≡ no_fields → words_said list (fields_in held said) left ≡ None → line_said line ≡ None
line-fails line verb list left held said has fresh none =
    has.is ∙ ap (option_and_then (ended verb)) (ap (λ f. words_said list f left) (sym fresh) ∙ none)

read-by : (line : List ℕ) (verb : Verb) (list : List Word) (left after : Left) (old new : Held) (before said : Said) → HasRow line verb list left
    → fields_in old before ≡ no_fields → ReadsFields (words_said list (fields_in old before) left) after old new before said
    → line_said line ≡ ended verb (fields_in new said, after)
read-by line verb list left after old new before said has fresh reads =
    has.is ∙ ap (option_and_then (ended verb)) (ap (λ f. words_said list f left) (sym fresh) ∙ reads.read_is)

pub line-reads : (line : List ℕ) (verb : Verb) (list : List Word) (left after : Left) (old new : Held) (before said : Said) → HasRow line verb list left
    → before.verb ≡ verb → fields_in old before ≡ no_fields → ReadsFields (words_said list (fields_in old before) left) after old new before said → after ≡ None
    → ReadsLine (line_said line) old new said
line-reads line verb list left after old new before said has is fresh reads none = record {
  grows = reads.grows;
  within = reads.within;
  read_is =
      let same : said.verb ≡ verb = reads.verb ∙ is in
      read-by line verb list left after old new before said has fresh reads ∙ rw (none, same) refl;
}

more-follows : (verb : Verb) (fields : Fields) (after : Left) → (after ≡ None → ⊥) → ended verb (fields, after) ≡ None
more-follows verb fields None some = absurd (some refl)
more-follows verb fields (Some rest) some = refl

pub line-goes_on : (line : List ℕ) (verb : Verb) (list : List Word) (left after : Left) (old new : Held) (before said : Said) → HasRow line verb list left
    → fields_in old before ≡ no_fields → ReadsFields (words_said list (fields_in old before) left) after old new before said → (after ≡ None → ⊥)
    → line_said line ≡ None
line-goes_on line verb list left after old new before said has fresh reads some =
    read-by line verb list left after old new before said has fresh reads ∙ more-follows verb (fields_in new said) after some
