-- Look-ups in a table of names, whose entries are seen through references.
use Rattle.std.proofs.Common.{◌≡◌, ℕ, Bool, true, false, List, [], ◌∷◌, map, Option, Some, None, refl, sym, ap, ◌∙◌, length, arith, Bor}
use Rattle.std.specs.{Option.MatchOption, Option.option_map, Str.bytes_eq}
use Rattle.hip_script.specs.{Grammar.rows, Words.look_up, declared.verb.Verb.Verb, declared.verb.Word.Word}
use Rattle.std.specs.Bool.{if◌then◌else◌}

abbrev pub Entry : Type 0
Entry = Bor (List ℕ) × (Verb × Bor (List Word))

abbrev pub row_shown : Verb × Bor (List Word) → Verb × List Word
row_shown row = (row.0, row.1.now)

one_entry : (b : Bool) (row : Verb × Bor (List Word)) (later : Option (Verb × Bor (List Word)))
    → (if b then Some (row_shown row) else option_map row_shown later) ≡ option_map row_shown (if b then Some row else later)
one_entry true row later = refl
one_entry false row later = refl

shown-named : (word : List ℕ) (entries : List Entry)
    → look_up word (map (λ e. (e.0.now, (e.1.0, e.1.1.now))) entries) ≡ option_map row_shown (look_up word (map (λ e. (e.0.now, e.1)) entries))
shown-named word [] = refl
shown-named word (e ∷ es) =
    ap (λ later. if bytes_eq e.0.now word then Some (row_shown e.1) else later) (shown-named word es)
    ∙ one_entry (bytes_eq e.0.now word) e.1 (look_up word (map (λ e. (e.0.now, e.1)) es))

found-row : (found : Option (Verb × Bor (List Word))) (named : Option (Verb × List Word)) → named ≡ option_map row_shown found
    → MatchOption found (named ≡ None) (λ row. named ≡ Some (row.0, row.1.now))
found-row None named is = is
found-row (Some row) named is = is

pub row-named : (first : ℕ) (word rest : List ℕ) (entries : List Entry) (found : Option (Verb × Bor (List Word))) → word ≡ first ∷ rest
    → ((later : List ℕ) → look_up (first ∷ later) (map (λ e. (e.0.now, (e.1.0, e.1.1.now))) entries) ≡ look_up (first ∷ later) rows)
    → found ≡ look_up word (map (λ e. (e.0.now, e.1)) entries)
    → MatchOption found (look_up word rows ≡ None) (λ row. look_up word rows ≡ Some (row.0, row.1.now))
row-named first word rest entries found is same looked =
    let at : look_up word (map (λ (e : Entry). (e.0.now, (e.1.0, e.1.1.now))) entries) ≡ look_up word rows = rw is (same rest) in
    found-row found (look_up word rows) (sym at ∙ shown-named word entries ∙ ap (option_map row_shown) (sym looked))

pub no-name : (word : List ℕ) → length word ≡ 0 → look_up word rows ≡ None
no-name [] h = refl
no-name (b ∷ bs) h = absurd (omega arith)
