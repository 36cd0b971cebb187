-- Tokens, a line each.
use Rattle.std.proofs.Common.{◌≡◌, ◌∙◌, ℕ, ◌+◌, ◌<◌, List, [], ◌∷◌, ◌++◌, length, map, take, get_or, ap, sym, refl, subst, arith, append_assoc, All, Option, codes}
use Rattle.std.proofs.lemmas.List.{append-nil, map_more}
use Rattle.std.specs.Io.KnownBytes.{Appends}
use Rattle.std.proofs.lemmas.List.Elements.{All-tail}
use Rattle.hipstr.specs.Handle.{Handle}
use Rattle.hip_uses.specs.Listed.{AreRuns, IsTokenLine, PrintedAs, run_of}
use Rattle.hip_uses.proofs.Appended.{appends-then}
use Rattle.hip_uses.specs.Token.{AreAdjacent, IsTokenOf}
use Rattle.hip_uses.specs.declared.tokens.Token.{Token}

-- one more item is printed
pub printed-last : {A : Type 0} (IsLine : A → List ℕ → Type 0) (items : List A) (item : A) (text line : List ℕ) → PrintedAs IsLine items text → IsLine item line → PrintedAs IsLine (items ++ item ∷ []) (text ++ line)
printed-last IsLine [] item text line none is = (line, [], is, refl, ap (λ l. l ++ line) none ∙ sym (append-nil line))
printed-last IsLine (first ∷ items) item text line (head, rest, shown, more, joined) is =
    (head, rest ++ line, shown, printed-last IsLine items item rest line more is, ap (λ l. l ++ line) joined ∙ append_assoc head rest line)

-- the tokens of a text are its runs
pub tokens-are-runs : {B S P : Type 0} (source : Handle) (from : ℕ) (tokens : List (Token B S P)) → AreAdjacent from tokens (length source.items) → All (IsTokenOf source) tokens
    → AreRuns source.items from (map run_of tokens)
tokens-are-runs source from [] ends all = ends
tokens-are-runs source from (token ∷ tokens) (starts, more) all =
    let here = all 0 token (omega arith) in (
      starts,
      record { part = here.0.items_are; longest = here.1 },
      subst (λ start. AreRuns source.items (start + length token.text.items) (map run_of tokens)) starts (tokens-are-runs source (token.start + length token.text.items) tokens more (All-tail (IsTokenOf source) token tokens all)),
    )

-- the next token is printed
pub tokens-next : {B S P : Type 0} (tokens : List (Token B S P)) (i : ℕ) (token : Token B S P) (shown text line : List ℕ) → i < length tokens → token ≡ get_or tokens i token → shown ≡ token.text.items
    → PrintedAs IsTokenLine (map run_of (take i tokens)) text → IsTokenLine (record { start = token.start; class = token.class; text = shown }) line
    → PrintedAs IsTokenLine (map run_of (take (i + 1) tokens)) (text ++ line)
tokens-next tokens i token shown text line within is shows so_far next =
    subst (λ runs. PrintedAs IsTokenLine runs (text ++ line)) (ap (λ t. map run_of (take i tokens) ++ run_of t ∷ []) is ∙ sym (map_more run_of tokens i token within))
    (printed-last IsTokenLine (map run_of (take i tokens)) (run_of token) text line so_far
    (subst (λ bytes. IsTokenLine (record { start = token.start; class = token.class; text = bytes }) line) shows next))

-- the parts of a token's line, one behind another
joined : (place name shown : List ℕ) → (place ++ (codes " " ++ (name ++ codes " "))) ++ (shown ++ codes "\n") ≡ place ++ (codes " " ++ (name ++ (codes " " ++ (shown ++ codes "\n"))))
joined place name shown =
    append_assoc place _ _ ∙ ap (λ l. place ++ (codes " " ++ l)) (append_assoc name (codes " ") (shown ++ codes "\n"))

pub line-written : (old first second new : Option (List ℕ)) (place name shown : List ℕ) → Appends old first (place ++ (codes " " ++ (name ++ codes " "))) → Appends first second shown
    → Appends second new (codes "\n") → Appends old new (place ++ (codes " " ++ (name ++ (codes " " ++ (shown ++ codes "\n")))))
line-written old first second new place name shown begins goes ends =
    subst (Appends old new) (joined place name shown) (appends-then old first new _ _ begins (appends-then first second new _ _ goes ends))
