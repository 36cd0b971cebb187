-- Prints one after another: where a write fails, a front of the whole text was written.
use Rattle.std.proofs.Common.{◌≡◌, ◌∙◌, ℕ, ◌<◌, List, [], ◌∷◌, ◌++◌, length, suc, get_or, map, take, drop, Option, Result, Ok, Err, ap, append_assoc, refl, subst, sym, arith}
use Rattle.std.proofs.Math.Seq.{split_at}
use Rattle.std.proofs.lemmas.{Grind.flat_map-append, List.get_or-map, List.length-map, List.take-map}
use Rattle.std.specs.Prelude.{IsErr}
use Rattle.std.specs.{Io.KnownBytes.Appends, List.flat_map}
use Rattle.hip_script.proofs.Appended.{appends-none, appends-then}
use Rattle.hip_script.specs.Prints.{AppendsFront, Prints}

-- a front of a text is one of a longer text, and of one that begins with what was written before
pub front-of : (old new : Option (List ℕ)) (text more : List ℕ) → AppendsFront old new text → AppendsFront old new (text ++ more)
front-of old new text more cut = record {
  front = cut.front;
  rest = cut.rest ++ more;
  all = sym (append_assoc cut.front cut.rest more) ∙ ap (λ t. t ++ more) cut.all;
  written = cut.written;
}

pub front-then : (old mid new : Option (List ℕ)) (before text : List ℕ) → Appends old mid before → AppendsFront mid new text → AppendsFront old new (before ++ text)
front-then old mid new before text first cut = record {
  front = before ++ cut.front;
  rest = cut.rest;
  all = append_assoc before cut.front cut.rest ∙ ap (λ t. before ++ t) cut.all;
  written = appends-then old mid new before cut.front first cut.written;
}

-- nothing was written
pub front-none : (old new : Option (List ℕ)) (text : List ℕ) → new ≡ old → AppendsFront old new text
front-none old new text same = record { front = []; rest = text; all = refl; written = subst (λ o. Appends old o []) (sym same) (appends-none old) }

pub prints-then : {E : Type 0} (old mid new : Option (List ℕ)) (before text : List ℕ) (result : Result (Unit {0}) E) → Appends old mid before → Prints mid new text result → Prints old new (before ++ text) result
prints-then old mid new before text (Ok done) first second = appends-then old mid new before text first second
prints-then old mid new before text (Err error) first second = front-then old mid new before text first second

-- a print that failed
pub prints-cut : {E : Type 0} (old new : Option (List ℕ)) (text : List ℕ) (result : Result (Unit {0}) E) → IsErr result → AppendsFront old new text → Prints old new text result
prints-cut old new text (Ok done) failed cut = absurd (cc)
prints-cut old new text (Err error) failed cut = cut

-- a writer that is given `front`, and then a text of each item, of which one was cut short
pub front-within : {B : Type 0} (text : B → List ℕ) (front : List ℕ) (items : List B) (i : ℕ) (item : B) (old before after : Option (List ℕ)) → i < length items
    → Appends old before (front ++ flat_map text (take i items)) → AppendsFront before after (text (get_or items i item)) → AppendsFront old after (front ++ flat_map text items)
front-within text front items i item old before after within so_far cut =
    let first = flat_map text (take i items) in
    let here = text (get_or items i item) in
    let later = flat_map text (drop (suc i) items) in
    let whole : (front ++ (first ++ here)) ++ later ≡ front ++ flat_map text items =
    append_assoc front (first ++ here) later
    ∙ ap (λ t. front ++ t) (append_assoc first here later ∙ sym (flat_map-append text (take i items) (get_or items i item ∷ drop (suc i) items)) ∙ ap (flat_map text) (sym (split_at items i item within))) in
    subst (AppendsFront old after) whole (front-of old after (front ++ (first ++ here)) later
    (subst (AppendsFront old after) (append_assoc front first here) (front-then old before after (front ++ first) here so_far cut)))

-- like `front-within`, of what is seen of items
pub front-within-view : {A B : Type 0} (view : A → B) (text : B → List ℕ) (front : List ℕ) (items : List A) (i : ℕ) (item : A) (view_is : B) (old before after : Option (List ℕ)) → i < length items
    → item ≡ get_or items i item → view_is ≡ view item → Appends old before (front ++ flat_map text (map view (take i items))) → AppendsFront before after (text view_is)
    → AppendsFront old after (front ++ flat_map text (map view items))
front-within-view view text front items i item view_is old before after within same is so_far cut =
    front-within text front (map view items) i (view item) old before after (omega (arith, within, length-map items view))
    (subst (λ l. Appends old before (front ++ flat_map text l)) (sym (take-map view i items)) so_far)
    (subst (λ v. AppendsFront before after (text v)) (is ∙ ap view same ∙ sym (get_or-map view items i item (view item) within)) cut)
