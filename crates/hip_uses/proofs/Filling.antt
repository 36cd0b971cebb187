-- Holes by their bytes, and their places.
use Rattle.std.proofs.Common.{◌≡◌, ◌≢◌, ◌∙◌, ℕ, zero, suc, ◌+◌, ◌-◌, ◌<◌, ◌≤◌, List, [], ◌∷◌, ◌++◌, Option, None, length, take, get_or, map, ap, sym, refl, subst, arith, All, IsSome, flat_map, length-append, nat_eq, false}
use Rattle.std.proofs.lemmas.List.{get_or_default, map-append}
use Rattle.std.proofs.lemmas.List.Elements.{All-cons, All-nil, All-tail}
use Rattle.hipstr.specs.Handle.{Handle}
use Rattle.hipstr.specs.Parted.{IsParted}
use Rattle.std.specs.Cmp.Lexicographic.{pointwise}
use Rattle.std.proofs.lemmas.Slice.Eq.{bytes_eq-Decides}
use Rattle.hip_uses.specs.Filled.{AllFilled, IsFilled, IsPlaceOf, IsUnclosedAt, IsUnknownAt}
use Rattle.hip_uses.specs.Template.{AllKnown, AreHoles, FillFails, HoleBytes, ParseFails, IsParsed, bytes_filled, bytes_written, closing, filled, hole_bytes, hole_written, opening, value_of, written}
use Rattle.hip_uses.specs.Tools.{line_at}
use Rattle.hip_uses.specs.declared.template.Hole.{Hole}
use Rattle.hip_uses.specs.declared.fault.TemplateFault.TheVariants.{Unclosed, Unknown}

all-map : {X Y : Type 0} (f : X → Y) (P : Y → Type 0) (xs : List X) → All (λ x. P (f x)) xs → All P (map f xs)
all-map f P [] all = All-nil P
all-map f P (x ∷ xs) all = All-cons P (f x) (map f xs) (all 0 x (omega arith)) (all-map f P xs (All-tail (λ x. P (f x)) x xs all))

pub all-filled : {B S P : Type 0} (values : List (Handle × Handle)) (holes : List (Hole B S P)) → AllKnown values holes → AllFilled values (map hole_bytes holes)
all-filled values holes known = all-map hole_bytes (λ hole. IsSome (value_of values hole.name)) holes known

filled-bytes : {B S P : Type 0} (values : List (Handle × Handle)) (holes : List (Hole B S P)) → filled values holes ≡ flat_map (bytes_filled values) (map hole_bytes holes)
filled-bytes values [] = refl
filled-bytes values (hole ∷ holes) = ap (λ l. bytes_filled values (hole_bytes hole) ++ l) (filled-bytes values holes)

written-bytes : {B S P : Type 0} (holes : List (Hole B S P)) → written holes ≡ flat_map bytes_written (map hole_bytes holes)
written-bytes [] = refl
written-bytes (hole ∷ holes) = ap (λ l. bytes_written (hole_bytes hole) ++ l) (written-bytes holes)

-- a template that is parsed and filled
pub is-filled : {B S P : Type 0} (values : List (Handle × Handle)) (holes : List (Hole B S P)) (input rest text : List ℕ) → IsParsed input holes rest → AllKnown values holes → text ≡ filled values holes ++ rest
    → IsFilled values input text
is-filled values holes input rest text parsed known is = record {
  holes = map hole_bytes holes;
  rest = rest;
  cut = parsed.0;
  lacks = parsed.1;
  known = all-filled values holes known;
  filled = is ∙ ap (λ l. l ++ rest) (filled-bytes values holes);
}

parted-long : (pattern text front back : List ℕ) → IsParted pattern text front back → length text ≡ length front + (length pattern + length back)
parted-long pattern text front back parted = ap length parted.joined ∙ length-append front (pattern ++ back) ∙ ap (λ n. length front + n) (length-append pattern back)

hole-long : (hole : HoleBytes) → length (bytes_written hole) ≡ length hole.before + length hole.name + 4
hole-long hole = omega (arith, length-append hole.before (opening ++ (hole.name ++ closing)), length-append opening (hole.name ++ closing), length-append hole.name closing)

-- a text is its holes as they are written, and what lies behind them
pub holes-long : (input : List ℕ) (holes : List HoleBytes) (rest : List ℕ) → AreHoles input holes rest → length input ≡ length (flat_map bytes_written holes) + length rest
holes-long input [] rest are = omega (arith, ap length are)
holes-long input (hole ∷ holes) rest are =
    omega (arith, parted-long opening input hole.before are.1.0 are.1.1, parted-long closing are.1.0 hole.name are.0 are.1.2, holes-long are.0 holes rest are.2, hole-long hole, length-append (bytes_written hole) (flat_map bytes_written holes))

-- some holes are no longer than all
pub part-long : {B S P : Type 0} (holes : List (Hole B S P)) (n : ℕ) → length (written (take n holes)) ≤ length (written holes)
part-long holes zero = omega arith
part-long [] (suc n) = omega arith
part-long (hole ∷ holes) (suc n) = omega (arith, part-long holes n, length-append (hole_written hole) (written holes), length-append (hole_written hole) (written (take n holes)))

next-longer : {B S P : Type 0} (holes : List (Hole B S P)) (i : ℕ) (item : Hole B S P) → i < length holes → item ≡ get_or holes i item
    → length (written (take (suc i) holes)) ≡ length (written (take i holes)) + (length item.before.items + length item.name.items + 4)
next-longer [] i item within is = absurd (omega arith)
next-longer (hole ∷ holes) zero item within is = omega (arith, hole-long (hole_bytes hole), ap (λ h. length h.before.items) is, ap (λ h. length h.name.items) is, length-append (hole_written hole) [])
next-longer (hole ∷ holes) (suc i) item within is =
    omega (arith, next-longer holes i item (omega arith) is, length-append (hole_written hole) (written (take i holes)), length-append (hole_written hole) (written (take (suc i) holes)))

-- one hole more
pub next-long : {B S P : Type 0} (holes : List (Hole B S P)) (i : ℕ) (item : Hole B S P) → i < length holes → item ≡ get_or holes i item
    → length (written (take (i + 1) holes)) ≡ length (written (take i holes)) + (length item.before.items + length item.name.items + 4)
next-long holes i item within is = let one : i + 1 ≡ suc i = omega arith in ap (λ n. length (written (take n holes))) one ∙ next-longer holes i item within is

-- the first hole of a name
first-named : {B S P : Type 0} (name : List ℕ) (before : List (Hole B S P)) (hole : Hole B S P) (after : List (Hole B S P)) (i : ℕ) (item : Hole B S P) → item ≡ get_or (before ++ hole ∷ after) i item → item.name.items ≡ name
    → ((k : ℕ) (d : Hole B S P) → k < i → (get_or (before ++ hole ∷ after) k d).name.items ≢ name) → All (λ other. other.name.items ≢ name) before → hole.name.items ≡ name
    → length (written (take i (before ++ hole ∷ after))) + length item.before.items ≡ length (written before) + length hole.before.items
first-named name [] hole after zero item is named others none has = omega (arith, ap (λ h. length h.before.items) is)
first-named name [] hole after (suc i) item is named others none has = absurd (others 0 hole (omega arith) has)
first-named name (b ∷ before) hole after zero item is named others none has = absurd (none 0 b (omega arith) (ap (λ h. h.name.items) (sym is) ∙ named))
first-named name (b ∷ before) hole after (suc i) item is named others none has =
    let more = first-named name before hole after i item is named (λ k d low. others (suc k) d (omega arith)) (All-tail (λ other. other.name.items ≢ name) b before none) has in
    omega (arith, more, length-append (hole_written b) (written before), length-append (hole_written b) (written (take i (before ++ hole ∷ after))))

pub place-is : {B S P : Type 0} (name : List ℕ) (holes : List (Hole B S P)) (i : ℕ) (item : Hole B S P) (place : ℕ) → item ≡ get_or holes i item → item.name.items ≡ name
    → ((k : ℕ) (d : Hole B S P) → k < i → (get_or holes k d).name.items ≢ name) → place ≡ length (written (take i holes)) + length item.before.items → IsPlaceOf holes name place
place-is name holes i item place is named others place_is before hole after split none has =
    rw split at place_is ∙ first-named name before hole after i item (rw split at is) named (λ k d low. rw split at (others k d low)) none has

-- where no hole has the name, none is the first
pub no-place : {B S P : Type 0} (name : List ℕ) (holes : List (Hole B S P)) (place : ℕ) → ((k : ℕ) (d : Hole B S P) → k < length holes → (get_or holes k d).name.items ≢ name) → IsPlaceOf holes name place
no-place name holes place others before hole after split none has = absurd (never name before hole after (λ k d low. rw split at others k d low) has)
  where
    never : {B S P : Type 0} (name : List ℕ) (before : List (Hole B S P)) (hole : Hole B S P) (after : List (Hole B S P)) → ((k : ℕ) (d : Hole B S P) → k < length (before ++ hole ∷ after) → (get_or (before ++ hole ∷ after) k d).name.items ≢ name)
        → hole.name.items ≢ name
    never name [] hole after others has = others 0 hole (omega arith) has
    never name (b ∷ before) hole after others has = never name before hole after (λ k d low. others (suc k) d (omega arith)) has

-- one hole more has another name
pub others-more : {B S P : Type 0} (name : List ℕ) (holes : List (Hole B S P)) (i : ℕ) (item : Hole B S P) → i < length holes → item ≡ get_or holes i item → pointwise nat_eq item.name.items name ≡ false
    → ((k : ℕ) (d : Hole B S P) → k < i → (get_or holes k d).name.items ≢ name) → (k : ℕ) (d : Hole B S P) → k < i + 1 → (get_or holes k d).name.items ≢ name
others-more name holes i item within is other others k d low same = grind (arith, bytes_eq-Decides, get_or_default, others k d)

-- the line of a `{{` that nothing closes
pub unclosed-at : {B S P : Type 0} (input : List ℕ) (behind : Handle) (line : ℕ) → ParseFails {B = B} {S = S} {P = P} input (Unclosed behind)
    → (length behind.items ≤ length input) × (2 ≤ length input - length behind.items) × (line ≡ line_at input (length input - length behind.items - 2) → IsUnclosedAt input line)
unclosed-at input behind line (holes, rest, before, cut, opens, lacks) =
    let whole = holes-long input (map hole_bytes holes) rest cut in
    let end = parted-long opening rest before behind.items opens in (
      omega (arith, whole, end),
      omega (arith, whole, end),
      λ is. record {
        holes = map hole_bytes holes;
        rest = rest;
        before = before;
        behind = behind.items;
        cut = cut;
        opens = opens;
        lacks = lacks;
        line_is = is ∙ ap (line_at input) (omega (arith, whole, end));
      },
    )

-- the line of the first hole that has no value
pub unknown-at : {B S P : Type 0} (values : List (Handle × Handle)) (input rest : List ℕ) (holes : List (Hole B S P)) (name : Handle) (line place : ℕ) (told : List ℕ) → IsParsed input holes rest
    → FillFails values holes (Unknown name) → IsPlaceOf holes name.items place → line ≡ line_at input place → told ≡ name.items → IsUnknownAt values input line told
unknown-at values input rest holes name line place told parsed (before, hole, after, split, known, fails) place_is line_is told_is = record {
  before = map hole_bytes before;
  hole = hole_bytes hole;
  after = map hole_bytes after;
  rest = rest;
  cut = subst (λ hs. AreHoles input hs rest) (ap (map hole_bytes) split ∙ map-append hole_bytes before (hole ∷ after)) parsed.0;
  lacks = parsed.1;
  known = all-filled values before known;
  named = fails.1 ∙ sym told_is;
  none = ap (value_of values) told_is ∙ fails.0;
  line_is = line_is ∙ ap (line_at input) (place_is before hole after split (λ k d low same. some-not-none _ (known k d low) (ap (value_of values) same ∙ fails.0)) fails.1 ∙ ap (λ l. length l + length hole.before.items) (written-bytes before));
}
  where
    some-not-none : (o : Option Handle) → IsSome o → o ≢ None
    some-not-none o some is = absurd cc
