-- Lemmas on joins, for the loops that make one.
use Rattle.std.proofs.Common.{◌≡◌, ◌∙◌, ℕ, Bool, true, false, ◌&&◌, nat_le, if◌then◌else◌, zero, suc, ◌+◌, ◌-◌, ◌*◌, ◌<◌, ◌≤◌, List, [], ◌∷◌, ◌++◌, length, take, drop, get_or, refl, sym, ap, append_assoc, append-nil, length-append, map, take_all, arith}
use Rattle.std.proofs.Math.Nat.{suc-mul}
use Rattle.std.proofs.lemmas.Bool.{le-leb, leb-true, leb-false}
use Rattle.std.proofs.lemmas.Grind.{flat_map-append}
use Rattle.std.proofs.lemmas.List.{take_more, take-append-drop, length-take-le}
use Rattle.std.specs.List.{flat_map, join_by}
use Rattle.hip_bytes.specs.Gathering.{spill_cost}
use Rattle.hip_bytes.specs.Join.{gap_at}
use Rattle.hip_bytes.specs.declared.kind.TheConstants.{INLINE_CAPACITY}

abbrev pub next : {A : Type 0} → (A → List ℕ) → List ℕ → A → List ℕ
next f sep x = sep ++ f x

-- one piece more, at the end
pub joined-snoc : {A : Type 0} (f : A → List ℕ) (sep : List ℕ) (xs : List A) (y : A)
    → join_by f sep (xs ++ y ∷ []) ≡ (join_by f sep xs ++ gap_at (length xs) sep) ++ f y
joined-snoc f sep [] y = append-nil (f y)
joined-snoc f sep (x ∷ xs) y = ap (λ zs. f x ++ zs) (flat_map-append (next f sep) xs (y ∷ [])) ∙ simp (append_assoc, append-nil)

-- the pieces before a position, and the one there
pub joined-take_more : {A : Type 0} (f : A → List ℕ) (sep : List ℕ) (xs : List A) (i : ℕ) (d : A) → i < length xs
    → join_by f sep (take (i + 1) xs) ≡ (join_by f sep (take i xs) ++ gap_at i sep) ++ f (get_or xs i d)
joined-take_more f sep xs i d within =
    ap (join_by f sep) (take_more xs i d within) ∙ joined-snoc f sep (take i xs) (get_or xs i d)
    ∙ ap (λ gap. (join_by f sep (take i xs) ++ gap) ++ f (get_or xs i d)) (ap (λ k. gap_at k sep) (length-take-le i xs (omega arith)))

-- a loop over all pieces has made the whole join
module _ {A : Type 0} (f : A → List ℕ) (sep : List ℕ) (xs : List A) (i : ℕ) (made : List ℕ) (over : length xs ≤ i) (so_far : made ≡ join_by f sep (take i xs)) where
  pub joined_all : made ≡ join_by f sep xs
  joined_all = so_far ∙ ap (join_by f sep) (take_all i xs over)

  pub length-joined_all : (len : ℕ) → len ≡ length (join_by f sep xs) → length made ≡ len
  length-joined_all len whole = ap length joined_all ∙ sym whole

-- the length of a join with one piece more
pub length-joined-take_more : {A : Type 0} (f : A → List ℕ) (sep : List ℕ) (xs : List A) (i : ℕ) (d : A) → i < length xs
    → length (join_by f sep (take (i + 1) xs)) ≡ length (join_by f sep (take i xs)) + length (gap_at i sep) + length (f (get_or xs i d))
length-joined-take_more f sep xs i d within =
    ap length (joined-take_more f sep xs i d within)
    ∙ length-append (join_by f sep (take i xs) ++ gap_at i sep) (f (get_or xs i d))
    ∙ ap (λ n. n + length (f (get_or xs i d))) (length-append (join_by f sep (take i xs)) (gap_at i sep))

-- a join of fewer pieces is no longer
pub length-joined-take : {A : Type 0} (f : A → List ℕ) (sep : List ℕ) (xs : List A) (i : ℕ)
    → length (join_by f sep (take i xs)) ≤ length (join_by f sep xs)
length-joined-take f sep [] zero = omega arith
length-joined-take f sep [] (suc i) = omega arith
length-joined-take f sep (x ∷ xs) zero = omega arith
length-joined-take f sep (x ∷ xs) (suc i) =
    let front = flat_map (next f sep) (take i xs) in
    let back = flat_map (next f sep) (drop i xs) in
    let whole : front ++ back ≡ flat_map (next f sep) xs = sym (flat_map-append (next f sep) (take i xs) (drop i xs)) ∙ ap (flat_map (next f sep)) (take-append-drop i xs) in
    omega (arith, length-append (f x) front, length-append (f x) (flat_map (next f sep) xs), length-append front back, ap length whole)

-- a join that goes on is no longer than the whole
pub gap_fits : {A : Type 0} (f : A → List ℕ) (sep : List ℕ) (xs : List A) (i : ℕ) (d : A) (len : ℕ) (gap : List ℕ)
    → i < length xs → len ≡ length (join_by f sep (take i xs)) → gap ≡ gap_at i sep → len + length gap ≤ length (join_by f sep xs)
gap_fits f sep xs i d len gap within so_far is_gap =
    omega (arith, length-joined-take_more f sep xs i d within, length-joined-take f sep xs (i + 1), ap length is_gap)

pub piece_fits : {A : Type 0} (f : A → List ℕ) (sep : List ℕ) (xs : List A) (i : ℕ) (x : A) (shown : List ℕ) (len mid : ℕ) (gap : List ℕ)
    → i < length xs → x ≡ get_or xs i x → shown ≡ f x → len ≡ length (join_by f sep (take i xs)) → gap ≡ gap_at i sep → mid ≡ len + length gap
    → mid + length shown ≤ length (join_by f sep xs)
piece_fits f sep xs i x shown len mid gap within is_x is_shown so_far is_gap to_mid =
    omega (arith, length-joined-take_more f sep xs i x within, length-joined-take f sep xs (i + 1), ap length is_gap, ap length is_shown, ap (λ y. length (f y)) is_x)

flat_map-next : {A : Type 0} (f : A → List ℕ) (sep : List ℕ) (xs : List A) → flat_map (next f sep) xs ≡ flat_map (next (λ piece. piece) sep) (map f xs)
flat_map-next f sep [] = refl
flat_map-next f sep (x ∷ xs) = ap (λ zs. (sep ++ f x) ++ zs) (flat_map-next f sep xs)

-- a join depends on the bytes of its pieces alone
pub joined-map : {A : Type 0} (f : A → List ℕ) (sep : List ℕ) (xs : List A) → join_by f sep xs ≡ join_by (λ piece. piece) sep (map f xs)
joined-map f sep [] = refl
joined-map f sep (x ∷ xs) = ap (λ zs. f x ++ zs) (flat_map-next f sep xs)

-- the bytes of a join that goes on
pub joined-next : {A : Type 0} (f : A → List ℕ) (sep : List ℕ) (xs : List A) (i : ℕ) (x : A) (shown made mid all gap : List ℕ)
    → i < length xs → x ≡ get_or xs i x → shown ≡ f x → made ≡ join_by f sep (take i xs) → gap ≡ gap_at i sep → mid ≡ made ++ gap → all ≡ mid ++ shown
    → all ≡ join_by f sep (take (i + 1) xs)
joined-next f sep xs i x shown made mid all gap within is_x is_shown so_far is_gap to_mid to_all =
    to_all ∙ ap (λ ys. mid ++ ys) (is_shown ∙ ap f is_x)
    ∙ ap (λ ys. ys ++ f (get_or xs i x)) (to_mid ∙ ap (λ ys. ys ++ gap) so_far ∙ ap (λ ys. join_by f sep (take i xs) ++ ys) is_gap)
    ∙ sym (joined-take_more f sep xs i x within)

-- how long a join with one piece more is
pub length-joined-snoc : {A : Type 0} (f : A → List ℕ) (sep : List ℕ) (xs : List A) (y : A) (shown made gap : List ℕ)
    → shown ≡ f y → made ≡ join_by f sep xs → gap ≡ gap_at (length xs) sep → length (join_by f sep (xs ++ y ∷ [])) ≡ length made + length gap + length shown
length-joined-snoc f sep xs y shown made gap is_shown is_made is_gap =
    ap length (joined-snoc f sep xs y)
    ∙ length-append (join_by f sep xs ++ gap_at (length xs) sep) (f y)
    ∙ ap (λ n. n + length (f y)) (length-append (join_by f sep xs) (gap_at (length xs) sep))
    ∙ omega (arith, ap length is_shown, ap length is_made, ap length is_gap)

-- how long the pieces are, each with the separator before it
length-flat_map-next : {A : Type 0} (f : A → List ℕ) (sep : List ℕ) (xs : List A)
    → length (flat_map (next f sep) xs) ≡ length xs * length sep + length (flat_map f xs)
length-flat_map-next f sep [] = omega arith
length-flat_map-next f sep (x ∷ xs) =
    omega (arith, length-flat_map-next f sep xs, suc-mul (length xs) (length sep), length-append (sep ++ f x) (flat_map (next f sep) xs), length-append sep (f x), length-append (f x) (flat_map f xs))

-- a join is as long as its gaps and its pieces
pub length-joined : {A : Type 0} (f : A → List ℕ) (sep : List ℕ) (xs : List A)
    → length (join_by f sep xs) ≡ (length xs - 1) * length sep + length (flat_map f xs)
length-joined f sep [] = omega arith
length-joined f sep (x ∷ xs) =
    let others : length (x ∷ xs) - 1 ≡ length xs = omega arith in
    omega (arith, ap (λ n. n * length sep) others, length-flat_map-next f sep xs, length-append (f x) (flat_map (next f sep) xs), length-append (f x) (flat_map f xs))

-- a join goes on by the gap and the piece
pub joined-more : {A : Type 0} (f : A → List ℕ) (sep : List ℕ) (xs : List A) (y : A) (shown made gap : List ℕ)
    → shown ≡ f y → made ≡ join_by f sep xs → gap ≡ gap_at (length xs) sep → (made ++ gap) ++ shown ≡ join_by f sep (xs ++ y ∷ [])
joined-more f sep xs y shown made gap is_shown is_made is_gap =
    ap (λ zs. (made ++ gap) ++ zs) is_shown ∙ ap (λ zs. (zs ++ gap) ++ f y) is_made ∙ ap (λ zs. (join_by f sep xs ++ zs) ++ f y) is_gap
    ∙ sym (joined-snoc f sep xs y)

-- there is a gap behind a piece
pub gap-snoc : {A : Type 0} (sep : List ℕ) (xs : List A) (y : A) → sep ≡ gap_at (length (xs ++ y ∷ [])) sep
gap-snoc sep [] y = refl
gap-snoc sep (x ∷ xs) y = refl

-- a property of nothing and of the separator is one of each gap
pub kept-gap : (keeps : List ℕ → Type 0) (sep : List ℕ) (i : ℕ) → keeps [] → keeps sep → keeps (gap_at i sep)
kept-gap keeps sep zero empty kept = empty
kept-gap keeps sep (suc i) empty kept = kept

and_false : (b : Bool) → (b && false) ≡ false
and_false true = refl
and_false false = refl

fits_where : (fits : Bool) (before most : ℕ) → (fits ≡ true → before ≤ most) → (nat_le before most && fits) ≡ fits
fits_where true before most h = ap (λ b. b && true) (le-leb before most (h refl))
fits_where false before most h = and_false (nat_le before most)

-- a length that fits the limit fitted it before it grew
pub fits_before : (before after most : ℕ) → before ≤ after → (nat_le before most && nat_le after most) ≡ nat_le after most
fits_before before after most grown = fits_where (nat_le after most) before most (λ e. omega (arith, leb-true after most e))

-- bytes move into a vector once
pub spilled_once : (before after fits : Bool) → after ≡ (before && fits) → (if before then 0 else INLINE_CAPACITY) + spill_cost before after ≤ (if after then 0 else INLINE_CAPACITY)
spilled_once true true fits is = omega arith
spilled_once true false fits is = omega arith
spilled_once false true fits is = absurd (cc)
spilled_once false false fits is = omega arith

-- an addition that was refused for memory is longer than a handle holds in itself
pub refused_long : (in_handle : Bool) (len more : ℕ) → in_handle ≡ nat_le len INLINE_CAPACITY → (in_handle ≡ true → INLINE_CAPACITY < more) → len ≤ more → INLINE_CAPACITY < more
refused_long true len more place short grown = short refl
refused_long false len more place short grown = omega (arith, leb-false len INLINE_CAPACITY (sym place), grown)
