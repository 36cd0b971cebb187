-- Lemmas on repetitions, for the loop that makes one.
use Rattle.std.proofs.Common.{◌≡◌, ◌≢◌, ◌∙◌, ℕ, zero, suc, ◌+◌, ◌*◌, ◌-◌, ◌^◌, ◌<◌, ◌≤◌, ◌==◌, min, Bool, true, false, if◌then◌else◌, Fits, w64, List, [], ◌∷◌, ◌++◌, length, take, append_assoc, append-nil, length-append, Result, Ok, Err, IfErr, IfOk, refl, sym, ap, subst, subst₂, arith, rules}
use Rattle.std.proofs.Math.Nat.{add-mul, suc-mul, mul-le-mul_right}
use Rattle.std.proofs.Math.Seq.{take-append_seam}
use Rattle.std.proofs.lemmas.Bool.{eq-eqb, ne_eqb, or_from, or_left, or_right}
use Rattle.std.specs.Prelude.{MatchBool, IsErrAnd}
use Rattle.hip_raw.specs.Meter.{RisesAtLeast, RisesAtMost, times_copied}
use Rattle.hip_bytes.specs.Cost.{clone_cost}
use Rattle.hip_bytes.specs.declared.kind.Kind.{Kind}
use Rattle.hip_bytes.specs.declared.kind.Kind.TheVariants.{Allocated}
use Rattle.hip_bytes.specs.declared.kind.TheConstants.{INLINE_CAPACITY}
use Rattle.std.specs.List.{repeat}
use Rattle.hip_bytes.specs.Handle.{Handle}
use Rattle.hip_bytes.specs.Join.{is_plain, repeat_cost, repeated_kind, RepeatNeedsMemory}
use Rattle.hip_bytes.specs.Kinds.{by_length, HasCapacity, Holds}
use Rattle.hip_bytes.specs.Made.{CloneAnswers, RepeatAnswers}
use Rattle.hip_bytes.specs.declared.grow_fault.GrowFault.{GrowFault}
use Rattle.hip_bytes.specs.declared.grow_fault.GrowFault.TheVariants.{Memory, TooLong}

-- the list so many times, and then some more times
pub repeat-append : (m n : ℕ) (xs : List ℕ) → repeat m xs ++ repeat n xs ≡ repeat (m + n) xs
repeat-append zero n xs = let none : n ≡ zero + n = omega arith in ap (λ k. repeat k xs) none
repeat-append (suc m) n xs =
    let more : suc (m + n) ≡ suc m + n = omega arith in
    append_assoc xs (repeat m xs) (repeat n xs) ∙ ap (λ ys. xs ++ ys) (repeat-append m n xs) ∙ ap (λ k. repeat k xs) more

-- how long that is
pub length-repeat : (n : ℕ) (xs : List ℕ) → length (repeat n xs) ≡ n * length xs
length-repeat zero xs = omega arith
length-repeat (suc n) xs = omega (arith, length-append xs (repeat n xs), length-repeat n xs, suc-mul n (length xs))

-- the front of a repetition is the list fewer times
pub take-repeat : (m n : ℕ) (xs : List ℕ) → m ≤ n → take (m * length xs) (repeat n xs) ≡ repeat m xs
take-repeat m n xs within =
    let whole : n ≡ m + (n - m) = omega arith in
    ap (λ k. take (m * length xs) (repeat k xs)) whole ∙ ap (take (m * length xs)) (sym (repeat-append m (n - m) xs))
    ∙ ap (λ k. take k (repeat m xs ++ repeat (n - m) xs)) (sym (length-repeat m xs)) ∙ take-append_seam (repeat m xs) (repeat (n - m) xs)

-- where times are left, there is room for some of them
pub times_fit : (done more n len : ℕ) → done + more ≤ n → done * len + more * len ≤ n * len
times_fit done more n len left = omega (arith, add-mul done more len, mul-le-mul_right {m = done + more} {n = n} len left)

-- nothing, however often
pub repeat-nothing : (n : ℕ) (xs : List ℕ) → length xs ≡ 0 → xs ≡ repeat n xs
repeat-nothing zero [] none = refl
repeat-nothing (suc n) [] none = repeat-nothing n [] none
repeat-nothing n (x ∷ xs) none = absurd (omega arith)

-- a clone of nothing is nothing, however often
pub clone-of-nothing : (source : Handle) (n : ℕ) (result : Result Handle GrowFault) → length source.items ≡ 0 → CloneAnswers source result
    → IfErr result (λ fault. fault ≡ Memory) → RepeatAnswers source n result
clone-of-nothing source n (Ok copy) none clone memory = (
  subst (λ items. Holds copy (repeated_kind source.kind (length source.items) n) items) (repeat-nothing n source.items none)
      (subst (λ len. Holds copy (repeated_kind source.kind len n) source.items) (sym none) clone),
  subst (λ len. n * len < 2 ^ 64) (sym none) (omega arith),
)
clone-of-nothing source n (Err Memory) none clone memory = (
  subst (λ len. RepeatNeedsMemory source.kind len n) (sym none) clone,
  subst (λ len. n * len < 2 ^ 64) (sym none) (omega arith),
)
clone-of-nothing source n (Err TooLong) none clone memory = search rules

abbrev pub Repeats : Bool → Handle → ℕ → Result Handle GrowFault → ℕ → ℕ → Type 0
Repeats shares source n result m m' =
    RepeatAnswers source n result × RisesAtMost m m' (repeat_cost shares source.kind (length source.items) n)
    × (n ≢ 1 → IfOk result (λ handle. RisesAtLeast m m' (length handle.items))) × (result ≡ Err TooLong → m' ≡ m)

plain_cost : (shares : Bool) (kind : Kind) (len n m m' : ℕ) → is_plain len n ≡ true → RisesAtMost m m' (clone_cost shares kind len) → RisesAtMost m m' (repeat_cost shares kind len n)
plain_cost shares kind len n m m' plain counted = subst (λ b. RisesAtMost m m' (if b then clone_cost shares kind len else times_copied shares (n * len) + INLINE_CAPACITY)) (sym plain) counted

not_too_long : {P : Type 0} (result : Result Handle GrowFault) → IfErr result (λ fault. fault ≡ Memory) → result ≡ Err TooLong → P
not_too_long (Ok copy) memory is = absurd (cc)
not_too_long (Err fault) memory is = absurd (cc)

copies-nothing : (source : Handle) (result : Result Handle GrowFault) (m m' : ℕ) → length source.items ≡ 0 → CloneAnswers source result → m ≤ m'
    → IfOk result (λ handle. RisesAtLeast m m' (length handle.items))
copies-nothing source (Ok copy) m m' none clone rises = omega (arith, none, ap length clone.items_are)
copies-nothing source (Err fault) m m' none clone rises = tt

pub repeats-nothing : (shares : Bool) (source : Handle) (n : ℕ) (result : Result Handle GrowFault) (m m' : ℕ) → length source.items ≡ 0 → CloneAnswers source result
    → IfErr result (λ fault. fault ≡ Memory) → RisesAtMost m m' (clone_cost shares source.kind (length source.items)) → Repeats shares source n result m m'
repeats-nothing shares source n result m m' none clone memory counted = (
  clone-of-nothing source n result none clone memory,
  plain_cost shares source.kind (length source.items) n m m' (or_left (length source.items == 0) (n == 1) (eq-eqb (length source.items) 0 none)) counted,
  λ _. copies-nothing source result m m' none clone counted.never_falls,
  not_too_long result memory,
)

clone-once : (source : Handle) (result : Result Handle GrowFault) → length source.items < 2 ^ 64 → CloneAnswers source result
    → IfErr result (λ fault. fault ≡ Memory) → is_plain (length source.items) 1 ≡ true → RepeatAnswers source 1 result
clone-once source (Ok copy) bound clone memory plain = (
  subst₂ (Holds copy) (ap (λ b. if b then source.kind else by_length (1 * length source.items)) (sym plain)) (sym (append-nil source.items)) clone,
  omega arith,
)
clone-once source (Err Memory) bound clone memory plain = (subst (λ b. MatchBool b (source.kind ≡ Allocated) (INLINE_CAPACITY < 1 * length source.items)) (sym plain) clone, omega arith)
clone-once source (Err TooLong) bound clone memory plain = absurd (cc)

pub repeats-once : (shares : Bool) (source : Handle) (n : ℕ) (result : Result Handle GrowFault) (m m' : ℕ) → n ≡ 1 → length source.items < 2 ^ 64 → CloneAnswers source result
    → IfErr result (λ fault. fault ≡ Memory) → RisesAtMost m m' (clone_cost shares source.kind (length source.items)) → Repeats shares source n result m m'
repeats-once shares source n result m m' once bound clone memory counted =
    let plain : is_plain (length source.items) 1 ≡ true = or_right (length source.items == 0) (1 == 1) refl in
    subst (λ k. Repeats shares source k result m m') (sym once) (
      clone-once source result bound clone memory plain,
      plain_cost shares source.kind (length source.items) 1 m m' plain counted,
      λ other. absurd (other refl),
      not_too_long result memory,
    )

-- neither of nothing nor once
module _ (shares : Bool) (source : Handle) (n m m' : ℕ) (some : length source.items ≢ 0) (other : n ≢ 1) where
  many : is_plain (length source.items) n ≡ false
  many = or_from (length source.items == 0) (n == 1) (ne_eqb (length source.items) 0 some) (ne_eqb n 1 other)

  whole_cost : RisesAtMost m m' (times_copied shares (n * length source.items)) → RisesAtMost m m' (repeat_cost shares source.kind (length source.items) n)
  whole_cost counted =
      let cost = ap (λ b. if b then clone_cost shares source.kind (length source.items) else times_copied shares (n * length source.items) + INLINE_CAPACITY) many in
      record { never_falls = counted.never_falls; at_most = omega (arith, counted.at_most, cost) }

  pub repeats-refused : (result : Result Handle GrowFault) → IsErrAnd result (λ fault. fault ≡ Memory) → INLINE_CAPACITY < n * length source.items → n * length source.items < 2 ^ 64
      → RisesAtMost m m' (times_copied shares (n * length source.items)) → Repeats shares source n result m m'
  repeats-refused (Ok handle) is long bound counted = absurd is
  repeats-refused (Err TooLong) is long bound counted = absurd (cc)
  repeats-refused (Err Memory) is long bound counted = (
    (subst (λ b. MatchBool b (source.kind ≡ Allocated) (INLINE_CAPACITY < n * length source.items)) (sym many) long, bound),
    whole_cost counted,
    λ _. tt,
    λ same. absurd (cc),
  )

  pub repeats-made : (handle : Handle) (made : List ℕ) → handle.items ≡ made → handle.kind ≡ by_length (length made) → HasCapacity handle.kind (length made) handle.capacity
      → made ≡ repeat n source.items → length made ≡ n * length source.items → n * length source.items < 2 ^ 64
      → RisesAtMost m m' (times_copied shares (n * length source.items)) → RisesAtLeast m m' (n * length source.items) → Repeats shares source n (Ok handle) m m'
  repeats-made handle made items kind capacity is size bound counted copied =
      let kind_is = kind ∙ ap by_length size ∙ ap (λ b. if b then source.kind else by_length (n * length source.items)) (sym many) in (
        (record { kind_is = kind_is; items_are = items ∙ is; capacity = subst₂ (λ k len. HasCapacity k len handle.capacity) kind_is (ap length is) capacity }, bound),
        whole_cost counted,
        λ _. subst (RisesAtLeast m m') (sym (ap length items ∙ size)) copied,
        λ same. absurd (cc),
      )

-- the list as often as was wanted
module _ (made bytes : List ℕ) (done n len : ℕ) (whole : len ≡ n * length bytes) (all : done ≡ n) (so_far : made ≡ repeat done bytes) where
  pub repeated_all : made ≡ repeat n bytes
  repeated_all = so_far ∙ ap (λ k. repeat k bytes) all

  pub repeated_long : length made ≡ len
  repeated_long = ap length repeated_all ∙ length-repeat n bytes ∙ sym whole

  pub repeated_count : done * length bytes ≡ len
  repeated_count = ap (λ k. k * length bytes) all ∙ sym whole

pub once : (n : ℕ) → n ≡ 1 * n
once n = omega arith

pub first_time : (n : ℕ) → (n ≡ 0 → ⊥) → (0 < 1) × (1 ≤ n)
first_time n some = (omega arith, omega (arith, some))

pub all_times : (done n : ℕ) → n ≤ done → done ≤ n → done ≡ n
all_times done n over within = omega arith

-- some of the repetitions are no longer than all
pub some_fit : (more inner done most n len : ℕ) (bytes : List ℕ) → more ≡ min inner most → inner ≡ min done (n - done) → len ≡ n * length bytes → Fits w64 len → Fits w64 (more * length bytes)
some_fit more inner done most n len bytes least some whole fits =
    let within : more ≤ n = omega arith in
    record { fits = omega (arith, mul-le-mul_right {m = more} {n = n} (length bytes) within, fits.fits) }
