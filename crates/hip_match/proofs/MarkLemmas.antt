-- Marks of a test: the bits of one number, and the places that they tell.
use Rattle.std.proofs.lemmas.Bool.Decides.{nat_tests}
use Rattle.std.proofs.lemmas.Grind.{common_steps}
use Rattle.std.proofs.Common.{◌≡◌, ◌≢◌, ◌∙◌, ℕ, ◌+◌, ◌-◌, ◌<◌, ◌≤◌, Bool, cond, List, Option, None, Some, length, drop, take, take_all, ap, sym, arith, ⊎_elim, bit_or, get_or-drop, length-drop, slice_index, option_map}
use Rattle.std.proofs.lemmas.Bool.{cases_lt, cases_Bool}
use Rattle.std.proofs.lemmas.Nat.{le_or_l, le_or_r}
use Rattle.std.proofs.lemmas.Nat.Bits.{bit_at-lt, bit_at-zero, bit_at_above, bit_at_or}
use Rattle.std.specs.Int.{bit_at}
use Rattle.memchr.specs.Find.{IsFirst, IsFirstByte, IsLast, Nowhere, Passes}
use Rattle.hip_match.specs.Bits.{IsHighest, IsLowest}
use Rattle.hip_match.specs.Marks.{Ahead, AreMarks, Behind, PassesAt}

-- a search of the rest finds the first place from there on
module _ (test : ℕ → Bool) (t : List ℕ) where
  first-of-rest : (from : ℕ) → from ≤ length t → (r : Option ℕ) → IsFirstByte test (drop from t) r → IsFirst (Passes test t) from (length t) (option_map (λ i. from + i) r)
  first-of-rest from le None none = λ k lo hi pass.
      none (k - from) (omega arith) (omega (arith, length-drop from t)) (ap test (get_or-drop from t (k - from) 0) ∙ ap (λ i. test (slice_index t i)) (omega arith) ∙ pass)
  first-of-rest from le (Some i) found =
      let high = found.0.high in (
        record {
          low = omega arith;
          high = omega (arith, length-drop from t);
          before = λ k lo hi pass.
              found.0.before (k - from) (omega arith) (omega arith) (ap test (get_or-drop from t (k - from) 0) ∙ ap (λ i. test (slice_index t i)) (omega arith) ∙ pass);
        },
        ap test (sym (get_or-drop from t i 0)) ∙ found.1,
      )

  pub first_behind : (from : ℕ) → from ≤ length t → (r : Option ℕ) → IsFirstByte test (take (length t - from) (drop from t)) r → IsFirst (Passes test t) from (length t) (option_map (λ i. from + i) r)
  first_behind from le r found = grind (arith, nat_tests, common_steps, first-of-rest, length-drop, take_all)

-- ---- marks of another text, or of another test, that pass alike
pub alike : (test same : List ℕ → ℕ → Bool) (t u : List ℕ) (from to end m : ℕ) → ((p : ℕ) → p < to → same u p ≡ test t p)
    → AreMarks test t from to end m → AreMarks same u from to end m
alike test same t u from to end m is h = record {
  told = λ k low one. let was = h.told k low one in (was.0, was.1, is _ (omega (arith, was.1, was.0)) ∙ was.2);
  marked = λ p lo hi pass. h.marked p lo hi (sym (is p hi) ∙ pass);
}

module _ (test : List ℕ → ℕ → Bool) (t : List ℕ) where
  -- ---- one number

  -- the lanes of one load
  pub lanes-are : (at m : ℕ) → m < 65536 → ((k : ℕ) → k < 16 → bit_at m k ≡ cond (test t (at + k)) 1 0) → AreMarks test t at (at + 16) (at + 64) m
  lanes-are at m few bits = record { told = λ k low one. grind (arith, bits k, bit_at_above m 16 k few, cases_Bool (test t (at + k))); marked = λ p lo hi pass. grind (arith, bits (p - at)) }

  module _ (from to end m : ℕ) (h : AreMarks test t from to end m) where
    pub none : m ≡ 0 → Nowhere (PassesAt test t) from to
    none clear p lo hi pass = absurd (omega (arith, (h.marked p lo hi pass).2, ap (λ x. bit_at x (p + 64 - end)) clear, bit_at-zero (p + 64 - end)))

    -- moved up
    pub moved : (by less n : ℕ) → by + less ≡ end → to ≤ less → ((k : ℕ) → k < by → bit_at n k ≡ 0) → ((k : ℕ) → by ≤ k → k < 64 → bit_at n k ≡ bit_at m (k - by)) → AreMarks test t from to less n
    moved by less n is room below up = record { told = λ k low one. grind (arith, cases_lt k by, below k, up k, h.told (k - by)); marked = λ p lo hi pass. grind (arith, h.marked p lo hi pass, up (p + 64 - less)) }

    -- two stretches that meet are one
    pub joined : (start stop n : ℕ) → from ≤ start → start ≤ to → to ≤ stop → AreMarks test t start stop end n → AreMarks test t from stop end (bit_or m n)
    joined start stop n lo meet hi g = record {
      told = λ k low one. grind (arith, bit_at_or m n k, bit_at-lt m k, bit_at-lt n k, g.told k, h.told k);
      marked = λ p low high pass. grind (arith, cases_lt p to, bit_at_or m n (p + 64 - end), bit_at-lt m (p + 64 - end), bit_at-lt n (p + 64 - end), g.marked p, h.marked p);
    }

    -- ---- the other end of a walk moves over places that fail

    pub front-moved : (later : ℕ) → Nowhere (PassesAt test t) from later → Nowhere (PassesAt test t) later from → AreMarks test t later to end m
    front-moved later behind before = record { told = λ k low one. grind (arith, h.told k low one, behind (end + k - 64)); marked = λ p lo hi pass. grind (arith, cases_lt p from, before p, h.marked p) }

    pub back-moved : (earlier : ℕ) → Nowhere (PassesAt test t) earlier to → Nowhere (PassesAt test t) to earlier → AreMarks test t from earlier end m
    back-moved earlier before behind = record { told = λ k low one. grind (arith, h.told k low one, before (end + k - 64)); marked = λ p lo hi pass. grind (arith, cases_lt p to, behind p, h.marked p) }

    -- ---- the lowest mark
    module _ (r : ℕ) (low : IsLowest m r) where
      first : (from + 64 ≤ end + r) × (end + r < to + 64) × PassesAt test t (end + r - 64)
      first = h.told r low.bound low.set

      pub first-found : (stop : ℕ) → to ≤ stop → IsFirst (PassesAt test t) from stop (Some (end + r - 64))
      first-found stop le = grind (arith, nat_tests, common_steps)

      pub first-passed : (n : ℕ) → bit_at n r ≡ 0 → ((k : ℕ) → k ≢ r → bit_at n k ≡ bit_at m k) → AreMarks test t (end + r - 64 + 1) to end n
      first-passed n gone others = record {
        told = λ k bound one. grind (arith, first, others k, low.below k, h.told k bound);
        marked = λ p lo hi pass. grind (arith, first, others (p + 64 - end), h.marked p);
      }

    -- ---- the highest mark
    module _ (r : ℕ) (top : IsHighest m r) where
      last : (from + 64 ≤ end + r) × (end + r < to + 64) × PassesAt test t (end + r - 64)
      last = h.told r top.bound top.set

      pub last-found : IsLast (PassesAt test t) 0 to (Some (end + r - 64))
      last-found = grind (arith, nat_tests, common_steps)

      pub last-passed : (n : ℕ) → bit_at n r ≡ 0 → ((k : ℕ) → k ≢ r → bit_at n k ≡ bit_at m k) → AreMarks test t from (end + r - 64) end n
      last-passed n gone others = record {
        told = λ k bound one. grind (arith, last, others k, top.above k, h.told k bound);
        marked = λ p lo hi pass. grind (arith, last, others (p + 64 - end), h.marked p);
      }

  -- four loads without a mark
  pub all-clear : (at a b c d : ℕ) → AreMarks test t at (at + 16) (at + 64) a → AreMarks test t (at + 16) (at + 16 + 16) (at + 16 + 64) b
      → AreMarks test t (at + 32) (at + 32 + 16) (at + 32 + 64) c → AreMarks test t (at + 48) (at + 48 + 16) (at + 48 + 64) d
      → bit_or (bit_or a b) (bit_or c d) ≡ 0 → Nowhere (PassesAt test t) at (at + 64)
  all-clear at a b c d first second third fourth is p lo hi =
      let left = le_or_l (bit_or a b) (bit_or c d) in
      let right = le_or_r (bit_or a b) (bit_or c d) in
      ⊎_elim (λ (lt : p < at + 16). none at (at + 16) (at + 64) a first (omega (arith, is, left, le_or_l a b)) p lo lt) (λ (ge : at + 16 ≤ p).
      ⊎_elim (λ (lt : p < at + 16 + 16). none (at + 16) (at + 16 + 16) (at + 16 + 64) b second (omega (arith, is, left, le_or_r a b)) p ge lt) (λ (more : at + 16 + 16 ≤ p).
      ⊎_elim (λ (lt : p < at + 32 + 16). none (at + 32) (at + 32 + 16) (at + 32 + 64) c third (omega (arith, is, right, le_or_l c d)) p (omega arith) lt) (λ (most : at + 32 + 16 ≤ p).
      none (at + 48) (at + 48 + 16) (at + 48 + 64) d fourth (omega (arith, is, right, le_or_r c d)) p (omega arith) (omega arith))
      (cases_lt p (at + 32 + 16))) (cases_lt p (at + 16 + 16))) (cases_lt p (at + 16))

  -- ---- the windows of a walk

  module _ (from next m : ℕ) (h : Ahead test t from next m) where
    pub ahead-none : m ≡ 0 → Nowhere (PassesAt test t) from next
    ahead-none = none from next next m h.marks

    -- marks are read from `start` on
    module _ (clear : m ≡ 0) (start : ℕ) (le : next ≤ start) (fail : Nowhere (PassesAt test t) next start) where
      pub ahead-end : Nowhere (PassesAt test t) from start
      ahead-end k lo hi = ⊎_elim (λ (lt : k < next). ahead-none clear k lo lt) (λ (ge : next ≤ k). fail k ge hi) (cases_lt k next)

      pub ahead-loaded : (later n : ℕ) → start ≤ later → later ≤ length t → AreMarks test t start later later n → Ahead test t from later n
      ahead-loaded later n up within marks = record {
        within = within;
        beyond = λ k lo hi. h.beyond k (omega arith) hi;
        marks = front-moved start later later n marks from (λ k lo hi. h.beyond k (omega arith) hi) ahead-end;
      }

    module _ (r : ℕ) (low : IsLowest m r) where
      pub ahead-found : IsFirst (PassesAt test t) from (length t) (Some (next + r - 64))
      ahead-found = first-found from next next m h.marks r low (length t) h.within

      pub ahead-passed : (n : ℕ) → bit_at n r ≡ 0 → ((k : ℕ) → k ≢ r → bit_at n k ≡ bit_at m k) → Ahead test t (next + r - 64 + 1) next n
      ahead-passed n gone others = grind (arith, nat_tests, common_steps, first-passed)

    -- the walk goes on behind places that fail
    pub ahead-skipped : (later : ℕ) → from ≤ later → Nowhere (PassesAt test t) from later → Ahead test t later next m
    ahead-skipped later le fail = record { within = h.within; beyond = λ k lo hi. grind (arith, cases_lt k from, h.beyond k lo, fail k); marks = front-moved from next next m h.marks later fail (λ k lo hi. absurd (omega arith)) }

  module _ (to start m : ℕ) (h : Behind test t to start m) where
    pub behind-none : m ≡ 0 → Nowhere (PassesAt test t) start to
    behind-none = none start to (start + 64) m h.marks

    -- marks are read before `stop`
    module _ (clear : m ≡ 0) (stop : ℕ) (le : stop ≤ start) (fail : Nowhere (PassesAt test t) stop start) where
      pub behind-end : Nowhere (PassesAt test t) stop to
      behind-end k lo hi = ⊎_elim (λ (lt : k < start). fail k lo lt) (λ (ge : start ≤ k). behind-none clear k ge hi) (cases_lt k start)

      pub behind-loaded : (earlier n : ℕ) → earlier ≤ stop → AreMarks test t earlier stop (earlier + 64) n → Behind test t to earlier n
      behind-loaded earlier n down marks = record {
        within = (let within = h.within in omega arith);
        beyond = λ k lo hi. h.beyond k lo (omega arith);
        marks = back-moved earlier stop (earlier + 64) n marks to (λ k lo hi. h.beyond k lo (omega arith)) behind-end;
      }

    module _ (r : ℕ) (top : IsHighest m r) where
      here : start + 64 + r - 64 ≡ start + r
      here = omega arith

      pub behind-found : IsLast (PassesAt test t) 0 to (Some (start + r))
      behind-found = rw (← here) (last-found start to (start + 64) m h.marks r top)

      pub behind-passed : (n : ℕ) → bit_at n r ≡ 0 → ((k : ℕ) → k ≢ r → bit_at n k ≡ bit_at m k) → Behind test t (start + r) start n
      behind-passed n gone others = record { within = h.within; beyond = λ k lo hi. absurd (omega arith); marks = rw (← here) (last-passed start to (start + 64) m h.marks r top n gone others) }
