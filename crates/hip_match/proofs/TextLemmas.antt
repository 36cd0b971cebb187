-- Where memchr finds the bytes of a text, the text occurs.
use Rattle.std.proofs.Common.{◌≡◌, ℕ, ◌+◌, ◌-◌, ◌<◌, ◌≤◌, ⊎_elim, List, Option, Some, None, length, take, drop, arith, length-drop, length-take, length-take-le, get_or-drop, get_or-take, option_map, min, ap, sym, slice_index, ◌∙◌, take_all, add-zero, IsUtf8, IsCharBoundary}
use Rattle.std.proofs.lemmas.Bool.{cases_lt}
use Rattle.std.proofs.lemmas.List.{nil_from_length}
use Rattle.memchr.specs.Find.{OccursAt, FindsNeedle, FindsLastNeedle, IsFirst, IsLast, NoneAfter, NoneBefore, Nowhere}
use Rattle.memchr.proofs.lemmas.MatchLemmas.{OccursAt-part, OccursAt-from_part}
use Rattle.hip_match.specs.Occurrence.{EndsLast, IsLastMatch, IsNextMatch, StartsFirst, start_of}
use Rattle.hip_match.specs.Marks.{PassesAt, stands}
use Rattle.hip_match.specs.Needles.{bytes_of, reach_of}
use Rattle.hip_match.specs.Searchers.{IsPart}
use Rattle.hip_match.specs.declared.texts.Part.{Part}
use Rattle.hip_match.specs.Texts.{text_ends}
use Rattle.hip_match.specs.TextLaws.{text_ends-some, text_ends-is, text_ends-one_start, Stands-boundaries}
use Rattle.hip_match.proofs.NeedleLemmas.{occurs-stands, reach_is, stands-occurs}
use Rattle.hip_match.proofs.OccurrenceLemmas.{option_cases}
use Rattle.hip_match.proofs.RightmostLemmas.{start_among-found, start_among-none}

-- the slice from a place to the end
pub rest_slice : (t : List ℕ) (from : ℕ) → take (length t - from) (drop from t) ≡ drop from t
rest_slice t from = take_all _ _ (omega (arith, length-drop from t))

-- ---- occurrences in a part of the text

module _ (t p : List ℕ) where
  pub OccursAt-drop : (from k : ℕ) → from ≤ length t → OccursAt (drop from t) p k → OccursAt t p (from + k)
  OccursAt-drop from k le h = grind (arith, get_or-drop, length-drop)

  pub OccursAt-in_drop : (from k : ℕ) → from ≤ k → OccursAt t p k → OccursAt (drop from t) p (k - from)
  OccursAt-in_drop from k le h = grind (arith, get_or-drop, length-drop)

  pub OccursAt-take : (to k : ℕ) → to ≤ length t → OccursAt (take to t) p k → OccursAt t p k × (k + length p ≤ to)
  OccursAt-take to k le h = grind (arith, get_or-take, length-take-le)

  pub OccursAt-in_take : (to k : ℕ) → to ≤ length t → k + length p ≤ to → OccursAt t p k → OccursAt (take to t) p k
  OccursAt-in_take to k le fits h = grind (arith, length-take-le, get_or-take)

  -- ---- the places where a part of it stands

  -- the part of each occurrence that ends at or before `to` stands before `stop`
  abbrev pub PartBefore : ℕ → ℕ → ℕ → Type 0
  PartBefore lead to stop = (k : ℕ) → OccursAt t p k → k < to - (length p - 1) → k + lead < stop

  cut-reads : (n lead j : ℕ) → j < length (take n (drop lead p)) → slice_index (take n (drop lead p)) j ≡ slice_index p (lead + j)
  cut-reads n lead j lt = grind (arith, get_or-take, get_or-drop, length-take, length-drop)

  module _ (part : Part) (is : IsPart p part) where
    abbrev Here : ℕ → Type 0
    Here = PassesAt (stands (bytes_of part.needle)) t

    part-stands : (k : ℕ) → OccursAt t p k → Here (k + part.lead)
    part-stands k h = rw is.1 (occurs-stands (take 4 (drop part.lead p)) t _ (record {
      fits = (let fits = h.fits in omega (arith, length-take 4 (drop part.lead p), length-drop part.lead p, is.0));
      reads = λ j lt. ap (slice_index t) (omega arith) ∙ h.reads (part.lead + j) (omega (arith, lt, length-take 4 (drop part.lead p), length-drop part.lead p)) ∙ sym (cut-reads 4 part.lead j lt);
    }))

    pub whole : (at : ℕ) → length p ≡ reach_of part.needle + 1 → Here at → (part.lead ≤ at) × OccursAt t p (at - part.lead)
    whole at wide here =
        let none : part.lead ≡ 0 = omega (arith, wide, reach_is part.needle _ is.1, length-take 4 (drop part.lead p), length-drop part.lead p) in
        let all : bytes_of part.needle ≡ p = is.1 ∙ ap (λ n. take 4 (drop n p)) none ∙ take_all 4 p (omega (arith, wide, reach_is part.needle _ is.1, length-take 4 (drop part.lead p))) in
        let same : at - part.lead ≡ at = omega (arith, none) in
        (omega (arith, none), rw same (rw all at (stands-occurs (bytes_of part.needle) t at here)))

    -- from the front, where p is nowhere before `past`
    module _ (from past : ℕ) (before : Nowhere (OccursAt t p) from past) where
      pub front-none : Nowhere Here (min (length t) (past + part.lead)) (length t) → Nowhere (OccursAt t p) from (length t)
      front-none none k lo hi h = ⊎_elim (λ (lt : k < past). before k lo lt h) (λ (ge : past ≤ k). none (k + part.lead) (omega arith) (let fits = h.fits in omega (arith, is.0)) (part-stands k h)) (cases_lt k past)

      module _ (at : ℕ) (found : NoneBefore Here (min (length t) (past + part.lead)) (length t) at) where
        pub front-room : past + part.lead ≤ at
        front-room = let low = found.low in let high = found.high in omega (arith, low, high)

        front-before : Nowhere (OccursAt t p) from (at - part.lead)
        front-before k lo hi h = ⊎_elim (λ (lt : k < past). before k lo lt h) (λ (ge : past ≤ k). found.before (k + part.lead) (omega arith) (omega arith) (part-stands k h)) (cases_lt k past)

        pub front-tried : ¬ ((part.lead ≤ at) × OccursAt t p (at - part.lead)) → Nowhere (OccursAt t p) from (at - part.lead + 1)
        front-tried off k lo hi h =
            ⊎_elim (λ (lt : k < at - part.lead). front-before k lo lt h) (λ (ge : at - part.lead ≤ k). (let same : k ≡ at - part.lead = omega arith in off (omega (arith, front-room), rw same at h))) (cases_lt k (at - part.lead))

        pub front-whole : from ≤ past → OccursAt t p (at - part.lead) → IsFirst (OccursAt t p) from (length t) (Some (at - part.lead))
        front-whole le here = (record { low = omega (arith, front-room); high = (let high = found.high in omega (arith, high)); before = front-before }, here)

      pub front-found : (r : Option ℕ) → 0 < length p → from ≤ past → past ≤ length t → FindsNeedle (drop past t) p 0 r → IsFirst (OccursAt t p) from (length t) (option_map (λ i. past + i) r)
      front-found None some le room none = λ k lo hi h. grind (arith, cases_lt k past, before k, h.fits, length-drop past t, OccursAt-in_drop past k, none (k - past))
      front-found (Some i) some le room next =
          let here = OccursAt-drop past i room next.1 in
          let none : Nowhere (OccursAt t p) from (past + i) =
          λ k lo hi h. grind (arith, cases_lt k past, before k, OccursAt-in_drop past k, next.0.before (k - past)) in
          (record { low = omega arith; high = omega (arith, here.fits); before = none }, here)

    pub back-all : (to : ℕ) → PartBefore part.lead to (to - (length p - 1 - part.lead))
    back-all to k h lt = omega (arith, is.0)

    module _ (to stop : ℕ) (before : PartBefore part.lead to stop) where
      pub back-none : Nowhere Here 0 stop → Nowhere (OccursAt t p) 0 (to - (length p - 1))
      back-none none k lo hi h = none _ (omega arith) (before k h hi) (part-stands k h)

      module _ (at : ℕ) (found : NoneAfter Here 0 stop at) where
        late : (k : ℕ) → OccursAt t p k → k < to - (length p - 1) → k + part.lead ≤ at
        late k h lt = ⊎_elim (λ (over : at < k + part.lead). absurd (found.after _ (omega arith) (before k h lt) (part-stands k h))) (λ (le : k + part.lead ≤ at). le) (cases_lt at (k + part.lead))

        pub back-tried : ¬ ((part.lead ≤ at) × OccursAt t p (at - part.lead)) → PartBefore part.lead to at
        back-tried off k h lt =
            ⊎_elim (λ (less : k + part.lead < at). less) (λ (ge : at ≤ k + part.lead). (let same : k ≡ at - part.lead = omega (arith, late k h lt) in absurd (off (omega (arith, late k h lt), rw same at h)))) (cases_lt (k + part.lead) at)

        pub back-whole : stop ≤ to - (length p - 1 - part.lead) → (part.lead ≤ at) × OccursAt t p (at - part.lead) → IsLast (OccursAt t p) 0 (to - (length p - 1)) (Some (at - part.lead))
        back-whole bound here = (record { low = omega arith; high = (let high = found.high in omega (arith, here.0, is.0)); after = λ k lo hi h. absurd (omega (arith, late k h hi)) }, here.1)

      pub back-found : (end : ℕ) (r : Option ℕ) → stop ≤ to - (length p - 1 - part.lead) → end ≤ length t → end ≤ stop + (length p - 1 - part.lead) → ((k : ℕ) → k ≤ length t → k ≤ stop + (length p - 1 - part.lead) → k ≤ end) → FindsLastNeedle (take end t) p r → IsLast (OccursAt t p) 0 (to - (length p - 1)) r
      back-found end None bound room le least none = λ k lo hi h. none k lo (let fits = h.fits in omega (arith, least (k + length p) fits (omega (arith, before k h hi, is.0)), length-take-le end t room)) (OccursAt-in_take end k room (least (k + length p) h.fits (omega (arith, before k h hi, is.0))) h)
      back-found end (Some i) bound room le least next =
          let here = OccursAt-take end i room next.1 in
          (record { low = omega arith; high = omega (arith, here.1, is.0); after = λ k lo hi h. next.0.after k lo (let fits = h.fits in omega (arith, least (k + length p) fits (omega (arith, before k h hi, is.0)), length-take-le end t room)) (OccursAt-in_take end k room (least (k + length p) h.fits (omega (arith, before k h hi, is.0))) h) }, here.0)

  pub text_ends-occurs : (a b : ℕ) → text_ends p t a ≡ Some b → OccursAt t p a × (b ≡ a + length p)
  text_ends-occurs a b is = grind (arith, text_ends-is p t a b is, OccursAt-from_part)

  module _ (own : IsUtf8 p) (utf8 : IsUtf8 t) where
    pub occurs-text_ends : (a : ℕ) → 0 < length p → OccursAt t p a → text_ends p t a ≡ Some (a + length p)
    occurs-text_ends a some h = grind (arith, OccursAt-part, Stands-boundaries, text_ends-some)

    -- where its bytes stand it occurs, from the front and from the back
    pub next_match : (from : ℕ) → 0 < length p → (r : Option ℕ) → IsFirst (OccursAt t p) from (length t) r → IsNextMatch (text_ends p t) from (option_map (λ k. (k, k + length p)) r)
    next_match from some None none = λ k lo. option_cases (text_ends p t k) (λ empty. empty) (λ b is. let h = (text_ends-occurs k b is).0 in absurd (none k lo (omega (arith, h.fits)) h))
    next_match from some (Some k) found = record {
      after = found.0.low;
      occurs = occurs-text_ends k some found.1;
      first = λ j lo hi. option_cases (text_ends p t j) (λ empty. empty) (λ b is. absurd (found.0.before j lo hi (text_ends-occurs j b is).0));
    }

    pub last_match : (to : ℕ) → 0 < length p → (r : Option ℕ) → IsLast (OccursAt t p) 0 (to - (length p - 1)) r → IsLastMatch (text_ends p t) to (option_map (λ k. (k, k + length p)) r)
    last_match to some None none = λ a b is.
        let h = text_ends-occurs a b is in
        ⊎_elim (λ (lt : to < b). lt) (λ (ge : b ≤ to). absurd (none a (omega arith) (omega (arith, h.1)) h.0)) (cases_lt to b)
    last_match to some (Some k) found = record {
      before = (let high = found.0.high in omega arith);
      occurs = occurs-text_ends k some found.1;
      last = λ a b is lt.
          let h = text_ends-occurs a b is in
          ⊎_elim (λ (over : to < b). over) (λ (ge : b ≤ to). absurd (found.0.after a (omega (arith, h.1)) (omega (arith, h.1)) h.0)) (cases_lt to b);
    }

    -- an empty text occurs at once
    empty_text : (a : ℕ) → length p ≡ 0 → IsCharBoundary t a → text_ends p t a ≡ Some a
    empty_text a empty cut = grind (arith, nil_from_length, text_ends-some)

    pub find_empty : (from : ℕ) → length p ≡ 0 → IsCharBoundary t from → StartsFirst (text_ends p t) from (from, from)
    find_empty from empty cut = grind (arith, empty_text)

    pub rfind_empty : (to : ℕ) → length p ≡ 0 → IsCharBoundary t to → EndsLast (text_ends p t) to (to, to)
    rfind_empty to empty cut = grind (arith, empty_text)

    -- at one place
    pub text_at-yes : (a : ℕ) → IsCharBoundary t a → OccursAt (drop a t) p 0 → text_ends p t a ≡ Some (a + length p)
    text_at-yes a cut h = grind (arith, add-zero a, OccursAt-drop a 0, empty_text, occurs-text_ends)

    pub text_at-no : (a : ℕ) → ¬ OccursAt (drop a t) p 0 → text_ends p t a ≡ None
    text_at-no a off = option_cases (text_ends p t a) (λ empty. empty) (λ b is. grind (arith, OccursAt-in_drop a a, text_ends-occurs a b is))

    pub text_before-yes : (to : ℕ) → IsCharBoundary t to → length p ≤ length (take to t) → OccursAt (take to t) p (length (take to t) - length p) → start_of (text_ends p t) to ≡ Some (to - length p)
    text_before-yes to cut short h =
        let size = length-take-le to t cut.0 in
        let found = OccursAt-take to _ cut.0 h in
        let at : length (take to t) - length p ≡ to - length p = omega (arith, size) in
        let here : text_ends p t (to - length p) ≡ Some to = grind (arith, occurs-text_ends, empty_text, cases_lt) in
        start_among-found (text_ends p t) 0 (to + 1) to (to - length p) (λ b c first second. text_ends-one_start p t b c to utf8 first second) (omega arith) (omega arith) here

    pub text_before-no : (to : ℕ) → IsCharBoundary t to → ¬ ((length p ≤ length (take to t)) × OccursAt (take to t) p (length (take to t) - length p)) → start_of (text_ends p t) to ≡ None
    text_before-no to cut off =
        start_among-none (text_ends p t) 0 (to + 1) to (λ a lo hi is.
        grind (arith, text_ends-occurs a to is, length-take-le to t cut.0, OccursAt-in_take to a cut.0))
