-- Texts that are cut at an occurrence of another: the parts, joined with it, are the text.
use Rattle.std.proofs.Common.{◌≡◌, ◌∙◌, ℕ, ◌+◌, ◌-◌, ◌<◌, ◌≤◌, ◌⊎◌, inl, inr, ◌==◌, List, [], ◌∷◌, ◌++◌, Option, None, Some, Result, Ok, Err, IsUtf8, encode_utf8, length, drop, take, arith, ap, subst, sym, refl, drop-drop, length-append, length-take-le, take-append-drop}
use Rattle.std.proofs.{Math.Nat.min-le_left, Math.Seq.drop-append_seam, Math.Seq.take-append_seam}
use Rattle.std.proofs.lemmas.Bool.Decides.{nat_tests}
use Rattle.std.proofs.lemmas.Option.{none-some}
use Rattle.std.proofs.lemmas.{List.append-nil, List.drop_all, List.drop_more, List.take_all}
use Rattle.std.proofs.lemmas.Str.{IsCharBoundary-at_seam, IsCharBoundary-end, IsCharBoundary-from_take, IsCharBoundary-start, IsUtf8-encode}
use Rattle.std.specs.{Char.IsScalar, Option.option_map, Str.IsCharBoundary, Prelude.slice_index, Prelude.slice_range}
use Rattle.hip_text.specs.Handle.{Handle}
use Rattle.hip_match.specs.{Bytes.byte_ends, Characters.char_ends, Leftmost.IsListed, Leftmost.leftmost, Occurrence.start_of, Rightmost.EndInOrder, Rightmost.EndsWithin, Rightmost.IsRightmost, Rightmost.place_before, Rightmost.rightmost, Texts.text_ends}
use Rattle.hip_match.specs.TextLaws.{text_ends-is, text_ends-one_start, text_ends-some}
use Rattle.hip_match.specs.Trims.{cut_at_first, rsplit_once, split_once, strip_prefix, strip_suffix}
use Rattle.hip_match.proofs.{GapLemmas.byte-is, GapLemmas.byte-some, CharTextLemmas.same_ends, OccurrenceLemmas.option_cases, RightLawLemmas.rightmost-is, TextLemmas.rest_slice, TrimLemmas.start_of-is, TrimLemmas.start_of-one}
use Rattle.hip_match.proofs.PartedLemmas.{IsParted-first, Lacks-none, byte_first, byte_nowhere}
use Rattle.hip_cuts.proofs.Lines.{part-byte}
use Rattle.hip_cuts.specs.Cut.{LacksByte, OnceAnswers, PartIfAny, PartedAs, PartedAtByte, PartedAtLastByte, PartedLastAs, PartsIfAny, StripAnswers, StrippedBack, StrippedFront}

parted : {E : Type 0} (p t : List ℕ) (found : List (ℕ × ℕ)) (source : Handle) (result : Result (Option (Handle × Handle)) E) → leftmost (text_ends p t) (length t) ≡ found
    → source.items ≡ t → PartsIfAny (λ part. part) (cut_at_first found (length t)) source result → PartedAs p t result
parted p t [] source (Ok None) found same answers = Lacks-none p t found
parted p t [] source (Ok (Some parts)) found same answers = cc
parted p t [] source (Err error) found same answers = tt
parted p t (m ∷ ms) source (Ok (Some parts)) found same answers =
    IsParted-first p t m ms parts.0.items parts.1.items found
    (answers.0.items_are ∙ ap (λ l. slice_range l 0 m.0) same) (answers.1.items_are ∙ ap (λ l. slice_range l m.1 (length t)) same)
parted p t (m ∷ ms) source (Ok None) found same answers = absurd answers
parted p t (m ∷ ms) source (Err error) found same answers = tt

pub parted_once : {E : Type 0} (p t : List ℕ) (source : Handle) (result : Result (Option (Handle × Handle)) E) → source.items ≡ t
    → OnceAnswers (λ part. part) split_once (text_ends p) source result → PartedAs p t result
parted_once p t source result same answers =
    parted p t (leftmost (text_ends p t) (length t)) source result refl same
    (subst (λ (l : List ℕ). PartsIfAny (λ part. part) (split_once (text_ends p l) (length l)) source result) same answers)

-- a text is what lies before an occurrence, the occurrence, and what lies behind it
module _ (p t : List ℕ) (a b : ℕ) (occurs : text_ends p t a ≡ Some b) where
  pub joined-at : t ≡ slice_range t 0 a ++ (p ++ slice_range t b (length t))
  joined-at =
      let at = text_ends-is p t a b occurs in
      let behind : drop (length p) (drop a t) ≡ slice_range t b (length t) = drop-drop (length p) a t ∙ ap (λ n. drop n t) (omega (arith, at.3)) ∙ sym (rest_slice t b) in
      let rest : drop a t ≡ p ++ slice_range t b (length t) =
      sym (take-append-drop (length p) (drop a t)) ∙ ap (λ l. l ++ drop (length p) (drop a t)) at.2 ∙ ap (λ l. p ++ l) behind in
      let front : take a t ≡ slice_range t 0 a = ap (λ n. take n t) (omega arith) in
      sym (take-append-drop a t) ∙ ap (λ l. l ++ drop a t) front ∙ ap (λ l. slice_range t 0 a ++ l) rest

-- an occurrence at the front, and one at the end
front-at : (p t rest : List ℕ) → IsUtf8 p → IsUtf8 t → t ≡ p ++ rest → text_ends p t 0 ≡ Some (length p)
front-at p t rest p_utf8 utf8 is =
    let front : take (length p) t ≡ p = ap (take (length p)) is ∙ take-append_seam p rest in
    let none_before : length p ≡ 0 + length p = omega arith in
    text_ends-some p t 0 (IsCharBoundary-start t utf8)
    (subst (IsCharBoundary t) none_before (IsCharBoundary-from_take t (length p) utf8 (omega (arith, ap length is, length-append p rest)) (subst IsUtf8 (sym front) p_utf8))) front
    ∙ ap (λ n. Some n) (sym none_before)

back-at : (p t front : List ℕ) → IsUtf8 p → IsUtf8 t → t ≡ front ++ p → text_ends p t (length front) ≡ Some (length t)
back-at p t front p_utf8 utf8 is =
    let size : length t ≡ length front + length p = ap length is ∙ length-append front p in
    let stands : take (length p) (drop (length front) t) ≡ p = ap (λ l. take (length p) (drop (length front) l)) is ∙ ap (take (length p)) (drop-append_seam front p) ∙ take_all (length p) p (omega arith) in
    text_ends-some p t (length front) (IsCharBoundary-at_seam t front p is p_utf8) (subst (IsCharBoundary t) size (IsCharBoundary-end t)) stands
    ∙ ap (λ n. Some n) (sym size)

module _ {E : Type 0} (p t : List ℕ) (source : Handle) (same : source.items ≡ t) where
  front-by : (end : Option ℕ) → text_ends p t 0 ≡ end → IsUtf8 p → IsUtf8 t → (result : Result (Option Handle) E)
      → PartIfAny (λ part. part) (option_map (λ b. (b, length t)) end) source result → StrippedFront p t result
  front-by end is p_utf8 utf8 (Err error) answers = tt
  front-by None none p_utf8 utf8 (Ok None) answers = λ rest joined. let clash = sym none ∙ front-at p t rest p_utf8 utf8 joined in absurd (cc)
  front-by None none p_utf8 utf8 (Ok (Some part)) answers = cc
  front-by (Some b) some p_utf8 utf8 (Ok None) answers = absurd answers
  front-by (Some b) some p_utf8 utf8 (Ok (Some part)) answers =
      joined-at p t 0 b some ∙ ap (λ l. p ++ l) (sym (answers.items_are ∙ ap (λ l. slice_range l b (length t)) same))

  back-by : (start : Option ℕ) → start_of (text_ends p t) (length t) ≡ start → IsUtf8 p → IsUtf8 t → (result : Result (Option Handle) E)
      → PartIfAny (λ part. part) (option_map (λ a. (0, a)) start) source result → StrippedBack p t result
  back-by start is p_utf8 utf8 (Err error) answers = tt
  back-by None none p_utf8 utf8 (Ok None) answers = λ front joined.
      let clash = sym none ∙ start_of-one (text_ends p t) (length t) (length front) (λ b c d first second. text_ends-one_start p t b c d utf8 first second)
      (λ k m is. omega (arith, (text_ends-is p t k m is).3)) (back-at p t front p_utf8 utf8 joined) in absurd (cc)
  back-by None none p_utf8 utf8 (Ok (Some part)) answers = cc
  back-by (Some a) some p_utf8 utf8 (Ok None) answers = absurd answers
  back-by (Some a) some p_utf8 utf8 (Ok (Some part)) answers =
      let behind : slice_range t (length t) (length t) ≡ [] = rest_slice t (length t) ∙ drop_all (length t) t (omega arith) in
      joined-at p t a (length t) (start_of-is (text_ends p t) (length t) a some)
      ∙ ap (λ l. slice_range t 0 a ++ (p ++ l)) behind ∙ ap (λ l. slice_range t 0 a ++ l) (append-nil p)
      ∙ ap (λ l. l ++ p) (sym (answers.items_are ∙ ap (λ l. slice_range l 0 a) same))

pub stripped_front : {E : Type 0} (p t : List ℕ) (source : Handle) (result : Result (Option Handle) E) → IsUtf8 p → IsUtf8 t → source.items ≡ t
    → StripAnswers (λ part. part) strip_prefix (text_ends p) source result → StrippedFront p t result
stripped_front p t source result p_utf8 utf8 same answers =
    front-by p t source same (text_ends p t 0) refl p_utf8 utf8 result
    (subst (λ (l : List ℕ). PartIfAny (λ part. part) (strip_prefix (text_ends p l) (length l)) source result) same answers)

pub stripped_back : {E : Type 0} (p t : List ℕ) (source : Handle) (result : Result (Option Handle) E) → IsUtf8 p → IsUtf8 t → source.items ≡ t
    → StripAnswers (λ part. part) strip_suffix (text_ends p) source result → StrippedBack p t result
stripped_back p t source result p_utf8 utf8 same answers =
    back-by p t source same (start_of (text_ends p t) (length t)) refl p_utf8 utf8 result
    (subst (λ (l : List ℕ). PartIfAny (λ part. part) (strip_suffix (text_ends p l) (length l)) source result) same answers)

-- nothing that is listed behind the rightmost occurrence ends where another would that starts behind it
later-end : (l : List (ℕ × ℕ)) (below a b : ℕ) → EndInOrder below l → below ≤ b → IsListed a b l ⊎ EndsWithin b l → ⊥
later-end [] below a b order past (inl never) = never
later-end [] below a b order past (inr never) = never
later-end (r ∷ rs) below a b order past (inl (inl is)) = omega (arith, order.0, is.1)
later-end (r ∷ rs) below a b order past (inr (inl within)) = omega (arith, order.0, within.1)
later-end (r ∷ rs) below a b order past (inl (inr listed)) = later-end rs (place_before r) a b order.1 (omega (arith, order.0, min-le_left r.1 (r.0 + 1))) (inl listed)
later-end (r ∷ rs) below a b order past (inr (inr within)) = later-end rs (place_before r) a b order.1 (omega (arith, order.0, min-le_left r.1 (r.0 + 1))) (inr within)

spans : (p t : List ℕ) (a b : ℕ) → text_ends p t a ≡ Some b → (a ≤ b) × (b ≤ length t)
spans p t a b is = let at = text_ends-is p t a b is in (omega (arith, at.3), omega (arith, at.3, at.1.0))

none-listed : (a b : ℕ) → IsListed a b [] ⊎ EndsWithin b [] → ⊥
none-listed a b (inl never) = never
none-listed a b (inr never) = never

-- where a later start has a later end, none starts behind the first that is listed from the back
module _ (e : ℕ → Option ℕ) (n : ℕ) (rise : (a b c d : ℕ) → e a ≡ Some b → e c ≡ Some d → a < c → b < d) where
  by-place : (k b : ℕ) (m : ℕ × ℕ) (ms : List (ℕ × ℕ)) → EndInOrder (place_before m) ms → m.0 < k → m.1 < b → IsListed k b (m ∷ ms) ⊎ EndsWithin b (m ∷ ms) → ⊥
  by-place k b m ms order behind later (inl (inl listed)) = omega (arith, behind, listed.0)
  by-place k b m ms order behind later (inr (inl within)) = omega (arith, later, within.1)
  by-place k b m ms order behind later (inl (inr listed)) = later-end ms (place_before m) k b order (omega (arith, later, min-le_left m.1 (m.0 + 1))) (inl listed)
  by-place k b m ms order behind later (inr (inr within)) = later-end ms (place_before m) k b order (omega (arith, later, min-le_left m.1 (m.0 + 1))) (inr within)

  none-behind : (k b : ℕ) (m : ℕ × ℕ) (ms : List (ℕ × ℕ)) → IsRightmost e (n + 1) (m ∷ ms) → e m.0 ≡ Some m.1 → m.0 < k → b ≤ n → e k ≡ Some b → ⊥
  none-behind k b m ms right occurs behind within is =
      by-place k b m ms right.in_order.1 behind (rise m.0 m.1 k b occurs is behind) (right.no_other k b is (omega (arith, within)))

module _ {E : Type 0} (p t : List ℕ) (source : Handle) (same : source.items ≡ t) where
  last-by : (found : List (ℕ × ℕ)) → IsRightmost (text_ends p t) (length t + 1) found → (result : Result (Option (Handle × Handle)) E)
      → PartsIfAny (λ part. part) (cut_at_first found (length t)) source result → PartedLastAs p t result
  last-by found right (Err error) answers = tt
  last-by [] right (Ok None) answers = λ k. option_cases (text_ends p t k) (λ none. none)
      (λ b is. absurd (none-listed k b (right.no_other k b is (omega (arith, (spans p t k b is).1)))))
  last-by [] right (Ok (Some parts)) answers = cc
  last-by (m ∷ ms) right (Ok None) answers = absurd answers
  last-by (m ∷ ms) right (Ok (Some parts)) answers =
      let occurs = right.occur.0 in
      let front_is : parts.0.items ≡ slice_range t 0 m.0 = answers.0.items_are ∙ ap (λ l. slice_range l 0 m.0) same in
      let back_is : parts.1.items ≡ slice_range t m.1 (length t) = answers.1.items_are ∙ ap (λ l. slice_range l m.1 (length t)) same in
      let long : length parts.0.items ≡ m.0 =
      let size = length-take-le (m.0 - 0) t (omega (arith, (spans p t m.0 m.1 occurs).0, (spans p t m.0 m.1 occurs).1)) in omega (arith, ap length front_is, size) in
      record {
        joined = joined-at p t m.0 m.1 occurs ∙ ap (λ l. l ++ (p ++ slice_range t m.1 (length t))) (sym front_is) ∙ ap (λ l. parts.0.items ++ (p ++ l)) (sym back_is);
        last = λ k behind. option_cases (text_ends p t k) (λ none. none) (λ b is. absurd (none-behind (text_ends p t) (length t) (λ a b c d first second lt. omega (arith, lt, (text_ends-is p t a b first).3, (text_ends-is p t c d second).3)) k b m ms right occurs (omega (arith, long, behind)) (spans p t k b is).1 is));
      }

pub parted_last : {E : Type 0} (p t : List ℕ) (source : Handle) (result : Result (Option (Handle × Handle)) E) → IsUtf8 t → source.items ≡ t
    → OnceAnswers (λ part. part) rsplit_once (text_ends p) source result → PartedLastAs p t result
parted_last p t source result utf8 same answers =
    last-by p t source same (rightmost (text_ends p t) (length t))
    (rightmost-is (text_ends p t) (length t) (spans p t) (λ a b c first second. text_ends-one_start p t a b c utf8 first second)) result
    (subst (λ (l : List ℕ). PartsIfAny (λ part. part) (rsplit_once (text_ends p l) (length l)) source result) same answers)

-- by a character, which occurs where its UTF-8 does
at-source : (c : ℕ) (t : List ℕ) (source : Handle) → IsScalar c → IsUtf8 t → source.items ≡ t → text_ends (encode_utf8 c) source.items ≡ char_ends (λ d. d == c) source.items
at-source c t source good utf8 same = ap (λ (l : List ℕ). text_ends (encode_utf8 c) l) same ∙ same_ends c t good utf8 ∙ ap (λ (l : List ℕ). char_ends (λ d. d == c) l) (sym same)

module _ {E : Type 0} (c : ℕ) (t : List ℕ) (source : Handle) (good : IsScalar c) (utf8 : IsUtf8 t) (same : source.items ≡ t) where
  pub parted_once_char : (result : Result (Option (Handle × Handle)) E) → OnceAnswers (λ part. part) split_once (char_ends (λ d. d == c)) source result → PartedAs (encode_utf8 c) t result
  parted_once_char result answers =
      parted_once (encode_utf8 c) t source result same
      (subst (λ (ends : ℕ → Option ℕ). PartsIfAny (λ part. part) (split_once ends (length source.items)) source result) (sym (at-source c t source good utf8 same)) answers)

  pub parted_last_char : (result : Result (Option (Handle × Handle)) E) → OnceAnswers (λ part. part) rsplit_once (char_ends (λ d. d == c)) source result → PartedLastAs (encode_utf8 c) t result
  parted_last_char result answers =
      parted_last (encode_utf8 c) t source result utf8 same
      (subst (λ (ends : ℕ → Option ℕ). PartsIfAny (λ part. part) (rsplit_once ends (length source.items)) source result) (sym (at-source c t source good utf8 same)) answers)

  pub stripped_front_char : (result : Result (Option Handle) E) → StripAnswers (λ part. part) strip_prefix (char_ends (λ d. d == c)) source result → StrippedFront (encode_utf8 c) t result
  stripped_front_char result answers =
      stripped_front (encode_utf8 c) t source result (IsUtf8-encode c good) utf8 same
      (subst (λ (ends : ℕ → Option ℕ). PartIfAny (λ part. part) (strip_prefix ends (length source.items)) source result) (sym (at-source c t source good utf8 same)) answers)

  pub stripped_back_char : (result : Result (Option Handle) E) → StripAnswers (λ part. part) strip_suffix (char_ends (λ d. d == c)) source result → StrippedBack (encode_utf8 c) t result
  stripped_back_char result answers =
      stripped_back (encode_utf8 c) t source result (IsUtf8-encode c good) utf8 same
      (subst (λ (ends : ℕ → Option ℕ). PartIfAny (λ part. part) (strip_suffix ends (length source.items)) source result) (sym (at-source c t source good utf8 same)) answers)

-- ---- bytes that are cut at a byte

module _ (byte : ℕ) (t : List ℕ) where
  abbrev at_byte : ℕ → Option ℕ
  at_byte = byte_ends (λ b. b == byte) t

  stands : (a b : ℕ) → at_byte a ≡ Some b → (a < length t) × (slice_index t a ≡ byte) × (b ≡ a + 1)
  stands a b is = let at = byte-is (λ b. b == byte) t a b is in (at.0, (grind (arith, nat_tests, at.1)), at.2)

  misses : (k : ℕ) → at_byte k ≡ None → k < length t → slice_index t k ≡ byte → ⊥
  misses k none lt is = none-some (k + 1) (sym none ∙ byte-some (λ b. b == byte) t k lt (grind (arith, nat_tests, is)))

  joined-byte : (a b : ℕ) → at_byte a ≡ Some b → t ≡ slice_range t 0 a ++ byte ∷ slice_range t b (length t)
  joined-byte a b is =
      let at = stands a b is in
      let rest : drop a t ≡ byte ∷ slice_range t b (length t) =
      drop_more t a 0 at.0 ∙ ap (λ x. x ∷ drop (a + 1) t) at.1 ∙ ap (λ n. byte ∷ drop n t) (sym at.2) ∙ ap (λ l. byte ∷ l) (sym (rest_slice t b)) in
      sym (take-append-drop a t) ∙ ap (λ n. take n t ++ drop a t) (omega arith) ∙ ap (λ l. slice_range t 0 a ++ l) rest

  lacks-in : (i j : ℕ) → j ≤ length t → ((k : ℕ) → i ≤ k → k < j → at_byte k ≡ None) → LacksByte byte (slice_range t i j)
  lacks-in i j fits none k lt is =
      let at = part-byte t i j k fits lt in
      misses (i + k) (none (i + k) (omega arith) at.1) (omega (arith, at.1)) (sym at.0 ∙ is)

  module _ {E : Type 0} (source : Handle) (same : source.items ≡ t) where
    at-byte : (found : List (ℕ × ℕ)) → leftmost at_byte (length t) ≡ found → (result : Result (Option (Handle × Handle)) E)
        → PartsIfAny (λ part. part) (cut_at_first found (length t)) source result → PartedAtByte byte t result
    at-byte found is (Err error) answers = tt
    at-byte [] is (Ok None) answers = λ k lt here. misses k (byte_nowhere (λ b. b == byte) t is k) lt here
    at-byte [] is (Ok (Some parts)) answers = cc
    at-byte (m ∷ ms) is (Ok None) answers = absurd answers
    at-byte (m ∷ ms) is (Ok (Some parts)) answers =
        let first = byte_first (λ b. b == byte) t m ms is in
        let front_is : parts.0.items ≡ slice_range t 0 m.0 = answers.0.items_are ∙ ap (λ l. slice_range l 0 m.0) same in
        let back_is : parts.1.items ≡ slice_range t m.1 (length t) = answers.1.items_are ∙ ap (λ l. slice_range l m.1 (length t)) same in (
          joined-byte m.0 m.1 first.occurs ∙ ap (λ l. l ++ byte ∷ slice_range t m.1 (length t)) (sym front_is) ∙ ap (λ l. parts.0.items ++ byte ∷ l) (sym back_is),
          subst (LacksByte byte) (sym front_is) (lacks-in 0 m.0 (omega (arith, (stands m.0 m.1 first.occurs).0)) first.first),
        )

    pub parted_at_byte : (result : Result (Option (Handle × Handle)) E) → OnceAnswers (λ part. part) split_once (byte_ends (λ b. b == byte)) source result → PartedAtByte byte t result
    parted_at_byte result answers =
        at-byte (leftmost at_byte (length t)) refl result
        (subst (λ (l : List ℕ). PartsIfAny (λ part. part) (split_once (byte_ends (λ b. b == byte) l) (length l)) source result) same answers)

    at-last-byte : (found : List (ℕ × ℕ)) → IsRightmost at_byte (length t + 1) found → (result : Result (Option (Handle × Handle)) E)
        → PartsIfAny (λ part. part) (cut_at_first found (length t)) source result → PartedAtLastByte byte t result
    at-last-byte found right (Err error) answers = tt
    at-last-byte [] right (Ok None) answers = λ k lt here.
        let is = byte-some (λ b. b == byte) t k lt (grind (arith, nat_tests, here)) in
        none-listed k (k + 1) (right.no_other k (k + 1) is (omega (arith, lt)))
    at-last-byte [] right (Ok (Some parts)) answers = cc
    at-last-byte (m ∷ ms) right (Ok None) answers = absurd answers
    at-last-byte (m ∷ ms) right (Ok (Some parts)) answers =
        let occurs = right.occur.0 in
        let front_is : parts.0.items ≡ slice_range t 0 m.0 = answers.0.items_are ∙ ap (λ l. slice_range l 0 m.0) same in
        let back_is : parts.1.items ≡ slice_range t m.1 (length t) = answers.1.items_are ∙ ap (λ l. slice_range l m.1 (length t)) same in
        let rise : (a b c d : ℕ) → at_byte a ≡ Some b → at_byte c ≡ Some d → a < c → b < d = λ a b c d first second lt. omega (arith, lt, (stands a b first).2, (stands c d second).2) in
        let behind : (k : ℕ) → m.1 ≤ k → k < length t → at_byte k ≡ None =
        λ k low high. option_cases (at_byte k) (λ none. none)
        (λ b is. absurd (none-behind at_byte (length t) rise k b m ms right occurs (omega (arith, low, (stands m.0 m.1 occurs).2)) (omega (arith, high, (stands k b is).2)) is)) in (
          joined-byte m.0 m.1 occurs ∙ ap (λ l. l ++ byte ∷ slice_range t m.1 (length t)) (sym front_is) ∙ ap (λ l. parts.0.items ++ byte ∷ l) (sym back_is),
          subst (LacksByte byte) (sym back_is) (lacks-in m.1 (length t) (omega arith) behind),
        )

    pub parted_at_last_byte : (result : Result (Option (Handle × Handle)) E) → OnceAnswers (λ part. part) rsplit_once (byte_ends (λ b. b == byte)) source result → PartedAtLastByte byte t result
    parted_at_last_byte result answers =
        at-last-byte (rightmost at_byte (length t))
        (rightmost-is at_byte (length t) (λ a b is. let at = stands a b is in (omega (arith, at.2), omega (arith, at.0, at.2))) (λ a b c first second. omega (arith, (stands a c first).2, (stands b c second).2))) result
        (subst (λ (l : List ℕ). PartsIfAny (λ part. part) (rsplit_once (byte_ends (λ b. b == byte) l) (length l)) source result) same answers)
