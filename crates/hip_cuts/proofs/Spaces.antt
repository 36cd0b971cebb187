-- A trim of white space leaves a part between white space.
use Rattle.std.proofs.Common.{◌≡◌, ◌∙◌, ℕ, ◌-◌, ◌≤◌, true, List, [], ◌∷◌, ◌++◌, Result, Ok, Err, Some, IsUtf8, encode_utf8, length, drop, arith, ap, append_assoc, drop-drop, refl, subst, sym, take-append-drop, slice_index}
use Rattle.std.proofs.lemmas.{Grind.flat_map-append, List.append-nil, List.drop_all, List.drop_more}
use Rattle.std.specs.{Char.is_ascii_whitespace, Char.is_whitespace, List.AllByRecursion, List.flat_map, Prelude.slice_range}
use Rattle.hip_text.specs.Handle.{Handle}
use Rattle.hip_match.proofs.{GapLemmas.byte-is, TextLemmas.rest_slice}
use Rattle.hip_match.specs.{CharLaws.char_ends-is, Trims.Follows, Trims.FollowsBack}
use Rattle.hip_cuts.specs.Piece.{IsPartAt}
use Rattle.hip_cuts.specs.Cut.{Ends, IsAsciiSpace, IsSpace, LeavesBetween, LeavesEnd, LeavesStart, LeftBefore, LeftBehind, LeftBetween, TrimAnswers, TrimmedBetween, TrimmedEnd, TrimmedStart, ascii_space_ends, space_ends}

-- space stands between two places
record Spaced (Space : List ℕ → Type 0) (t : List ℕ) (i k : ℕ) : Type 0 where
  space : List ℕ
  is : Space space
  split : drop i t ≡ space ++ drop k t

shown : (t : List ℕ) (source : Handle) (range : ℕ × ℕ) (part : Handle) → source.items ≡ t → IsPartAt source range part → slice_range t range.0 range.1 ≡ part.items
shown t source range part same is = sym (is.items_are ∙ ap (λ l. slice_range l range.0 range.1) same)

part-of : (t : List ℕ) (a b : ℕ) → a ≤ b → drop a t ≡ slice_range t a b ++ drop b t
part-of t a b ordered = sym (take-append-drop (b - a) (drop a t)) ∙ ap (λ l. slice_range t a b ++ l) (drop-drop (b - a) a t ∙ ap (λ n. drop n t) (omega (arith, ordered)))

-- nothing is space, and so are two spaces one after another, and what stands at an occurrence
module _ (Space : List ℕ → Type 0) (nothing : Space []) (both : (a b : List ℕ) → Space a → Space b → Space (a ++ b))
    (ends : Ends) (t : List ℕ) (one : (i k : ℕ) → ends t i ≡ Some k → Spaced Space t i k) where
  none : (i k : ℕ) → i ≡ k → Spaced Space t i k
  none i k same = record { space = []; is = nothing; split = ap (λ n. drop n t) same }

  then : (i j k : ℕ) → Spaced Space t i j → Spaced Space t j k → Spaced Space t i k
  then i j k first more = record {
    space = first.space ++ more.space;
    is = both first.space more.space first.is more.is;
    split = first.split ∙ ap (λ l. first.space ++ l) more.split ∙ sym (append_assoc first.space more.space (drop k t));
  }

  front : (ms : List (ℕ × ℕ)) (i k : ℕ) → Follows (ends t) i ms k → Spaced Space t i k
  front [] i k is = none i k is
  front (m ∷ ms) i k follows = subst (λ n. Spaced Space t n k) follows.0 (then m.0 m.1 k (one m.0 m.1 follows.2) (front ms m.1 k follows.3))

  back : (ms : List (ℕ × ℕ)) (i k : ℕ) → FollowsBack (ends t) i ms k → Spaced Space t i k
  back [] i k is = none i k is
  back (m ∷ ms) i k follows = subst (λ n. Spaced Space t i n) follows.0 (then i m.0 m.1 (back ms i m.0 follows.3) (one m.0 m.1 follows.2))

  to-end : (i n : ℕ) → length t ≤ n → Spaced Space t i n → Space (drop i t)
  to-end i n past spaced = subst Space (sym (spaced.split ∙ ap (λ l. spaced.space ++ l) (drop_all n t past) ∙ append-nil spaced.space)) spaced.is

  module _ {E : Type 0} (source : Handle) (same : source.items ≡ t) where
    left-between : (result : Result Handle E) → TrimAnswers (λ part. part) LeavesBetween ends source result → LeftBetween Space t result
    left-between (Err error) answers = tt
    left-between (Ok part) answers =
        let range = answers.0 in
        let left = subst (λ (l : List ℕ). LeavesBetween (ends l) (length l) range) same answers.1 in
        let before = front left.0.sequence.0 0 range.0 left.0.sequence.1 in
        let behind = to-end range.1 (length t) (omega arith) (back left.1.sequence.0 range.1 (length t) left.1.sequence.1) in (
          before.space,
          drop range.1 t,
          before.is,
          behind,
          before.split ∙ ap (λ l. before.space ++ l) (part-of t range.0 range.1 left.1.left ∙ ap (λ l. l ++ drop range.1 t) (shown t source range part same answers.2)),
        )

    left-behind : (result : Result Handle E) → TrimAnswers (λ part. part) LeavesEnd ends source result → LeftBehind Space t result
    left-behind (Err error) answers = tt
    left-behind (Ok part) answers =
        let range = answers.0 in
        let left = subst (λ (l : List ℕ). LeavesEnd (ends l) (length l) range) same answers.1 in
        let before = front left.0.sequence.0 0 range.0 left.0.sequence.1 in
        let rest : drop range.0 t ≡ slice_range t range.0 range.1 = sym (rest_slice t range.0) ∙ ap (λ n. slice_range t range.0 n) (sym left.1) in
        (before.space, before.is, before.split ∙ ap (λ l. before.space ++ l) (rest ∙ shown t source range part same answers.2))

    left-before : (result : Result Handle E) → TrimAnswers (λ part. part) LeavesStart ends source result → LeftBefore Space t result
    left-before (Err error) answers = tt
    left-before (Ok part) answers =
        let range = answers.0 in
        let left = subst (λ (l : List ℕ). LeavesStart (ends l) (length l) range) same answers.1 in
        let behind = to-end range.1 (length t) (omega arith) (back left.1.sequence.0 range.1 (length t) left.1.sequence.1) in
        let none_before : slice_range t 0 range.1 ≡ slice_range t range.0 range.1 = ap (λ n. slice_range t n range.1) (sym left.0) in
        (drop range.1 t, behind, part-of t 0 range.1 (omega arith) ∙ ap (λ l. l ++ drop range.1 t) (none_before ∙ shown t source range part same answers.2))

all-both : (P : ℕ → Type 0) (cs ds : List ℕ) → AllByRecursion P cs → AllByRecursion P ds → AllByRecursion P (cs ++ ds)
all-both P [] ds first more = more
all-both P (c ∷ cs) ds first more = (first.0, all-both P cs ds first.1 more)

-- ---- of a text

no_space : IsSpace []
no_space = ([], tt, refl)

spaces : (a b : List ℕ) → IsSpace a → IsSpace b → IsSpace (a ++ b)
spaces a b first more = (
  first.0 ++ more.0,
  all-both (λ c. is_whitespace c ≡ true) first.0 more.0 first.1 more.1,
  ap (λ l. l ++ b) first.2 ∙ ap (λ l. flat_map encode_utf8 first.0 ++ l) more.2 ∙ sym (flat_map-append encode_utf8 first.0 more.0),
)

module _ (t : List ℕ) (utf8 : IsUtf8 t) where
  one_char : (i k : ℕ) → space_ends t i ≡ Some k → Spaced IsSpace t i k
  one_char i k is =
      let found = (char_ends-is is_whitespace t i k utf8 is).1 in
      record {
        space = encode_utf8 found.0;
        is = (found.0 ∷ [], (found.2, tt), sym (append-nil (encode_utf8 found.0)));
        split = found.1.split ∙ ap (λ n. encode_utf8 found.0 ++ drop n t) (sym found.3);
      }

  module _ {E : Type 0} (source : Handle) (same : source.items ≡ t) where
    pub trimmed_between : (result : Result Handle E) → TrimAnswers (λ part. part) LeavesBetween space_ends source result → TrimmedBetween t result
    trimmed_between = left-between IsSpace no_space spaces space_ends t one_char source same

    pub trimmed_start : (result : Result Handle E) → TrimAnswers (λ part. part) LeavesEnd space_ends source result → TrimmedStart t result
    trimmed_start = left-behind IsSpace no_space spaces space_ends t one_char source same

    pub trimmed_end : (result : Result Handle E) → TrimAnswers (λ part. part) LeavesStart space_ends source result → TrimmedEnd t result
    trimmed_end = left-before IsSpace no_space spaces space_ends t one_char source same

-- ---- of bytes

module _ (t : List ℕ) where
  one_byte : (i k : ℕ) → ascii_space_ends t i ≡ Some k → Spaced IsAsciiSpace t i k
  one_byte i k is =
      let at = byte-is is_ascii_whitespace t i k is in
      record { space = slice_index t i ∷ []; is = (at.1, tt); split = drop_more t i 0 at.0 ∙ ap (λ n. slice_index t i ∷ drop n t) (sym at.2) }

  module _ {E : Type 0} (source : Handle) (same : source.items ≡ t) where
    pub bytes_between : (result : Result Handle E) → TrimAnswers (λ part. part) LeavesBetween ascii_space_ends source result → LeftBetween IsAsciiSpace t result
    bytes_between = left-between IsAsciiSpace tt (all-both (λ b. is_ascii_whitespace b ≡ true)) ascii_space_ends t one_byte source same

    pub bytes_behind : (result : Result Handle E) → TrimAnswers (λ part. part) LeavesEnd ascii_space_ends source result → LeftBehind IsAsciiSpace t result
    bytes_behind = left-behind IsAsciiSpace tt (all-both (λ b. is_ascii_whitespace b ≡ true)) ascii_space_ends t one_byte source same

    pub bytes_before : (result : Result Handle E) → TrimAnswers (λ part. part) LeavesStart ascii_space_ends source result → LeftBefore IsAsciiSpace t result
    bytes_before = left-before IsAsciiSpace tt (all-both (λ b. is_ascii_whitespace b ≡ true)) ascii_space_ends t one_byte source same
