-- Sequences of matches at the ends of a text.
use Rattle.std.proofs.Common.{◌≡◌, ℕ, ◌+◌, ◌<◌, ◌≤◌, List, [], ◌∷◌, ◌++◌, Option, Some, refl, sym, arith}
use Rattle.std.proofs.lemmas.Option.{same_Some}
use Rattle.hip_match.specs.Trims.{Follows, FollowsBack, IsSequence, IsSequenceBack, TrimsFront, TrimsBack}
use Rattle.hip_match.specs.Occurrence.{start_of}
use Rattle.hip_match.proofs.RightmostLemmas.{start_among-is, start_among-found}

module _ (e : ℕ → Option ℕ) where
  Follows-append : (ms : List (ℕ × ℕ)) (i a b : ℕ) → Follows e i ms a → a < b → e a ≡ Some b → Follows e i (ms ++ (a, b) ∷ []) b
  Follows-append [] i a b h lt is = (sym h, lt, is, refl)
  Follows-append (m ∷ ms) i a b h lt is = (h.0, h.1, h.2, Follows-append ms m.1 a b h.3 lt is)

  pub sequence_more : (i a b : ℕ) → IsSequence e i a → e a ≡ Some b → a < b → IsSequence e i b
  sequence_more i a b h is lt = (h.0 ++ (a, b) ∷ [], Follows-append h.0 i a b h.1 lt is)

  Follows-le : (ms : List (ℕ × ℕ)) (i j : ℕ) → Follows e i ms j → i ≤ j
  Follows-le [] i j h = omega arith
  Follows-le (m ∷ ms) i j h = grind (arith, Follows-le ms m.1 j h.3)

  -- where no nonempty match starts, a sequence can't go on
  longest_front : (ms ls : List (ℕ × ℕ)) (i j k : ℕ) → ((b : ℕ) → e j ≡ Some b → b ≤ j) → Follows e i ms j → Follows e i ls k → k ≤ j
  longest_front ms [] i j k stuck h g = grind (arith, Follows-le)
  longest_front [] (l ∷ ls) i j k stuck h g = grind arith
  longest_front (m ∷ ms) (l ∷ ls) i j k stuck h g = grind (arith, same_Some, longest_front ms ls m.1 j k stuck h.3)

  pub TrimsFront-stuck : (j : ℕ) → IsSequence e 0 j → ((b : ℕ) → e j ≡ Some b → b ≤ j) → TrimsFront e j
  TrimsFront-stuck j h stuck = grind (arith, longest_front)

  pub sequence_none : (i : ℕ) → IsSequence e i i
  sequence_none i = ([], refl)

  FollowsBack-append : (ms : List (ℕ × ℕ)) (a b j : ℕ) → FollowsBack e b ms j → a < b → e a ≡ Some b → FollowsBack e a (ms ++ (a, b) ∷ []) j
  FollowsBack-append [] a b j h lt is = (h, lt, is, refl)
  FollowsBack-append (m ∷ ms) a b j h lt is = (h.0, h.1, h.2, FollowsBack-append ms a b m.0 h.3 lt is)

  pub sequence_back_more : (a b j : ℕ) → IsSequenceBack e b j → e a ≡ Some b → a < b → IsSequenceBack e a j
  sequence_back_more a b j h is lt = (h.0 ++ (a, b) ∷ [], FollowsBack-append h.0 a b j h.1 lt is)

  FollowsBack-le : (ms : List (ℕ × ℕ)) (i j : ℕ) → FollowsBack e i ms j → i ≤ j
  FollowsBack-le [] i j h = omega arith
  FollowsBack-le (m ∷ ms) i j h = grind (arith, FollowsBack-le ms i m.0 h.3)

  longest_back : (ms ls : List (ℕ × ℕ)) (from i k n : ℕ) → ((a b c : ℕ) → e a ≡ Some c → e b ≡ Some c → a ≡ b) → from ≤ k
      → ((a : ℕ) → e a ≡ Some i → from ≤ a → i ≤ a) → FollowsBack e i ms n → FollowsBack e k ls n → i ≤ k
  longest_back ms [] from i k n one low stuck h g = grind (arith, FollowsBack-le)
  longest_back [] (l ∷ ls) from i k n one low stuck h g = grind (arith, FollowsBack-le)
  longest_back (m ∷ ms) (l ∷ ls) from i k n one low stuck h g = grind (arith, longest_back ms ls from i k m.0 one low stuck h.3)

  pub TrimsBack-stuck : (from n i : ℕ) → ((a b c : ℕ) → e a ≡ Some c → e b ≡ Some c → a ≡ b) → from ≤ i → IsSequenceBack e i n
      → ((a : ℕ) → e a ≡ Some i → from ≤ a → i ≤ a) → TrimsBack e from n i
  TrimsBack-stuck from n i one le h stuck = grind (arith, longest_back)

  -- the start of the occurrence that ends at a place
  pub start_of-is : (to a : ℕ) → start_of e to ≡ Some a → e a ≡ Some to
  start_of-is to a is = (start_among-is e 0 (to + 1) to a is).2

  pub start_of-one : (to a : ℕ) → ((b c d : ℕ) → e b ≡ Some d → e c ≡ Some d → b ≡ c) → ((k m : ℕ) → e k ≡ Some m → k ≤ m) → e a ≡ Some to → start_of e to ≡ Some a
  start_of-one to a one ordered is = grind (arith, start_among-found e 0 (to + 1) to a)
