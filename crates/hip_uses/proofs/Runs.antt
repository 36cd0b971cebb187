-- Runs of one class, and one token more.
use Rattle.std.proofs.Common.{◌≡◌, ℕ, ◌+◌, ◌-◌, ◌*◌, ◌<◌, ◌≤◌, ◌≢◌, All, List, [], ◌∷◌, ◌++◌, length, take, get_or, arith, sym, slice_range, flat_map, IsCharBoundary, IsUtf8, take-add}
use Rattle.std.proofs.lemmas.Grind.{common_steps}
use Rattle.std.proofs.lemmas.Str.{IsCharBoundary-after_ascii, IsCharBoundary-before_ascii, IsCharBoundary-end}
use Rattle.hipstr.specs.Meter.{RisesAtMost}
use Rattle.hip_uses.specs.declared.tokens.Class.{Class}
use Rattle.hip_uses.specs.declared.tokens.Class.TheVariants.{Word}
use Rattle.hip_uses.specs.declared.tokens.Token.{Token}
use Rattle.hip_uses.specs.Token.{AreAdjacent, end_of, token_bytes, class_of}

pub within_more : (P : ℕ → Type 0) (start end : ℕ) → ((k : ℕ) → start ≤ k → k < end → P k) → P end → (k : ℕ) → start ≤ k → k < end + 1 → P k
within_more P start end before here k low high = grind arith

-- a byte that isn't ASCII belongs to a word
high_byte : (byte : ℕ) → 128 ≤ byte → class_of byte ≡ Word
high_byte byte high = grind arith

-- where a class ends, a character does
pub run-boundary : (t : List ℕ) (start end : ℕ) (class : Class) → IsUtf8 t → start < end → end ≤ length t
    → ((k : ℕ) → start ≤ k → k < end → class_of (get_or t k 0) ≡ class) → (end < length t → class_of (get_or t end 0) ≢ class) → IsCharBoundary t end
run-boundary t start end class utf8 some within one other = grind (arith, IsCharBoundary-before_ascii, IsCharBoundary-after_ascii, IsCharBoundary-end, high_byte)

pub length-range : (t : List ℕ) (start end : ℕ) → start ≤ end → end ≤ length t → length (slice_range t start end) ≡ end - start
length-range t start end le fits = grind (arith, common_steps)

-- one token more
pub joined-more : {B S P : Type 0} (bytes : List ℕ) (tokens more : List (Token B S P)) (token : Token B S P) (start end : ℕ) → more ≡ tokens ++ token ∷ []
    → flat_map token_bytes tokens ≡ take start bytes → token.text.items ≡ slice_range bytes start end → start ≤ end → flat_map token_bytes more ≡ take end bytes
joined-more bytes tokens more token start end pushed joined is le = grind (arith, common_steps, take-add start (end - start) bytes)

pub adjacent-more : {B S P : Type 0} (tokens : List (Token B S P)) (token : Token B S P) (from end : ℕ) → AreAdjacent from tokens token.start → end_of token ≡ end → AreAdjacent from (tokens ++ token ∷ []) end
adjacent-more [] token from end h is = (sym h, is)
adjacent-more (t ∷ ts) token from end h is = (h.0, adjacent-more ts token (end_of t) end h.1 is)

pub All-more : {A : Type 0} (P : A → Type 0) (xs more : List A) (x : A) → more ≡ xs ++ x ∷ [] → P x → All P xs → All P more
All-more P xs more x pushed is so_far = grind (arith, common_steps)

-- one more copy of at most what a handle holds in itself
pub rises-more : (cost first before after count : ℕ) → cost ≤ 23 → RisesAtMost first before (23 * count) → RisesAtMost before after cost
    → RisesAtMost first after (23 * (count + 1))
rises-more cost first before after count bound so_far more = grind arith
