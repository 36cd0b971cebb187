-- Forms that are written and read part by part.
use Rattle.std.proofs.Common.{◌≡◌, ◌∙◌, ℕ, ◌+◌, ◌-◌, ◌^◌, ◌<◌, ◌≤◌, List, [], ◌∷◌, ◌++◌, Option, Some, None, Result, Ok, Err, length, drop, get_or, take, ap, append_assoc, arith, drop_at, length-append, length-take-le, le_refl, refl, subst, sym}
use Rattle.std.proofs.KnownBytes.{Consumes-trans}
use Rattle.std.proofs.Math.Seq.{drop-append_seam}
use Rattle.std.proofs.lemmas.List.{take_rest}
use Rattle.std.proofs.lemmas.Nat.{from_le_bytes-to_le_bytes_4, le_bytes_4}
use Rattle.std.proofs.lemmas.Slice.{take-put_mid_below}
use Rattle.std.specs.Int.{w32, to_le_bytes, from_le_bytes}
use Rattle.std.specs.Io.KnownBytes.{Appends, Consumes}
use Rattle.std.specs.Result.{IsErrAnd}
use borrow.Rule.Slice.PartMut.{put_mid, post_of}
use lib.Seq.{take-add, take-append-le}
use Rattle.hip_bytes.specs.Borsh.{BorshReads, BorshWrites, IsUnfinished, borsh_form}
use Rattle.hip_bytes.specs.Handle.{Handle}
use Rattle.hip_bytes.specs.Moved.{MovesIn}
use Rattle.hip_bytes.specs.declared.borsh_fault.BorshFault.{BorshFault}
use Rattle.hip_bytes.specs.declared.borsh_fault.BorshFault.TheVariants.{Memory, TooLong, Truncated, Io, NotUtf8}
use Rattle.hip_bytes.specs.declared.kind.TheConstants.{INLINE_CAPACITY}

-- a front, and then a front of what is left
pub take-further : (bytes : List ℕ) (done n : ℕ) → take done bytes ++ take n (take (length bytes - done) (drop done bytes)) ≡ take (done + n) bytes
take-further bytes done n = ap (λ rest. take done bytes ++ take n rest) (take_rest bytes done) ∙ sym (take-add done n bytes)

-- a room whose front was filled so far, and which was then filled further
pub filled-further : (room part : List ℕ) (done n : ℕ) → done ≤ length room → n ≤ length part
    → take (done + n) (put_mid done (length room - done) room part) ≡ take done room ++ take n part
filled-further room part done n within fits =
    let after = post_of done (length room - done) room in
    let all = put_mid done (length room - done) room part in
    take-add done n all
    ∙ ap (λ l. l ++ take n (drop done all)) (take-put_mid_below _ _ _ _ _ (le_refl _) within)
    ∙ ap (λ l. take done room ++ take n l) (drop_at (take done room) (part ++ after) done (length-take-le done room within))
    ∙ ap (λ l. take done room ++ l) (take-append-le n part after fits)

-- the answer that a `?` hands on
pub handed-on : {T : Type 0} (r : Result T BorshFault) (fault : BorshFault) (P : Result T BorshFault → Type 0) → IsErrAnd r (λ other. other ≡ fault) → P (Err fault) → P r
handed-on (Ok done) fault P is holds = absurd is
handed-on (Err other) fault P is holds = subst (λ (f : BorshFault). P (Err f)) (sym is) holds

-- where a form is cut within the bytes of its length, and behind them
pub split-head : (items head front rest : List ℕ) (len : ℕ) → head ≡ to_le_bytes w32 len → len ≡ length items → head ≡ front ++ rest
    → borsh_form items ≡ front ++ (rest ++ items)
split-head items head front rest len says same split =
    ap (λ n. to_le_bytes w32 n ++ items) (sym same) ∙ ap (λ bytes. bytes ++ items) (sym says ∙ split) ∙ append_assoc front rest items

pub split-rest : (items head front rest : List ℕ) (len : ℕ) → head ≡ to_le_bytes w32 len → len ≡ length items → items ≡ front ++ rest
    → borsh_form items ≡ (head ++ front) ++ rest
split-rest items head front rest len says same split =
    ap (λ n. to_le_bytes w32 n ++ items) (sym same) ∙ ap (λ bytes. bytes ++ items) (sym says) ∙ ap (λ bytes. head ++ bytes) split ∙ sym (append_assoc head front rest)

-- a beginning of the form went out
pub written-part : {T : Type 0} (r : Result T BorshFault) (items front rest : List ℕ) (old new : Option (List ℕ)) → IsErrAnd r (λ fault. fault ≡ Io)
    → length items < 2 ^ 32 → borsh_form items ≡ front ++ rest → 0 < length rest → Appends old new front → BorshWrites items old new r
written-part (Ok done) items front rest old new is small split some wrote = absurd is
written-part {T} (Err fault) items front rest old new is small split some wrote =
    subst (λ (f : BorshFault). BorshWrites {T = T} items old new (Err f)) (sym is) (small, front, rest, split, some, wrote)

-- the length that four bytes say is that of whatever begins with them
pub from_le-front : (head rest : List ℕ) → length head ≡ 4 → from_le_bytes w32 (head ++ rest) ≡ from_le_bytes w32 head
from_le-front [] rest l = absurd (omega arith)
from_le-front (a ∷ []) rest l = absurd (omega arith)
from_le-front (a ∷ b ∷ []) rest l = absurd (omega arith)
from_le-front (a ∷ b ∷ c ∷ []) rest l = absurd (omega arith)
from_le-front (a ∷ b ∷ c ∷ d ∷ []) rest l = refl
from_le-front (a ∷ b ∷ c ∷ d ∷ e ∷ more) rest l = absurd (omega arith)

-- four bytes, and as many behind them as they say, are a form
pub form-of : (head items : List ℕ) → length head ≡ 4 → ((i : ℕ) → get_or head i 0 < 256) → length items ≡ from_le_bytes w32 head → borsh_form items ≡ head ++ items
form-of head items l small says = ap (λ front. front ++ items) (le_bytes_4 head (length items) l small says)

unfinished : (head taken : List ℕ) (len : ℕ) → length head ≡ 4 → len ≡ from_le_bytes w32 head → length taken < len → IsUnfinished (head ++ taken)
unfinished head taken len l says short = omega (arith, length-append head taken, from_le-front head taken l)

-- a read that had the first four bytes of a form, and ended behind them
pub read-rest : {T : Type 0} (shown : T → List ℕ) (old mid new : Option (List ℕ)) (head : List ℕ) (len : ℕ) (fault : BorshFault)
    → Consumes old mid head → length head ≡ 4 → len ≡ from_le_bytes w32 head → (fault ≡ Memory → INLINE_CAPACITY < len)
    → MovesIn shown len mid new (Err fault) → BorshReads old new (Err fault)
read-rest shown old mid new head len Memory first l says long (taken, consumed, short) =
    let whole = unfinished head taken len l says short in
    (head ++ taken, Consumes-trans _ _ _ _ _ first consumed, omega arith, omega (arith, long refl, from_le-front head taken l))
read-rest shown old mid new head len TooLong first l says long moved = moved
read-rest shown old mid new head len Truncated first l says long (taken, consumed, short, ended) =
    (head ++ taken, Consumes-trans _ _ _ _ _ first consumed, unfinished head taken len l says short, ended)
read-rest shown old mid new head len Io first l says long (taken, consumed, short) =
    (head ++ taken, Consumes-trans _ _ _ _ _ first consumed, unfinished head taken len l says short)
read-rest shown old mid new head len NotUtf8 first l says long moved = moved

-- a whole form that was read
pub read-form : (old mid new : Option (List ℕ)) (head items : List ℕ) (len : ℕ) → Consumes old mid head → Consumes mid new items → length head ≡ 4
    → ((i : ℕ) → get_or head i 0 < 256) → length items ≡ len → len ≡ from_le_bytes w32 head → Consumes old new (borsh_form items)
read-form old mid new head items len first second l small same says =
    subst (Consumes old new) (sym (form-of head items l small (same ∙ says))) (Consumes-trans _ _ _ _ _ first second)

-- like `read-form`, where memory for the handle was refused
pub read-unmade : (old mid new : Option (List ℕ)) (head items : List ℕ) (len : ℕ) → Consumes old mid head → Consumes mid new items → length head ≡ 4
    → length items ≡ len → len ≡ from_le_bytes w32 head → INLINE_CAPACITY < len → BorshReads old new (Err Memory)
read-unmade old mid new head items len first second l same says long =
    (head ++ items, Consumes-trans _ _ _ _ _ first second, omega (arith, length-append head items, from_le-front head items l), omega (arith, from_le-front head items l))

-- bytes that follow those of a vector
pub read-further : {T U : Type 0} (shown : T → List ℕ) (shown' : U → List ℕ) (old mid new : Option (List ℕ)) (bytes : List ℕ) (more len : ℕ) (fault : BorshFault)
    → Consumes old mid bytes → length bytes + more ≤ len → MovesIn shown more mid new (Err fault) → MovesIn shown' len old new (Err fault)
read-further shown shown' old mid new bytes more len Memory first within (taken, consumed, short) =
    (bytes ++ taken, Consumes-trans _ _ _ _ _ first consumed, omega (arith, length-append bytes taken))
read-further shown shown' old mid new bytes more len TooLong first within moved = moved
read-further shown shown' old mid new bytes more len Truncated first within (taken, consumed, short, ended) =
    (bytes ++ taken, Consumes-trans _ _ _ _ _ first consumed, omega (arith, length-append bytes taken), ended)
read-further shown shown' old mid new bytes more len Io first within (taken, consumed, short) =
    (bytes ++ taken, Consumes-trans _ _ _ _ _ first consumed, omega (arith, length-append bytes taken))
read-further shown shown' old mid new bytes more len NotUtf8 first within moved = moved

-- the length that the first four bytes of a form say, whatever follows it
says-length : (items follow : List ℕ) → length items < 2 ^ 32 → from_le_bytes w32 (borsh_form items ++ follow) ≡ length items
says-length items follow small = from_le-front (to_le_bytes w32 (length items)) (items ++ follow) refl ∙ from_le_bytes-to_le_bytes_4 (length items) small

behind-same : (xs ys us vs : List ℕ) → length xs ≡ length ys → xs ++ us ≡ ys ++ vs → (ys ≡ xs) × (vs ≡ us)
behind-same [] [] us vs same e = (refl, sym e)
behind-same [] (y ∷ ys) us vs same e = absurd (omega arith)
behind-same (x ∷ xs) [] us vs same e = absurd (omega arith)
behind-same (x ∷ xs) (y ∷ ys) us vs same e =
    let (front, back) = behind-same xs ys us vs (omega arith) (ap (drop 1) e) in
    let first : y ≡ x = cc in
    (ap (λ l. y ∷ l) front ∙ ap (λ b. b ∷ xs) first, back)

-- bytes that begin with a form begin with no other
pub form-alone : (xs ys us vs : List ℕ) → length xs < 2 ^ 32 → length ys < 2 ^ 32 → borsh_form xs ++ us ≡ borsh_form ys ++ vs → (ys ≡ xs) × (vs ≡ us)
form-alone xs ys us vs small small' e =
    behind-same xs ys us vs (sym (says-length xs us small) ∙ ap (from_le_bytes w32) e ∙ says-length ys vs small') (ap (drop 4) e)

pub round-trip : (items follow old new : List ℕ) (left : Option (List ℕ)) (read : Handle) → BorshWrites {T = Unit {0}} items (Some old) (Some new) (Ok tt)
    → BorshReads (Some (drop (length old) new ++ follow)) left (Ok read) → (read.items ≡ items) × (left ≡ Some follow)
round-trip items follow old new None read (small, wrote) (small', holds, took) = absurd took
round-trip items follow old new (Some rest) read (small, wrote) (small', holds, took) =
    let form : drop (length old) new ≡ borsh_form items = ap (drop (length old)) wrote ∙ drop-append_seam old (borsh_form items) in
    let (same, left) = form-alone items read.items follow rest small small' (ap (λ bytes. bytes ++ follow) (sym form) ∙ took) in
    (same, ap Some left)
