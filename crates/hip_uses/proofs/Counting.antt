-- How often each of the different words of a text comes.
use Rattle.std.proofs.Common.{◌≡◌, ◌∙◌, ℕ, zero, suc, ◌+◌, ◌<◌, ◌≤◌, ◌==◌, nat_eq, Bool, false, List, [], ◌∷◌, ◌++◌, Option, Some, length, take, get_or, map, ap, sym, refl, subst, arith, All, if◌then◌else◌, ◌^◌, IsUtf8}
use Rattle.std.proofs.lemmas.Grind.{common_steps}
use Rattle.std.proofs.lemmas.List.{flat_map_more, get_or-map, length-map, map-append, map_more, same_lists}
use Rattle.std.proofs.lemmas.List.Elements.{All-cons, All-nil}
use Rattle.std.proofs.lemmas.List.Sorted.{All-permutation, IsPermutation-map}
use Rattle.std.proofs.lemmas.List.Sums.{sum_by-cons}
use Rattle.std.proofs.lemmas.Option.{gets}
use Rattle.std.proofs.lemmas.Slice.Eq.{bytes_eq-Decides}
use Rattle.std.proofs.lemmas.Bool.Decides.{nat_tests}
use Rattle.std.specs.Cmp.Lexicographic.{pointwise}
use Rattle.std.specs.Io.KnownBytes.{Appends}
use Rattle.std.specs.declared.cmp.Reverse.{Reverse}
use Rattle.std.specs.{List.count_by, List.Sorted.IsPermutation, List.Sorted.IsSortedBy}
use Rattle.hip_uses.specs.Tallies.{count_and_place, named, named_lines, numbered, numbered_from, ranks_first}
use Rattle.hip_uses.specs.Counts.{AreCountLines, AreCounts, CountFails, count_line, count_lines, counted, stands_first, words_of}
use Rattle.hipstr.specs.Handle.{Handle}
use Rattle.hip_uses.specs.Number.{AreNumbers, SomeInterned, StandOnce, all_interned, interned, number_of, text_bytes}
use Rattle.hip_uses.specs.Tools.{InputFails, of_intern}
use Rattle.hip_uses.specs.declared.fault.InternFault.{InternFault}
use Rattle.hip_uses.specs.declared.fault.InternFault.TheVariants.{TooMany, Memory as no_room}
use Rattle.hip_uses.proofs.Appended.{appends-then}
use Rattle.hip_uses.proofs.Firsts.{AreFirsts, first-by-number, firsts-all, number_from-place}

-- the text at a number has it, and no other text
number-tells : (texts : List (List ℕ)) (word : List ℕ) (number k : ℕ) → StandOnce texts → number_of word texts ≡ Some number → k < length texts → pointwise nat_eq (get_or texts k []) word ≡ (number == k)
number-tells texts word number k once is within =
    grind (arith, common_steps, nat_tests, gets, bytes_eq-Decides, number_from-place 0 word texts number is, once k (get_or texts k []))

count-both : {A B : Type 0} (p : A → Bool) (q : B → Bool) (x : A) (y : B) (xs : List A) (ys : List B) → p x ≡ q y → count_by p xs ≡ count_by q ys → count_by p (x ∷ xs) ≡ count_by q (y ∷ ys)
count-both p q x y xs ys here rest = sum_by-cons (λ x. if p x then 1 else 0) x xs ∙ ap (λ b. (if b then 1 else 0) + count_by p xs) here ∙ ap (λ n. (if q y then 1 else 0) + n) rest ∙ sym (sum_by-cons (λ y. if q y then 1 else 0) y ys)

-- a word comes as often as its number
pub counts-agree : (texts : List (List ℕ)) (k : ℕ) → StandOnce texts → k < length texts → (words : List (List ℕ)) (numbers : List ℕ) → AreNumbers texts words numbers
    → count_by (λ number. number == k) numbers ≡ count_by (pointwise nat_eq (get_or texts k [])) words
counts-agree texts k once within [] [] are = refl
counts-agree texts k once within [] (number ∷ numbers) are = absurd are
counts-agree texts k once within (word ∷ words) [] are = absurd are
counts-agree texts k once within (word ∷ words) (number ∷ numbers) are =
    count-both (λ n. n == k) (pointwise nat_eq (get_or texts k [])) number word numbers words (sym (number-tells texts word number k once are.0 within)) (counts-agree texts k once within words numbers are.1)

numbered_from-at : (from : ℕ) (counts : List ℕ) (k : ℕ) (d : ℕ × ℕ) → k < length counts → get_or (numbered_from from counts) k d ≡ (get_or counts k 0, from + k)
numbered_from-at from [] k d within = absurd (omega arith)
numbered_from-at from (c ∷ counts) zero d within = ap (λ n. (c, n)) (omega arith)
numbered_from-at from (c ∷ counts) (suc k) d within = numbered_from-at (from + 1) counts k d (omega arith) ∙ ap (λ n. (get_or counts k 0, n)) (omega arith)

numbered_from-long : (from : ℕ) (counts : List ℕ) → length (numbered_from from counts) ≡ length counts
numbered_from-long from [] = refl
numbered_from-long from (c ∷ counts) = ap suc (numbered_from-long (from + 1) counts)

-- the numbers with how often they come are the words with how often they come
rows-agree : (words texts : List (List ℕ)) (counts : List ℕ) → length counts ≡ length texts → ((k : ℕ) → k < length texts → get_or counts k 0 ≡ count_by (pointwise nat_eq (get_or texts k [])) words)
    → map (named texts) (numbered counts) ≡ map (counted words) texts
rows-agree words texts counts size are =
    let long : length (map (named texts) (numbered counts)) ≡ length texts = length-map (numbered counts) (named texts) ∙ numbered_from-long 0 counts ∙ size in
    same_lists _ _ (long ∙ sym (length-map texts (counted words))) (λ k d within.
    let low : k < length texts = omega (arith, long) in
    get_or-map (named texts) (numbered counts) k (0, 0) d (omega (arith, numbered_from-long 0 counts, size))
    ∙ ap (named texts) (numbered_from-at 0 counts k (0, 0) (omega (arith, size)) ∙ ap (λ n. (get_or counts k 0, n)) (omega arith))
    ∙ ap (λ n. (get_or texts k [], n)) (are k low)
    ∙ sym (get_or-map (counted words) texts k [] d low))

numbered-low : (n from : ℕ) (counts : List ℕ) → from + length counts ≤ n → All (λ row. row.1 < n) (numbered_from from counts)
numbered-low n from [] within = All-nil (λ row. row.1 < n)
numbered-low n from (c ∷ counts) within = All-cons (λ row. row.1 < n) (c, from) _ (omega arith) (numbered-low n (from + 1) counts (omega arith))

names-fall : (words texts : List (List ℕ)) (a b : ℕ × ℕ) → AreFirsts words texts → a.1 < length texts → b.1 < length texts → ranks_first a b ≡ false → stands_first words (named texts a) (named texts b) ≡ false
names-fall words texts a b firsts low high is = grind (arith, nat_tests, first-by-number words texts a.1 b.1 firsts low high)

-- a list in order, where what those of its elements become of which P holds is in order too
sorted-where : {X Y : Type 0} (P : X → Type 0) (f : X → Y) (below : X → X → Bool) (falls : Y → Y → Bool) → ((a b : X) → P a → P b → below a b ≡ false → falls (f a) (f b) ≡ false)
    → (xs : List X) → All P xs → IsSortedBy below xs → IsSortedBy falls (map f xs)
sorted-where P f below falls keeps [] all sorted k d from within = absurd (omega arith)
sorted-where P f below falls keeps (x ∷ xs) all sorted k d from within =
    let size : length (map f (x ∷ xs)) ≡ length (x ∷ xs) = length-map (x ∷ xs) f in
    rw (get_or-map f (x ∷ xs) (k + 1) x d (omega (arith, size)), get_or-map f (x ∷ xs) k x d (omega (arith, size)))
    (keeps _ _ (all (k + 1) x (omega (arith, size))) (all k x (omega (arith, size))) (sorted k x from (omega (arith, size))))

-- what was counted by numbers is counted by words
pub are-counts : (words texts : List (List ℕ)) (numbers counts : List ℕ) (rows : List (ℕ × ℕ)) → texts ≡ all_interned [] words → AreNumbers texts words numbers → length counts ≡ length texts
    → ((k : ℕ) → k < length texts → get_or counts k 0 ≡ count_by (λ number. number == k) numbers) → IsPermutation (numbered counts) rows → IsSortedBy ranks_first rows → AreCounts words (map (named texts) rows)
are-counts words texts numbers counts rows are_all are size each moved sorted =
    let firsts : AreFirsts words texts = rw are_all (firsts-all words) in
    let low : All (λ (row : ℕ × ℕ). row.1 < length texts) rows = All-permutation (λ row. row.1 < length texts) _ _ moved (numbered-low (length texts) 0 counts (omega (arith, size))) in
    record {
      each_once = subst (λ l. IsPermutation l (map (named texts) rows))
          (rows-agree words texts counts size (λ k within. each k within ∙ counts-agree texts k firsts.once within words numbers are) ∙ ap (map (counted words)) are_all)
          (IsPermutation-map (named texts) _ _ moved);
      in_order = sorted-where (λ row. row.1 < length texts) (named texts) ranks_first (stands_first words) (λ a b low_a low_b is. names-fall words texts a b firsts low_a low_b is) rows low sorted;
    }

-- a number is below the count of texts
pub numbers-low : (texts words : List (List ℕ)) (numbers : List ℕ) → AreNumbers texts words numbers → All (λ number. number < length texts) numbers
numbers-low texts [] [] are = All-nil (λ number. number < length texts)
numbers-low texts [] (number ∷ numbers) are = absurd are
numbers-low texts (word ∷ words) [] are = absurd are
numbers-low texts (word ∷ words) (number ∷ numbers) are =
    All-cons (λ number. number < length texts) number numbers (let place = number_from-place 0 word texts number are.0 in omega (arith, place.high)) (numbers-low texts words numbers are.1)

-- so is each place of a row
pub rows-low : (n : ℕ) (counts : List ℕ) (rows : List (Reverse ℕ × ℕ)) → length counts ≡ n → IsPermutation (numbered counts) (map count_and_place rows) → All (λ row. row.1 < n) rows
rows-low n counts rows size moved =
    let low : All (λ (row : ℕ × ℕ). row.1 < n) (map count_and_place rows) = All-permutation (λ row. row.1 < n) _ _ moved (numbered-low n 0 counts (omega (arith, size))) in
    λ k d within. subst (λ (row : ℕ × ℕ). row.1 < n) (get_or-map count_and_place rows k d (count_and_place d) within) (low k (count_and_place d) (omega (arith, length-map rows count_and_place)))

-- more words make no fewer texts
grows-one : (texts : List (List ℕ)) (word : List ℕ) → length texts ≤ length (interned texts word)
grows-one texts word = grind (arith, common_steps)

grows : (texts words : List (List ℕ)) → length texts ≤ length (all_interned texts words)
grows texts [] = omega arith
grows texts (word ∷ words) = omega (arith, grows-one texts word, grows (interned texts word) words)

some-fewer : (texts words : List (List ℕ)) (n : ℕ) → length (all_interned texts (take n words)) ≤ length (all_interned texts words)
some-fewer texts words zero = grows texts words
some-fewer texts [] (suc n) = omega arith
some-fewer texts (word ∷ words) (suc n) = some-fewer (interned texts word) words n

pub too-many : (words later : List (List ℕ)) (n : ℕ) → SomeInterned [] words later → n ≤ length later → n ≤ length (all_interned [] words)
too-many words later n some over = let is = some.interned in omega (arith, ap length is, some-fewer [] words some.count)

-- the next row is printed
pub counts-next : (texts : List (List ℕ)) (rows : List (Reverse ℕ × ℕ)) (i : ℕ) (row : Reverse ℕ × ℕ) (word : List ℕ) (old mid new : Option (List ℕ)) → i < length rows → row ≡ get_or rows i row → word ≡ get_or texts row.1 []
    → Appends old mid (named_lines texts (take i rows)) → Appends mid new (count_line (word, row.0.0)) → Appends old new (named_lines texts (take (i + 1) rows))
counts-next texts rows i row word old mid new within is named_is so_far next =
    subst (Appends old new)
    (flat_map_more count_line [] (map (named texts) (map count_and_place (take i rows))) (named texts (count_and_place row))
    ∙ ap count_lines (sym (map-append (named texts) (map count_and_place (take i rows)) (count_and_place row ∷ [])))
    ∙ ap (λ (r : Reverse ℕ × ℕ). count_lines (map (named texts) (map count_and_place (take i rows) ++ count_and_place r ∷ []))) is
    ∙ ap (λ l. count_lines (map (named texts) l)) (sym (map_more count_and_place rows i row within)))
    (appends-then old mid new _ _ so_far (subst (λ w. Appends mid new (count_line (w, row.0.0))) named_is next))

-- what was counted by numbers is printed by words
pub counts-written : (input : List ℕ) (old texts : List (List ℕ)) (handles : List Handle) (numbers counts : List ℕ) (rows : List (Reverse ℕ × ℕ)) → old ≡ [] → texts ≡ all_interned old (words_of input)
    → map text_bytes handles ≡ texts → AreNumbers texts (words_of input) numbers → length counts ≡ length texts → ((k : ℕ) → k < length texts → get_or counts k 0 ≡ count_by (λ number. number == k) numbers)
    → IsPermutation (numbered counts) (map count_and_place rows) → IsSortedBy ranks_first (map count_and_place rows) → AreCountLines input (named_lines (map text_bytes handles) rows)
counts-written input old texts handles numbers counts rows none are_all shown are size each moved sorted = record {
  rows = map (named texts) (map count_and_place rows);
  counts = are-counts (words_of input) texts numbers counts (map count_and_place rows) (are_all ∙ ap (λ l. all_interned l (words_of input)) none) are size each moved sorted;
  lines = ap (λ l. named_lines l rows) shown;
}

-- the fault of an interner that had no texts
pub intern-fails : (input : List ℕ) (old texts : List (List ℕ)) (fault : InternFault) → IsUtf8 input → old ≡ [] → SomeInterned old (words_of input) texts → (fault ≡ TooMany → 2 ^ 32 ≤ length texts)
    → InputFails (CountFails input) input (of_intern fault)
intern-fails input old texts TooMany utf8 none some over = (utf8, too-many (words_of input) texts (2 ^ 32) (subst (λ l. SomeInterned l (words_of input) texts) none some) (over refl))
intern-fails input old texts no_room utf8 none some over = tt
