-- Characters that are shown one after another.
use Rattle.std.proofs.Common.{◌≡◌, ◌∙◌, ℕ, suc, List, [], ◌∷◌, ◌++◌, Some, ap, sym, refl, arith, append_assoc, true, map, subst, flat_map, if◌then◌else◌, ◌==◌, ◌||◌, nat_lt, false}
use Rattle.std.specs.{Char.is_ascii, Fmt.debug_escape, Fmt.debug_escape_letter, Fmt.debug_str, Fmt.digits, List.list_all, Str.IsAscii}
use Rattle.hip_uses.specs.Shown.{AreShown, IsQuoted, IsShown}
use Rattle.std.proofs.lemmas.List.{append-nil, map-id}
use Rattle.std.proofs.lemmas.Bool.Decides.{nat_tests}
use Rattle.std.proofs.lemmas.Str.{chars-IsAscii}

pub shown-last : (cs : List ℕ) (c : ℕ) (text last : List ℕ) → AreShown cs text → IsShown c last → AreShown (cs ++ c ∷ []) (text ++ last)
shown-last [] c text last none is = (last, [], is, refl, ap (λ l. l ++ last) none ∙ sym (append-nil last))
shown-last (d ∷ cs) c text last (first, rest, shown, more, joined) is =
    (first, rest ++ last, shown, shown-last cs c rest last more is, ap (λ l. l ++ last) joined ∙ append_assoc first rest last)

-- how an ASCII character is shown, opened
pub escaped : (quote c : ℕ) → debug_escape quote c
    ≡ (if debug_escape_letter c quote == 0 then (if nat_lt c 32 || c == 127 then 92 ∷ 117 ∷ 123 ∷ (digits 16 false c ++ 125 ∷ []) else c ∷ []) else 92 ∷ debug_escape_letter c quote ∷ [])
unfolding debug_escape
escaped quote c = refl

-- the characters of an ASCII text are its bytes
pub shown-ascii : (bs : List ℕ) → IsAscii bs → AreShown bs (flat_map (debug_escape 34) bs)
shown-ascii [] ascii = refl
shown-ascii (b ∷ bs) ascii =
    (debug_escape 34 b, flat_map (debug_escape 34) bs, ((λ low. refl), λ high. absurd (omega (arith, ascii 0))), shown-ascii bs (λ i. ascii (suc i)), refl)

pub quoted-ascii : (bs : List ℕ) → IsAscii bs → IsQuoted bs (34 ∷ (flat_map (debug_escape 34) bs ++ 34 ∷ []))
quoted-ascii bs ascii = (flat_map (debug_escape 34) bs, subst (λ cs. AreShown cs (flat_map (debug_escape 34) bs)) (sym (chars-IsAscii bs ascii)) (shown-ascii bs ascii), refl)

pub all-ascii : (bs : List ℕ) → IsAscii bs → list_all is_ascii bs ≡ true
all-ascii [] ascii = refl
all-ascii (b ∷ bs) ascii = grind (arith, nat_tests, ascii 0, all-ascii bs (λ i. ascii (suc i)))

pub debugs-ascii : (bs : List ℕ) → IsAscii bs → debug_str bs ≡ Some (34 ∷ (flat_map (debug_escape 34) bs ++ 34 ∷ []))
debugs-ascii bs ascii = grind (arith, all-ascii bs ascii)

-- every item of a loop over a list
pub all-same : (yielded all : List ℕ) → map (λ x. x) yielded ≡ all → yielded ≡ all
all-same yielded all is = sym (map-id yielded) ∙ is

pub ruleset debugs = (debugs-ascii)
