-- Worked rows of the definitions, as the documentation of Rust's `str` gives them or as its functions answer. 44 is ',', 46 is '.', 97 is 'a', 98 is 'b'.
use Rattle.std.proofs.Common.{arith}
use Rattle.std.specs.Prelude.{◌≡◌, None, Some, [], ◌∷◌, refl}
use Rattle.std.specs.Str.{chars}
use Rattle.hip_match.specs.declared.draw.End.TheVariants.{Front, Back}
use Rattle.hip_match.specs.Occurrence.{start_among}
use Rattle.hip_match.specs.Characters.{char_at}
use Rattle.hip_match.specs.Texts.{text_ends}
use Rattle.hip_match.specs.Leftmost.{leftmost, leftmost_from}
use Rattle.hip_match.specs.Rightmost.{rightmost, rightmost_from}
use Rattle.hip_match.specs.Pieces.{split, split_inclusive, split_terminator, splitn, rsplit, rsplit_terminator, rsplitn}
use Rattle.hip_match.specs.Runs.{split_whitespace, split_ascii_whitespace, lines}
use Rattle.hip_match.specs.Trims.{IsSequence, strip_prefix, strip_suffix, split_once, rsplit_once}
use Rattle.hip_match.specs.Draw.{draw, left_by}
use Rattle.hip_match.specs.Joined.{parts_at, rejoined, together}

-- "aa" occurs in "aaa" at 0 and at 1
pub occurs-over : text_ends (97 ∷ 97 ∷ []) (97 ∷ 97 ∷ 97 ∷ []) 1 ≡ Some 3
unfolding text_ends
occurs-over = refl

-- "aa" doesn't occur in "aaa" at 2
pub occurs-not : text_ends (97 ∷ 97 ∷ []) (97 ∷ 97 ∷ 97 ∷ []) 2 ≡ None
unfolding text_ends
occurs-not = refl

-- the empty text occurs in "é" at boundaries alone
pub occurs-off-boundary : text_ends [] (195 ∷ 169 ∷ []) 1 ≡ None
unfolding text_ends
occurs-off-boundary = refl

-- of two matches that overlap the leftmost counts
pub leftmost-overlapping : leftmost (text_ends (97 ∷ 97 ∷ []) (97 ∷ 97 ∷ 97 ∷ [])) 3 ≡ ((0, 2) ∷ [])
unfolding text_ends leftmost_from
leftmost-overlapping = refl

-- of two matches that overlap the rightmost counts from the end
pub rightmost-overlapping : rightmost (text_ends (97 ∷ 97 ∷ []) (97 ∷ 97 ∷ 97 ∷ [])) 3 ≡ ((1, 3) ∷ [])
unfolding text_ends rightmost_from start_among
rightmost-overlapping = refl

pub leftmost-even : leftmost (text_ends (97 ∷ 97 ∷ []) (97 ∷ 97 ∷ 97 ∷ 97 ∷ [])) 4 ≡ ((0, 2) ∷ (2, 4) ∷ [])
unfolding text_ends leftmost_from
leftmost-even = refl

pub rightmost-even : rightmost (text_ends (97 ∷ 97 ∷ []) (97 ∷ 97 ∷ 97 ∷ 97 ∷ [])) 4 ≡ ((2, 4) ∷ (0, 2) ∷ [])
unfolding text_ends rightmost_from start_among
rightmost-even = refl

-- the empty text matches at each boundary
pub leftmost-empty : leftmost (text_ends [] (97 ∷ 195 ∷ 169 ∷ [])) 3 ≡ ((0, 0) ∷ (1, 1) ∷ (3, 3) ∷ [])
unfolding text_ends leftmost_from
leftmost-empty = refl

pub rightmost-empty : rightmost (text_ends [] (97 ∷ 195 ∷ 169 ∷ [])) 3 ≡ ((3, 3) ∷ (1, 1) ∷ (0, 0) ∷ [])
unfolding text_ends rightmost_from start_among
rightmost-empty = refl

pub leftmost-empty-of-empty : leftmost (text_ends [] []) 0 ≡ ((0, 0) ∷ [])
unfolding text_ends leftmost_from
leftmost-empty-of-empty = refl

-- "a,b," by ","
pub split-row : split (text_ends (44 ∷ []) (97 ∷ 44 ∷ 98 ∷ 44 ∷ [])) 4 ≡ ((0, 1) ∷ (2, 3) ∷ (4, 4) ∷ [])
unfolding text_ends leftmost_from
split-row = refl

-- an empty text has one piece
pub split-empty-text : split (text_ends (44 ∷ []) []) 0 ≡ ((0, 0) ∷ [])
unfolding text_ends leftmost_from
split-empty-text = refl

-- an empty pattern cuts at each boundary, the first and the last too
pub split-by-empty : split (text_ends [] (97 ∷ 98 ∷ [])) 2 ≡ ((0, 0) ∷ (0, 1) ∷ (1, 2) ∷ (2, 2) ∷ [])
unfolding text_ends leftmost_from
split-by-empty = refl

-- a last empty piece is left out
pub split_inclusive-row : split_inclusive (text_ends (44 ∷ []) (97 ∷ 44 ∷ 98 ∷ 44 ∷ [])) 4 ≡ ((0, 2) ∷ (2, 4) ∷ [])
unfolding text_ends leftmost_from
split_inclusive-row = refl

pub split_inclusive-open : split_inclusive (text_ends (44 ∷ []) (97 ∷ 44 ∷ 98 ∷ [])) 3 ≡ ((0, 2) ∷ (2, 3) ∷ [])
unfolding text_ends leftmost_from
split_inclusive-open = refl

pub split_inclusive-empty : split_inclusive (text_ends (44 ∷ []) []) 0 ≡ []
unfolding text_ends leftmost_from
split_inclusive-empty = refl

-- "A..B.." by ".": one last empty piece is left out
pub split_terminator-row : split_terminator (text_ends (46 ∷ []) (65 ∷ 46 ∷ 46 ∷ 66 ∷ 46 ∷ 46 ∷ [])) 6 ≡ ((0, 1) ∷ (2, 2) ∷ (3, 4) ∷ (5, 5) ∷ [])
unfolding text_ends leftmost_from
split_terminator-row = refl

pub split_terminator-empty : split_terminator (text_ends (46 ∷ []) []) 0 ≡ []
unfolding text_ends leftmost_from
split_terminator-empty = refl

pub rsplit-row : rsplit (text_ends (44 ∷ []) (97 ∷ 44 ∷ 98 ∷ 44 ∷ [])) 4 ≡ ((4, 4) ∷ (2, 3) ∷ (0, 1) ∷ [])
unfolding text_ends rightmost_from start_among
rsplit-row = refl

-- "aaa" by "aa" from the end
pub rsplit-overlapping : rsplit (text_ends (97 ∷ 97 ∷ []) (97 ∷ 97 ∷ 97 ∷ [])) 3 ≡ ((3, 3) ∷ (0, 1) ∷ [])
unfolding text_ends rightmost_from start_among
rsplit-overlapping = refl

pub rsplit_terminator-row : rsplit_terminator (text_ends (46 ∷ []) (65 ∷ 46 ∷ 46 ∷ 66 ∷ 46 ∷ 46 ∷ [])) 6 ≡ ((5, 5) ∷ (3, 4) ∷ (2, 2) ∷ (0, 1) ∷ [])
unfolding text_ends rightmost_from start_among
rsplit_terminator-row = refl

pub splitn-none : splitn 0 (text_ends (44 ∷ []) (97 ∷ 44 ∷ 98 ∷ 44 ∷ 99 ∷ [])) 5 ≡ []
unfolding text_ends leftmost_from
splitn-none = refl

pub splitn-one : splitn 1 (text_ends (44 ∷ []) (97 ∷ 44 ∷ 98 ∷ 44 ∷ 99 ∷ [])) 5 ≡ ((0, 5) ∷ [])
unfolding text_ends leftmost_from
splitn-one = refl

pub splitn-two : splitn 2 (text_ends (44 ∷ []) (97 ∷ 44 ∷ 98 ∷ 44 ∷ 99 ∷ [])) 5 ≡ ((0, 1) ∷ (2, 5) ∷ [])
unfolding text_ends leftmost_from
splitn-two = refl

-- a count that is larger than the number of pieces
pub splitn-more : splitn 3 (text_ends (44 ∷ []) (97 ∷ 44 ∷ 98 ∷ [])) 3 ≡ ((0, 1) ∷ (2, 3) ∷ [])
unfolding text_ends leftmost_from
splitn-more = refl

pub rsplitn-two : rsplitn 2 (text_ends (44 ∷ []) (97 ∷ 44 ∷ 98 ∷ 44 ∷ 99 ∷ [])) 5 ≡ ((4, 5) ∷ (0, 3) ∷ [])
unfolding text_ends rightmost_from start_among
rsplitn-two = refl

-- "a\r\nb\n\rc": one carriage return before a line feed goes with it, another stays
pub lines-row : lines (97 ∷ 13 ∷ 10 ∷ 98 ∷ 10 ∷ 13 ∷ 99 ∷ []) ≡ ((0, 1) ∷ (3, 4) ∷ (5, 7) ∷ [])
unfolding leftmost_from char_at chars
lines-row = refl

pub lines-two-returns : lines (97 ∷ 13 ∷ 13 ∷ 10 ∷ []) ≡ ((0, 2) ∷ [])
unfolding leftmost_from char_at chars
lines-two-returns = refl

-- a carriage return without a line feed stays
pub lines-open-return : lines (97 ∷ 13 ∷ []) ≡ ((0, 2) ∷ [])
unfolding leftmost_from char_at chars
lines-open-return = refl

pub lines-empty : lines [] ≡ []
unfolding leftmost_from char_at chars
lines-empty = refl

pub lines-of-feed : lines (10 ∷ []) ≡ ((0, 0) ∷ [])
unfolding leftmost_from char_at chars
lines-of-feed = refl

-- U+000B is white space
pub split_whitespace-row : split_whitespace (97 ∷ 11 ∷ 98 ∷ []) ≡ ((0, 1) ∷ (2, 3) ∷ [])
unfolding leftmost_from char_at chars
split_whitespace-row = refl

-- U+000B is no ASCII white space
pub split_ascii_whitespace-row : split_ascii_whitespace (97 ∷ 11 ∷ 98 ∷ []) ≡ ((0, 3) ∷ [])
unfolding leftmost_from char_at chars
split_ascii_whitespace-row = refl

-- U+2003 is white space too
pub split_whitespace-wide : split_whitespace (226 ∷ 128 ∷ 131 ∷ 97 ∷ []) ≡ ((3, 4) ∷ [])
unfolding leftmost_from char_at chars
split_whitespace-wide = refl

-- no run is empty
pub split_ascii_whitespace-runs : split_ascii_whitespace (32 ∷ 97 ∷ 32 ∷ 32 ∷ 98 ∷ []) ≡ ((1, 2) ∷ (4, 5) ∷ [])
unfolding leftmost_from char_at chars
split_ascii_whitespace-runs = refl

-- one match alone is removed
pub strip_prefix-row : strip_prefix (text_ends (97 ∷ []) (97 ∷ 97 ∷ [])) 2 ≡ Some (1, 2)
unfolding text_ends
strip_prefix-row = refl

pub strip_prefix-none : strip_prefix (text_ends (98 ∷ []) (97 ∷ 97 ∷ [])) 2 ≡ None
unfolding text_ends
strip_prefix-none = refl

pub strip_suffix-row : strip_suffix (text_ends (97 ∷ []) (97 ∷ 97 ∷ [])) 2 ≡ Some (0, 1)
unfolding text_ends start_among
strip_suffix-row = refl

-- "a=b=c" by "="
pub split_once-row : split_once (text_ends (61 ∷ []) (97 ∷ 61 ∷ 98 ∷ 61 ∷ 99 ∷ [])) 5 ≡ Some ((0, 1), (2, 5))
unfolding text_ends leftmost_from
split_once-row = refl

pub split_once-none : split_once (text_ends (61 ∷ []) (97 ∷ 98 ∷ [])) 2 ≡ None
unfolding text_ends leftmost_from
split_once-none = refl

pub rsplit_once-row : rsplit_once (text_ends (61 ∷ []) (97 ∷ 61 ∷ 98 ∷ 61 ∷ 99 ∷ [])) 5 ≡ Some ((0, 3), (4, 5))
unfolding text_ends rightmost_from start_among
rsplit_once-row = refl

-- back, back, front, front over the pieces of "A..B.."
pub draw-row : draw ((0, 1) ∷ (2, 2) ∷ (3, 4) ∷ (5, 5) ∷ []) (Back ∷ Back ∷ Front ∷ Front ∷ []) ≡ ((5, 5) ∷ (3, 4) ∷ (0, 1) ∷ (2, 2) ∷ [])
draw-row = refl

-- a script draws no more than there is
pub draw-past : draw ((0, 1) ∷ []) (Front ∷ Back ∷ []) ≡ ((0, 1) ∷ [])
draw-past = refl

pub left_by-row : left_by ((0, 1) ∷ (2, 2) ∷ (3, 4) ∷ []) (Back ∷ []) ≡ ((0, 1) ∷ (2, 2) ∷ [])
left_by-row = refl

pub parts-row : parts_at (97 ∷ 44 ∷ 98 ∷ []) ((0, 1) ∷ (2, 3) ∷ []) ≡ ((97 ∷ []) ∷ (98 ∷ []) ∷ [])
parts-row = refl

pub joined-row : rejoined (44 ∷ []) ((97 ∷ []) ∷ (98 ∷ []) ∷ []) ≡ (97 ∷ 44 ∷ 98 ∷ [])
joined-row = refl

pub together-row : together ((97 ∷ 44 ∷ []) ∷ (98 ∷ []) ∷ []) ≡ (97 ∷ 44 ∷ 98 ∷ [])
together-row = refl

-- "aab" without "a" at its front: two matches, one after another, and no more
pub trim-sequence : IsSequence (text_ends (97 ∷ []) (97 ∷ 97 ∷ 98 ∷ [])) 0 2
unfolding text_ends
trim-sequence = ((0, 1) ∷ (1, 2) ∷ [], (refl, omega arith, refl, (refl, omega arith, refl, refl)))

pub trim-sequence-ends : text_ends (97 ∷ []) (97 ∷ 97 ∷ 98 ∷ []) 2 ≡ None
unfolding text_ends
trim-sequence-ends = refl
