-- Worked rows of the definitions, as Rust's `lines` and `split` answer. 44 is ',', 97 is 'a', 98 is 'b', 99 is 'c', 100 is 'd'.
use Rattle.std.specs.Prelude.{◌≡◌, true, false, [], ◌∷◌, refl}
use Rattle.std.specs.Str.{chars}
use Rattle.hip_bytes.specs.declared.kind.Kind.TheVariants.{Allocated, Borrowed}
use Rattle.hip_match.specs.Characters.{char_at}
use Rattle.hip_match.specs.Leftmost.{leftmost_from}
use Rattle.hip_fields.specs.Records.{fields_cost, fields_of, records_of}

-- "a,b\n\nc,,d\r\n" by ','
pub records-row : records_of 44 (97 ∷ 44 ∷ 98 ∷ 10 ∷ 10 ∷ 99 ∷ 44 ∷ 44 ∷ 100 ∷ 13 ∷ 10 ∷ [])
    ≡ (((97 ∷ []) ∷ (98 ∷ []) ∷ []) ∷ ([] ∷ []) ∷ ((99 ∷ []) ∷ [] ∷ (100 ∷ []) ∷ []) ∷ [])
unfolding leftmost_from char_at chars
records-row = refl

-- a text without lines has no record
pub records-empty : records_of 44 [] ≡ []
unfolding leftmost_from char_at chars
records-empty = refl

-- no line holds a line feed: each record has one field, its line
pub records-by-feed : records_of 10 (97 ∷ 44 ∷ 98 ∷ 10 ∷ 99 ∷ []) ≡ (((97 ∷ 44 ∷ 98 ∷ []) ∷ []) ∷ ((99 ∷ []) ∷ []) ∷ [])
unfolding leftmost_from char_at chars
records-by-feed = refl

-- "a\r\nb\r" by '\r': the one before the line feed is the line's end, the other stands between two fields
pub records-by-return : records_of 13 (97 ∷ 13 ∷ 10 ∷ 98 ∷ 13 ∷ []) ≡ (((97 ∷ []) ∷ []) ∷ ((98 ∷ []) ∷ [] ∷ []) ∷ [])
unfolding leftmost_from char_at chars
records-by-return = refl

-- by 'é' of two bytes
pub fields-wide : fields_of 233 (97 ∷ 195 ∷ 169 ∷ 98 ∷ []) ≡ ((97 ∷ []) ∷ (98 ∷ []) ∷ [])
unfolding leftmost_from char_at chars
fields-wide = refl

-- two short fields of allocated bytes copy theirs, of borrowed bytes none
pub short-fields : fields_cost true Allocated ((97 ∷ []) ∷ (98 ∷ 99 ∷ []) ∷ []) ≡ 3
short-fields = refl

pub borrowed-fields : fields_cost false Borrowed ((97 ∷ []) ∷ (98 ∷ 99 ∷ []) ∷ []) ≡ 0
borrowed-fields = refl
