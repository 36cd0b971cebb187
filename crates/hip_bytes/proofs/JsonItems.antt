-- The items of an array, one by one.
use Rattle.std.proofs.Common.{◌≡◌, ◌∙◌, ℕ, ◌+◌, ◌<◌, ◌≤◌, List, [], ◌∷◌, ◌++◌, Some, None, length, drop, get_or, map, suc, take, ap, ap₂, arith, length-take-le, refl, sym, take_all}
use Rattle.std.proofs.Math.Seq.{drop-cons}
use Rattle.std.proofs.lemmas.List.{length-map, map-append, take-append-drop, take_more}
use Rattle.serde_json.specs.Data.{array}
use Rattle.serde_json.specs.View.{items_of, view}
use Rattle.serde_json.specs.declared.value.Value.{Value}
use Rattle.hip_bytes.specs.Json.{AreBytes, IsFirstOther, byte_of, bytes_in, json_byte, json_bytes}
use Rattle.hip_bytes.specs.JsonItems.{read_items}

-- the items of a list of values
pub bytes_in-list : (values : List Value) → bytes_in (items_of (map view values)) ≡ read_items values
bytes_in-list [] = refl
bytes_in-list (value ∷ later) = ap (λ bytes. byte_of (view value) ∷ bytes) (bytes_in-list later)

pub are-bytes : (values : List Value) (bytes : List ℕ) → read_items values ≡ map Some bytes → AreBytes (items_of (map view values)) bytes
are-bytes values bytes read = bytes_in-list values ∙ read

-- one more is a byte
pub read-more : (values : List Value) (bytes : List ℕ) (at byte : ℕ) (value : Value) → at < length values → value ≡ get_or values at value
    → byte_of (view value) ≡ Some byte → read_items (take at values) ≡ map Some bytes → read_items (take (at + 1) values) ≡ map Some (bytes ++ byte ∷ [])
read-more values bytes at byte value within is reads so_far =
    ap read_items (take_more values at value within ∙ ap (λ item. take at values ++ item ∷ []) (sym is))
    ∙ map-append (λ item. byte_of (view item)) (take at values) (value ∷ [])
    ∙ ap (λ front. front ++ byte_of (view value) ∷ []) so_far
    ∙ ap (λ item. map Some bytes ++ item ∷ []) reads
    ∙ sym (map-append Some bytes (byte ∷ []))

-- the next is none
pub first-other : (values : List Value) (bytes : List ℕ) (at : ℕ) (value : Value) → at < length values → value ≡ get_or values at value
    → byte_of (view value) ≡ None → read_items (take at values) ≡ map Some bytes → at ≡ length bytes → IsFirstOther (items_of (map view values)) at
first-other values bytes at value within is reads so_far same =
    let parted : values ≡ take at values ++ value ∷ drop (suc at) values =
    sym (take-append-drop at values) ∙ ap (λ back. take at values ++ back) (drop-cons values at value within ∙ ap (λ item. item ∷ drop (suc at) values) (sym is)) in (
      bytes,
      read_items (drop (suc at) values),
      bytes_in-list values
          ∙ ap read_items parted
          ∙ map-append (λ item. byte_of (view item)) (take at values) (value ∷ drop (suc at) values)
          ∙ ap (λ front. front ++ byte_of (view value) ∷ read_items (drop (suc at) values)) so_far
          ∙ ap (λ item. map Some bytes ++ item ∷ read_items (drop (suc at) values)) reads,
      same,
    )

-- the array of the first bytes has room for one more
pub room-left : (values : List Value) (bytes : List ℕ) (at len room : ℕ) → map view values ≡ map json_byte (take at bytes) → at < length bytes → length bytes ≤ room → len ≡ length values → len < room
room-left values bytes at len room made within fits size =
    let far : length values ≡ at = sym (length-map values view) ∙ ap length made ∙ length-map (take at bytes) json_byte ∙ length-take-le at bytes (omega arith) in
    omega arith

-- one more is made
pub made-more : (values : List Value) (bytes : List ℕ) (at : ℕ) (value : Value) → at < length bytes → map view values ≡ map json_byte (take at bytes)
    → view value ≡ json_byte (get_or bytes at 0) → map view (values ++ value ∷ []) ≡ map json_byte (take (at + 1) bytes)
made-more values bytes at value within made is =
    map-append view values (value ∷ []) ∙ ap₂ (λ front item. front ++ item ∷ []) made is ∙ sym (map-append json_byte (take at bytes) (get_or bytes at 0 ∷ []))
    ∙ ap (map json_byte) (sym (take_more bytes at 0 within))

-- all are made
pub made-all : (values : List Value) (bytes items : List ℕ) (at : ℕ) → map view values ≡ map json_byte (take at bytes) → length bytes ≤ at → bytes ≡ items
    → array (items_of (map view values)) ≡ json_bytes items
made-all values bytes items at made past same = ap (λ l. array (items_of l)) (made ∙ ap (map json_byte) (take_all at bytes past ∙ same))
