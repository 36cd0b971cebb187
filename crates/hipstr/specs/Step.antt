-- One step of the list machine: what a command may answer, what it leaves of the slots, how many bytes it copies at most, and how
-- many it counts at least.
-- `shares` says whether owners are shared.
use Rattle.std.specs.Prelude.{◌≡◌, ℕ, ◌+◌, ◌-◌, ◌*◌, ◌^◌, ◌<◌, ◌≤◌, ◌⊎◌, Bool, true, false, ◌&&◌, List, [], ◌∷◌, ◌++◌, length, map, take, drop, max, Option, Some, None, is_none, if◌then◌else◌, nat_eq, nat_le, nat_lt, slice_set, MatchOption, Result, Ok, Err, codes, refl}
use Rattle.std.specs.Char.{is_whitespace, to_ascii_lowercase, to_ascii_uppercase}
use Rattle.std.specs.Cmp.Lexicographic.{slice_cmp}
use Rattle.std.specs.List.{join_by, repeat}
use Rattle.std.specs.Option.{option_or, option_map}
use Rattle.std.specs.Ordering.{nat_cmp}
use Rattle.std.specs.Str.{is_utf8}
use Rattle.std.specs.declared.ops.Bound.{Bound}
use Rattle.std.specs.declared.ops.Bound.TheVariants.{Included, Unbounded}
use Rattle.hip_bytes.specs.Change.{IsPushed, IsRewritten, IsShortened, IsShrunk, PopAnswers}
use Rattle.hip_bytes.specs.Cost.{clone_cost, cut_cost, lent_count, owned_cost, push_cost, shortened_cost, shrink_cost, write_cost, CutNeedsMemory, OwnNeedsMemory, PushNeedsMemory, WriteNeedsMemory}
use Rattle.hip_bytes.specs.Join.{join_cost, repeat_cost, repeated_kind, RepeatNeedsMemory}
use Rattle.hip_bytes.specs.Kinds.{by_length, Holds, HoldsByLength, IsEmptyInline}
use Rattle.hip_bytes.specs.Made.{IsOwned, IsPart}
use Rattle.hip_bytes.specs.Meter.{times_copied}
use Rattle.hip_bytes.specs.Range.{slice_fault, slice_of}
use Rattle.hip_bytes.specs.declared.kind.Kind.TheVariants.{Inline as inline_kind, Borrowed as borrowed_kind, Allocated as allocated_kind}
use Rattle.hip_bytes.specs.declared.kind.TheConstants.{INLINE_CAPACITY}
use Rattle.hip_text.specs.Boundary.{is_boundary}
use Rattle.hip_text.specs.Change.{PopCharAnswers}
use Rattle.hip_text.specs.Slice.{text_slice_fault}
use Rattle.hip_cuts.specs.Piece.{IsPartAt, part_cost, parts_cost}
use Rattle.hip_match.specs.Characters.{char_ends}
use Rattle.hip_match.specs.Draw.{draw}
use Rattle.hip_match.specs.declared.draw.End.{End}
use Rattle.hip_names.specs.Components.{path_order}
use Rattle.hipstr.specs.Cut.{Leaves, PutsParts, SomeNeedsMemory, has_back, has_one_end, occurrences, parted, pieces_of, stripped, trims_one_end}
use Rattle.hip_bytes.specs.Handle.{Handle}
use Rattle.hipstr.specs.Parts.{part_count, parts_count}
use Rattle.hipstr.specs.Reason.{reason_of, text_reason_of}
use Rattle.hipstr.specs.Slot.{SlotState, empty_slot, slot_at, state_at, text_at, Replaces}
use Rattle.hipstr.specs.declared.command.Command.{Command}
use Rattle.hipstr.specs.declared.command.Command.TheVariants.{New, Inline, Borrow, Copy, Room, Clone, Slice, Push, Pop, Truncate, Clear, Shrink, Upper, Lower, Set, Repeat, Join, Mutate, Owned, Text, Bytes, Trim, TrimMatches, Strip, Pieces, Once, Compare, ComparePath, Len, Kind, Capacity}
use Rattle.hipstr.specs.declared.command.Answer.{Answer}
use Rattle.hipstr.specs.declared.command.Answer.TheVariants.{Done, Nothing, Number, Order, Byte, Char, Kind as KindOf, Refused}
use Rattle.hipstr.specs.declared.command.How.{How}
use Rattle.hipstr.specs.declared.command.Pat.{Pat}
use Rattle.hipstr.specs.declared.command.Reason.{Reason}
use Rattle.hipstr.specs.declared.command.Side.{Side}
use Rattle.hipstr.specs.declared.command.Reason.TheVariants.{NoSlot, Overlap, NotText, NotBytes, NotUtf8, TooLong, StartOutOfBounds, EndNotACharBoundary, OutOfRange, OneEnd, Memory}

-- a slot that isn't there
abbrev pub slot_fault : List SlotState → ℕ → Option Reason
slot_fault slots i = if nat_lt i (length slots) then None else Some NoSlot

-- a range that the slot doesn't have, which for a text has to begin and end at boundaries
abbrev pub slot_range_fault : List SlotState → ℕ → Bound ℕ → Bound ℕ → Option Reason
slot_range_fault slots s low high =
    if text_at slots s
    then option_map text_reason_of (text_slice_fault low high (slot_at slots s).items)
    else option_map reason_of (slice_fault low high (length (slot_at slots s).items))

-- a slot that is a text, or is none, where the command is for the other
abbrev pub not_bytes_fault : SlotState → Option Reason
not_bytes_fault slot = if slot.is_text then Some NotBytes else None

abbrev pub not_text_fault : SlotState → Option Reason
not_text_fault slot = if slot.is_text then None else Some NotText

-- bytes that are no text
abbrev pub utf8_fault : List ℕ → Option Reason
utf8_fault bytes = if is_utf8 bytes then None else Some NotUtf8

-- an addition to a text that is none
abbrev pub addition_fault : SlotState → List ℕ → Option Reason
addition_fault slot bytes = if slot.is_text then utf8_fault bytes else None

-- a text that is to end within a character
abbrev pub within_fault : List ℕ → ℕ → Option Reason
within_fault text n = if nat_le n (length text) then (if is_boundary text n then None else Some EndNotACharBoundary) else None

abbrev pub end_fault : SlotState → ℕ → Option Reason
end_fault slot n = if slot.is_text then within_fault slot.handle.items n else None

-- a byte that is to be set in a text, or past the bytes; and bytes that are to be a text, and are one already or none
abbrev pub set_fault : SlotState → ℕ → Option Reason
set_fault slot i = option_or (not_bytes_fault slot) (if nat_lt i (length slot.handle.items) then None else Some OutOfRange)

abbrev pub text_fault : SlotState → Option Reason
text_fault slot = option_or (not_bytes_fault slot) (utf8_fault slot.handle.items)

-- a length that is no `usize`
abbrev pub length_fault : ℕ → Option Reason
length_fault len = if nat_lt len (2 ^ 64) then None else Some TooLong

-- slots that aren't all there
abbrev pub slots_fault : List SlotState → ℕ → ℕ → Option Reason
slots_fault slots first count = if nat_le (first + count) (length slots) then None else Some NoSlot

-- slots that a command would both take from and put to
abbrev pub overlap_fault : ℕ → ℕ → ℕ → Option Reason
overlap_fault s first count = if nat_le first s && nat_lt s (first + count) then Some Overlap else None

-- the fault of asking the other end of pieces that come from one end alone
abbrev pub one_end_fault : Bool → Option Reason
one_end_fault is_asked = if is_asked then Some OneEnd else None

-- the ranges at which a text is trimmed, stripped, and parted in two; and those of the pieces that a script draws
abbrev pub TrimsTo : List SlotState → ℕ → Side → ℕ × ℕ → Type 0
TrimsTo slots s side range = Leaves side (char_ends is_whitespace (slot_at slots s).items) (length (slot_at slots s).items) range

abbrev pub TrimsMatchesTo : List SlotState → ℕ → Side → Pat → ℕ × ℕ → Type 0
TrimsMatchesTo slots s side pattern range = Leaves side (occurrences pattern (slot_at slots s).items) (length (slot_at slots s).items) range

abbrev pub stripped_slot : List SlotState → ℕ → End → Pat → Option (ℕ × ℕ)
stripped_slot slots s end pattern = stripped end (occurrences pattern (slot_at slots s).items) (length (slot_at slots s).items)

abbrev pub parted_slot : List SlotState → ℕ → End → Pat → Option ((ℕ × ℕ) × (ℕ × ℕ))
parted_slot slots s end pattern = parted end (occurrences pattern (slot_at slots s).items) (length (slot_at slots s).items)

abbrev pub drawn_of : List SlotState → ℕ → How → List End → List (ℕ × ℕ)
drawn_of slots s how script = draw (pieces_of how (slot_at slots s).items) script

-- the items of a slot
abbrev pub items_of : SlotState → List ℕ
items_of slot = slot.handle.items

-- the items of `count` slots from `first` on, with the separator between each two
abbrev pub joined_slots : List SlotState → ℕ → ℕ → List ℕ → List ℕ
joined_slots slots first count sep = join_by items_of sep (take count (drop first slots))

-- why the command is refused whatever memory there is: the first reason, or none
abbrev pub fault_of : List SlotState → Command → Option Reason
fault_of slots (New t) = slot_fault slots t
fault_of slots (Inline t bytes) =
    option_or (slot_fault slots t) (if nat_le (length bytes.now) INLINE_CAPACITY then None else Some TooLong)
fault_of slots (Borrow t bytes) = slot_fault slots t
fault_of slots (Copy t bytes) = slot_fault slots t
fault_of slots (Room t capacity) = slot_fault slots t
fault_of slots (Clone s t) = option_or (slot_fault slots s) (slot_fault slots t)
fault_of slots (Slice s t low high) =
    option_or (slot_fault slots s) (option_or (slot_fault slots t) (slot_range_fault slots s low high))
fault_of slots (Push t bytes) = option_or (slot_fault slots t) (addition_fault (state_at slots t) bytes.now)
fault_of slots (Pop t) = slot_fault slots t
fault_of slots (Truncate t n) = option_or (slot_fault slots t) (end_fault (state_at slots t) n)
fault_of slots (Clear t) = slot_fault slots t
fault_of slots (Shrink t least) = slot_fault slots t
fault_of slots (Upper t) = slot_fault slots t
fault_of slots (Lower t) = slot_fault slots t
fault_of slots (Set t i byte) =
    option_or (slot_fault slots t) (set_fault (state_at slots t) i)
fault_of slots (Repeat s t n) =
    option_or (slot_fault slots s) (option_or (slot_fault slots t) (length_fault (n * length (slot_at slots s).items)))
fault_of slots (Join first count sep t) =
    option_or (slots_fault slots first count) (option_or (slot_fault slots t)
    (length_fault (length (joined_slots slots first count sep.now))))
fault_of slots (Mutate t bytes) = option_or (slot_fault slots t) (addition_fault (state_at slots t) bytes.now)
fault_of slots (Owned t) = slot_fault slots t
fault_of slots (Text t) = option_or (slot_fault slots t) (text_fault (state_at slots t))
fault_of slots (Bytes t) = option_or (slot_fault slots t) (not_text_fault (state_at slots t))
fault_of slots (Trim s t side) = option_or (slot_fault slots s) (option_or (slot_fault slots t) (not_text_fault (state_at slots s)))
fault_of slots (TrimMatches s t side pattern) =
    option_or (slot_fault slots s) (option_or (slot_fault slots t) (option_or (not_text_fault (state_at slots s))
    (one_end_fault (trims_one_end side pattern))))
fault_of slots (Strip s t end pattern) = option_or (slot_fault slots s) (option_or (slot_fault slots t) (not_text_fault (state_at slots s)))
fault_of slots (Pieces s how script first) =
    option_or (slot_fault slots s) (option_or (slots_fault slots first (length script.now)) (option_or (overlap_fault s first (length script.now))
    (option_or (not_text_fault (state_at slots s)) (one_end_fault (has_one_end how && has_back script.now)))))
fault_of slots (Once s t u end pattern) =
    option_or (slot_fault slots s) (option_or (slot_fault slots t) (option_or (slot_fault slots u) (option_or (overlap_fault t u 1)
    (not_text_fault (state_at slots s)))))
fault_of slots (Compare s t) = option_or (slot_fault slots s) (slot_fault slots t)
fault_of slots (ComparePath s t) = option_or (slot_fault slots s) (slot_fault slots t)
fault_of slots (Len t) = slot_fault slots t
fault_of slots (Kind t) = slot_fault slots t
fault_of slots (Capacity t) = slot_fault slots t

-- a command without a fault may be refused for lack of memory
abbrev pub MayNeedMemory : Bool → List SlotState → Command → Type 0
MayNeedMemory shares slots (Copy t bytes) = INLINE_CAPACITY < length bytes.now
MayNeedMemory shares slots (Room t capacity) = INLINE_CAPACITY < capacity
MayNeedMemory shares slots (Clone s t) = (slot_at slots s).kind ≡ allocated_kind
MayNeedMemory shares slots (Slice s t low high) = CutNeedsMemory (slot_at slots s).kind (length (slice_of low high (slot_at slots s).items))
MayNeedMemory shares slots (Push t bytes) = PushNeedsMemory shares (slot_at slots t).kind (slot_at slots t).capacity (length (slot_at slots t).items) (length bytes.now)
MayNeedMemory shares slots (Shrink t least) = CutNeedsMemory (slot_at slots t).kind (max least (length (slot_at slots t).items))
MayNeedMemory shares slots (Upper t) = WriteNeedsMemory shares (slot_at slots t).kind (length (slot_at slots t).items)
MayNeedMemory shares slots (Lower t) = WriteNeedsMemory shares (slot_at slots t).kind (length (slot_at slots t).items)
MayNeedMemory shares slots (Set t i byte) = WriteNeedsMemory shares (slot_at slots t).kind (length (slot_at slots t).items)
MayNeedMemory shares slots (Repeat s t n) = RepeatNeedsMemory (slot_at slots s).kind (length (slot_at slots s).items) n
MayNeedMemory shares slots (Join first count sep t) = Unit {0}
MayNeedMemory shares slots (Mutate t bytes) = Unit {0}
MayNeedMemory shares slots (Owned t) = OwnNeedsMemory (slot_at slots t).kind (length (slot_at slots t).items)
MayNeedMemory shares slots (Trim s t side) = (range : ℕ × ℕ) × TrimsTo slots s side range × CutNeedsMemory (slot_at slots s).kind (range.1 - range.0)
MayNeedMemory shares slots (TrimMatches s t side pattern) =
    (range : ℕ × ℕ) × TrimsMatchesTo slots s side pattern range × CutNeedsMemory (slot_at slots s).kind (range.1 - range.0)
MayNeedMemory shares slots (Strip s t end pattern) =
    MatchOption (stripped_slot slots s end pattern) ⊥ (λ range. CutNeedsMemory (slot_at slots s).kind (range.1 - range.0))
MayNeedMemory shares slots (Pieces s how script first) = SomeNeedsMemory (slot_at slots s).kind (drawn_of slots s how script.now)
MayNeedMemory shares slots (Once s t u end pattern) =
    MatchOption (parted_slot slots s end pattern) ⊥ (λ parts. SomeNeedsMemory (slot_at slots s).kind (parts.0 ∷ parts.1 ∷ []))
-- no other may
MayNeedMemory shares slots command = ⊥

-- A command that has no fault may give this answer and go on from the old slots to the new. Each case names the slot that it
-- changes, its target; every other slot is as it was.
abbrev pub Performs : Bool → List SlotState → Command → Answer → List SlotState → Type 0
-- A refused Mutate leaves its target as it was, or with its old items by length, or empty: never with half of the addition.
Performs shares old (Mutate t bytes) (Refused Memory) new =
    (new ≡ old) ⊎ (Replaces old new t (text_at old t) (λ slot. HoldsByLength slot (slot_at old t).items) ⊎ Replaces old new t (text_at old t) IsEmptyInline)
Performs shares old command (Refused Memory) new = MayNeedMemory shares old command × (new ≡ old)
Performs shares old (New t) Done new = Replaces old new t false IsEmptyInline
Performs shares old (Inline t bytes) Done new = Replaces old new t false (λ slot. Holds slot inline_kind bytes.now)
Performs shares old (Borrow t bytes) Done new = Replaces old new t false (λ slot. Holds slot borrowed_kind bytes.now)
Performs shares old (Copy t bytes) Done new = Replaces old new t false (λ slot. HoldsByLength slot bytes.now)
Performs shares old (Room t capacity) Done new = Replaces old new t false (λ slot. Holds slot (by_length capacity) [] × (capacity ≤ slot.capacity))
Performs shares old (Clone s t) Done new =
    let source = slot_at old s in
    Replaces old new t (text_at old s) (λ slot. Holds slot source.kind source.items)
Performs shares old (Slice s t low high) Done new =
    let source = slot_at old s in
    Replaces old new t (text_at old s) (λ slot. IsPart source slot (slice_of low high source.items))
Performs shares old (Push t bytes) Done new = Replaces old new t (text_at old t) (λ slot. IsPushed shares (slot_at old t) slot bytes.now)
Performs shares old (Pop t) (Byte byte) new =
    (text_at old t ≡ false) × Replaces old new t false (λ slot. PopAnswers (slot_at old t) (Some byte) slot)
Performs shares old (Pop t) (Char c) new =
    (text_at old t ≡ true) × Replaces old new t true (λ slot. PopCharAnswers (slot_at old t) (Some c) slot)
Performs shares old (Pop t) Nothing new = ((slot_at old t).items ≡ []) × (new ≡ old)
Performs shares old (Truncate t n) Done new = Replaces old new t (text_at old t) (λ slot. IsShortened (slot_at old t) slot n)
Performs shares old (Clear t) Done new = Replaces old new t (text_at old t) (λ slot. IsShortened (slot_at old t) slot 0)
Performs shares old (Shrink t least) Done new =
    let target = slot_at old t in
    Replaces old new t (text_at old t) (λ slot. IsShrunk target slot (max least (length target.items)))
Performs shares old (Upper t) Done new =
    let target = slot_at old t in
    Replaces old new t (text_at old t) (λ slot. IsRewritten shares target slot (map to_ascii_uppercase target.items))
Performs shares old (Lower t) Done new =
    let target = slot_at old t in
    Replaces old new t (text_at old t) (λ slot. IsRewritten shares target slot (map to_ascii_lowercase target.items))
Performs shares old (Set t i byte) Done new =
    let target = slot_at old t in
    Replaces old new t false (λ slot. IsRewritten shares target slot (slice_set target.items i byte))
Performs shares old (Repeat s t n) Done new =
    let source = slot_at old s in
    Replaces old new t (text_at old s) (λ slot. Holds slot (repeated_kind source.kind (length source.items) n) (repeat n source.items))
Performs shares old (Join first count sep t) Done new = Replaces old new t false (λ slot. HoldsByLength slot (joined_slots old first count sep.now))
Performs shares old (Mutate t bytes) Done new = Replaces old new t (text_at old t) (λ slot. HoldsByLength slot ((slot_at old t).items ++ bytes.now))
Performs shares old (Owned t) Done new = Replaces old new t (text_at old t) (λ slot. IsOwned (slot_at old t) slot)
Performs shares old (Text t) Done new = Replaces old new t true (λ slot. slot ≡ slot_at old t)
Performs shares old (Bytes t) Done new = Replaces old new t false (λ slot. slot ≡ slot_at old t)
Performs shares old (Trim s t side) Done new =
    (range : ℕ × ℕ) × TrimsTo old s side range × Replaces old new t true (IsPartAt (slot_at old s) range)
Performs shares old (TrimMatches s t side pattern) Done new =
    (range : ℕ × ℕ) × TrimsMatchesTo old s side pattern range × Replaces old new t true (IsPartAt (slot_at old s) range)
Performs shares old (Strip s t end pattern) Done new =
    MatchOption (stripped_slot old s end pattern) ⊥ (λ range. Replaces old new t true (IsPartAt (slot_at old s) range))
Performs shares old (Strip s t end pattern) Nothing new = (stripped_slot old s end pattern ≡ None) × (new ≡ old)
Performs shares old (Pieces s how script first) (Number n) new =
    let ranges = drawn_of old s how script.now in
    (n ≡ length ranges) × PutsParts (slot_at old s) old first ranges new
Performs shares old (Once s t u end pattern) Done new =
    let source = slot_at old s in
    MatchOption (parted_slot old s end pattern) ⊥ (λ parts. (between : List SlotState)
    × Replaces old between t true (IsPartAt source parts.0) × Replaces between new u true (IsPartAt source parts.1))
Performs shares old (Once s t u end pattern) Nothing new = (parted_slot old s end pattern ≡ None) × (new ≡ old)
Performs shares old (Compare s t) (Order order) new = (order ≡ slice_cmp nat_cmp (slot_at old s).items (slot_at old t).items) × (new ≡ old)
Performs shares old (ComparePath s t) (Order order) new = (order ≡ path_order (slot_at old s).items (slot_at old t).items) × (new ≡ old)
Performs shares old (Len t) (Number n) new = (n ≡ length (slot_at old t).items) × (new ≡ old)
Performs shares old (Kind t) (KindOf kind) new = (kind ≡ (slot_at old t).kind) × (new ≡ old)
Performs shares old (Capacity t) (Number n) new = (n ≡ (slot_at old t).capacity) × (new ≡ old)
-- no other answer is given
Performs shares old command answer new = ⊥

-- One step: a command with a fault answers it and changes nothing, any other is performed.
abbrev pub Step : Bool → List SlotState → Command → Answer → List SlotState → Type 0
Step shares old command answer new =
    MatchOption (fault_of old command) (Performs shares old command answer new) (λ reason. (answer ≡ Refused reason) × (new ≡ old))

-- A call on one slot may answer this, and go on from the old slot to the new: its fault; or that it is done, and then the slot is a text or
-- bytes, of whose handle P holds; or that memory was refused, where it may need some. Where it is refused the slot is as it was.
abbrev pub SlotAnswers : Option Reason → Type 0 → Bool → (Handle → Type 0) → SlotState → Result Answer Reason → SlotState → Type 0
SlotAnswers fault Needs is_text P old (Ok answer) new = (fault ≡ None) × (answer ≡ Done) × (new.is_text ≡ is_text) × P new.handle
SlotAnswers fault Needs is_text P old (Err reason) new = MatchOption fault ((reason ≡ Memory) × Needs) (λ first. reason ≡ first) × (new ≡ old)

-- a Mutate of one slot: where it is refused for memory the slot is as it was, or holds its old items by length, or is empty
abbrev pub IsHalfMutated : Handle → Handle → Type 0
IsHalfMutated old new = (new ≡ old) ⊎ (HoldsByLength new old.items ⊎ IsEmptyInline new)

abbrev pub SlotMutates : List ℕ → SlotState → Result Answer Reason → SlotState → Type 0
SlotMutates bytes old (Ok answer) new =
    (addition_fault old bytes ≡ None) × (answer ≡ Done) × (new.is_text ≡ old.is_text) × HoldsByLength new.handle (old.handle.items ++ bytes)
SlotMutates bytes old (Err reason) new =
    MatchOption (addition_fault old bytes) ((reason ≡ Memory) × (new.is_text ≡ old.is_text) × IsHalfMutated old.handle new.handle) (λ first. (reason ≡ first) × (new ≡ old))

-- a slot's last byte or character is taken off, where there is one
abbrev pub SlotPops : SlotState → Answer → SlotState → Type 0
SlotPops old (Byte byte) new = (old.is_text ≡ false) × (new.is_text ≡ false) × PopAnswers old.handle (Some byte) new.handle
SlotPops old (Char c) new = (old.is_text ≡ true) × (new.is_text ≡ true) × PopCharAnswers old.handle (Some c) new.handle
SlotPops old Nothing new = (old.handle.items ≡ []) × (new ≡ old)
SlotPops old answer new = ⊥

-- the cost of something that there may be
abbrev pub option_cost : {A : Type 0} → (A → ℕ) → Option A → ℕ
option_cost cost None = 0
option_cost cost (Some a) = cost a

-- the bytes that a Mutate copies at most: all out of the slot, and in again
abbrev pub mutate_cost : Bool → ℕ → ℕ → ℕ
mutate_cost shares len added = len + (if shares then INLINE_CAPACITY else len + added)

-- the greatest number of bytes that a command without a fault copies, but for a trim, of which `Costs` tells
abbrev pub copies_of : Bool → List SlotState → Command → ℕ
copies_of shares slots (Inline t bytes) = length bytes.now
copies_of shares slots (Copy t bytes) = times_copied shares (length bytes.now)
copies_of shares slots (Clone s t) = clone_cost shares (slot_at slots s).kind (length (slot_at slots s).items)
copies_of shares slots (Slice s t low high) = cut_cost shares (slot_at slots s).kind (length (slice_of low high (slot_at slots s).items))
copies_of shares slots (Push t bytes) = push_cost shares (length (slot_at slots t).items) (length bytes.now)
copies_of shares slots (Pop t) = shortened_cost (slot_at slots t).kind
copies_of shares slots (Truncate t n) = shortened_cost (slot_at slots t).kind
copies_of shares slots (Clear t) = shortened_cost (slot_at slots t).kind
copies_of shares slots (Shrink t least) = shrink_cost shares (slot_at slots t).kind (length (slot_at slots t).items)
copies_of shares slots (Upper t) = write_cost shares (slot_at slots t).kind (length (slot_at slots t).items)
copies_of shares slots (Lower t) = write_cost shares (slot_at slots t).kind (length (slot_at slots t).items)
copies_of shares slots (Set t i byte) = write_cost shares (slot_at slots t).kind (length (slot_at slots t).items)
copies_of shares slots (Repeat s t n) = repeat_cost shares (slot_at slots s).kind (length (slot_at slots s).items) n
copies_of shares slots (Join first count sep t) = join_cost shares (length (joined_slots slots first count sep.now))
copies_of shares slots (Mutate t bytes) = mutate_cost shares (length (slot_at slots t).items) (length bytes.now)
copies_of shares slots (Owned t) = owned_cost shares (slot_at slots t).kind (length (slot_at slots t).items)
copies_of shares slots (Strip s t end pattern) = option_cost (part_cost shares (slot_at slots s)) (stripped_slot slots s end pattern)
copies_of shares slots (Pieces s how script first) = parts_cost shares (slot_at slots s) (drawn_of slots s how script.now)
copies_of shares slots (Once s t u end pattern) =
    option_cost (λ parts. parts_cost shares (slot_at slots s) (parts.0 ∷ parts.1 ∷ [])) (parted_slot slots s end pattern)
-- any other copies none
copies_of shares slots command = 0

-- the bytes that a command counts at least where it is done: those that it is given or adds; those of a clone, but for an owner's that is
-- shared; those of each part, but for what it shares with its source; those that another value lent and that are made the slot's own, or
-- written over; and those of a repetition, but where that is a clone, and of a join. Any other may count none.
abbrev pub counts_of : Bool → List SlotState → Command → Answer → List SlotState → ℕ
counts_of shares old (Inline t bytes) Done new = length bytes.now
counts_of shares old (Copy t bytes) Done new = length bytes.now
counts_of shares old (Clone s t) Done new = clone_cost shares (slot_at old s).kind (length (slot_at old s).items)
counts_of shares old (Slice s t low high) Done new = part_count shares (slot_at old s) (state_at new t)
counts_of shares old (Push t bytes) Done new = length bytes.now
counts_of shares old (Upper t) Done new = lent_count (slot_at old t).kind (length (slot_at old t).items)
counts_of shares old (Lower t) Done new = lent_count (slot_at old t).kind (length (slot_at old t).items)
counts_of shares old (Set t i byte) Done new = lent_count (slot_at old t).kind (length (slot_at old t).items)
counts_of shares old (Repeat s t n) Done new = if nat_eq n 1 then 0 else n * length (slot_at old s).items
counts_of shares old (Join first count sep t) Done new = length (joined_slots old first count sep.now)
counts_of shares old (Owned t) Done new = lent_count (slot_at old t).kind (length (slot_at old t).items)
counts_of shares old (Trim s t side) Done new = part_count shares (slot_at old s) (state_at new t)
counts_of shares old (TrimMatches s t side pattern) Done new = part_count shares (slot_at old s) (state_at new t)
counts_of shares old (Strip s t end pattern) Done new = part_count shares (slot_at old s) (state_at new t)
counts_of shares old (Pieces s how script first) (Number n) new = parts_count shares (slot_at old s) (take n (drop first new))
counts_of shares old (Once s t u end pattern) Done new =
    part_count shares (slot_at old s) (state_at new t) + part_count shares (slot_at old s) (state_at new u)
counts_of shares old command answer new = 0

-- the bytes that are copied, none where there is a fault
abbrev pub unless : Option Reason → ℕ → ℕ
unless fault copied = if is_none fault then copied else 0

-- the cost of a command: the greatest number of bytes that it copies; one with a fault copies none
abbrev pub cost_of : Bool → List SlotState → Command → ℕ
cost_of shares slots command = unless (fault_of slots command) (copies_of shares slots command)

-- the bytes that a command copies at most: a trim as many as the part that it leaves has, any other its cost
abbrev pub Costs : Bool → List SlotState → Command → ℕ → Type 0
Costs shares slots (Trim s t side) cost =
    MatchOption (fault_of slots (Trim s t side))
    ((range : ℕ × ℕ) × TrimsTo slots s side range × (cost ≡ part_cost shares (slot_at slots s) range)) (λ reason. cost ≡ 0)
Costs shares slots (TrimMatches s t side pattern) cost =
    MatchOption (fault_of slots (TrimMatches s t side pattern))
    ((range : ℕ × ℕ) × TrimsMatchesTo slots s side pattern range × (cost ≡ part_cost shares (slot_at slots s) range)) (λ reason. cost ≡ 0)
Costs shares slots command cost = cost ≡ cost_of shares slots command

-- of two faults the first is told: no slot 3, and `5..` of the empty list
pub no_slot_first : fault_of (empty_slot ∷ []) (Slice 0 3 (Included 5) Unbounded) ≡ Some NoSlot
no_slot_first = refl

pub then_the_range : fault_of (empty_slot ∷ []) (Slice 0 0 (Included 5) Unbounded) ≡ Some StartOutOfBounds
then_the_range = refl

-- "ab" and an empty slot, with "-" between; from the end on there are no slots, and not one
pub two_joined : joined_slots (record { is_text = true; handle = record { kind = inline_kind; items = codes "ab"; capacity = INLINE_CAPACITY } } ∷ empty_slot ∷ []) 0 2 (codes "-") ≡ codes "ab-"
two_joined = refl

pub none_at_the_end : (slots_fault (empty_slot ∷ []) 1 0 ≡ None) × (slots_fault (empty_slot ∷ []) 1 1 ≡ Some NoSlot)
none_at_the_end = (refl, refl)

-- a byte is set in bytes alone, whatever the position; `é` isn't cut in two
abbrev pub a_text : List SlotState
a_text = record { is_text = true; handle = record { kind = inline_kind; items = 195 ∷ 169 ∷ []; capacity = INLINE_CAPACITY } } ∷ []

pub not_bytes_first : fault_of a_text (Set 0 5 65) ≡ Some NotBytes
not_bytes_first = refl

pub never_within : (fault_of a_text (Truncate 0 1) ≡ Some EndNotACharBoundary) × (fault_of a_text (Truncate 0 3) ≡ None)
never_within = (refl, refl)
