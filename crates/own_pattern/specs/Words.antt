-- Each word of docs/DEFINITIONS.md that hipstr hands on. Written by docs/check-words.
pub use Rattle.hipstr.specs.Alike.{Alike as Alike-Alike}
pub use Rattle.hipstr.specs.Allocated.{LiesIn as Allocated-LiesIn}
pub use Rattle.hipstr.specs.Amortised.{CostsAmortised as Amortised-CostsAmortised, RunAmortised as Amortised-RunAmortised, pots as Amortised-pots, rises as Amortised-rises}
pub use Rattle.hipstr.specs.Answers.{answer_at as Answers-answer_at}
pub use Rattle.hipstr.specs.Appended.{OnDone as Appended-OnDone, OnMemory as Appended-OnMemory, OnRefused as Appended-OnRefused, OnShared as Appended-OnShared}
pub use Rattle.hipstr.specs.AsciiSets.{in_set as AsciiSets-in_set}
pub use Rattle.hipstr.specs.Bits.{IsLowest as Bits-IsLowest}
pub use Rattle.hipstr.specs.Block.{IsNoBlock as Block-IsNoBlock}
pub use Rattle.hipstr.specs.Borrowed.{borrowed_bytes as Borrowed-borrowed_bytes}
pub use Rattle.hipstr.specs.Borsh.{BorshReads as Borsh-BorshReads, BorshRoundTrip as Borsh-BorshRoundTrip, BorshWrites as Borsh-BorshWrites, CountsReads as Borsh-CountsReads, CountsWrites as Borsh-CountsWrites, IsUnfinished as Borsh-IsUnfinished, borsh_form as Borsh-borsh_form, form_length as Borsh-form_length}
pub use Rattle.hipstr.specs.BorshText.{BorshReadsText as BorshText-BorshReadsText}
pub use Rattle.hipstr.specs.Boundary.{is_boundary as Boundary-is_boundary}
pub use Rattle.hipstr.specs.Buffer.{IsBuffer as Buffer-IsBuffer}
pub use Rattle.hipstr.specs.Bytes.{IsWithin as Bytes-IsWithin, byte_ends as Bytes-byte_ends, byte_lines as Bytes-byte_lines}
pub use Rattle.hipstr.specs.Change.{IsPushed as Change-IsPushed, IsRewritten as Change-IsRewritten, IsShortened as Change-IsShortened, IsShrunk as Change-IsShrunk, PopAnswers as Change-PopAnswers, PushAnswers as Change-PushAnswers, PushesText as Change-PushesText, ShrinkAnswers as Change-ShrinkAnswers, WriteAnswers as Change-WriteAnswers}
pub use Rattle.hipstr.specs.CharLaws.{StartsChar as CharLaws-StartsChar}
pub use Rattle.hipstr.specs.Characters.{char_ends as Characters-char_ends}
pub use Rattle.hipstr.specs.Clones.{ClonesKeep as Clones-ClonesKeep, Keeps as Clones-Keeps, KeepsPattern as Clones-KeepsPattern, KeepsRanges as Clones-KeepsRanges}
pub use Rattle.hipstr.specs.Components.{Component as Components-Component, component_order as Components-component_order, components as Components-components, path_order as Components-path_order, rank as Components-rank}
pub use Rattle.hipstr.specs.Cost.{CopyNeedsMemory as Cost-CopyNeedsMemory, CutNeedsMemory as Cost-CutNeedsMemory, ExtendNeedsMemory as Cost-ExtendNeedsMemory, GrowthNeedsMemory as Cost-GrowthNeedsMemory, OwnNeedsMemory as Cost-OwnNeedsMemory, PartCounts as Cost-PartCounts, PushIsPaid as Cost-PushIsPaid, PushNeedsMemory as Cost-PushNeedsMemory, WriteNeedsMemory as Cost-WriteNeedsMemory, clone_cost as Cost-clone_cost, cut_cost as Cost-cut_cost, extend_cost as Cost-extend_cost, handle_pot as Cost-handle_pot, lent_count as Cost-lent_count, owned_cost as Cost-owned_cost, pot_of as Cost-pot_of, push_cost as Cost-push_cost, shortened_cost as Cost-shortened_cost, shrink_cost as Cost-shrink_cost, taken_cost as Cost-taken_cost, write_cost as Cost-write_cost, written_cost as Cost-written_cost}
pub use Rattle.hipstr.specs.Cut.{Leaves as Cut-Leaves, PutsParts as Cut-PutsParts, SomeNeedsMemory as Cut-SomeNeedsMemory, has_back as Cut-has_back, has_one_end as Cut-has_one_end, is_both as Cut-is_both, is_text as Cut-is_text, occurrences as Cut-occurrences, parted as Cut-parted, pieces_of as Cut-pieces_of, stripped as Cut-stripped, trims_one_end as Cut-trims_one_end}
pub use Rattle.hipstr.specs.Decode.{CloneErrorAnswers as Decode-CloneErrorAnswers, FromUtf8Answers as Decode-FromUtf8Answers, IsCauseOf as Decode-IsCauseOf, ReadAnswers as Decode-ReadAnswers, Utf8Failure as Decode-Utf8Failure, refusal_of as Decode-refusal_of}
pub use Rattle.hipstr.specs.Displayed.{displayed as Displayed-displayed}
pub use Rattle.hipstr.specs.Draw.{backs as Draw-backs, draw as Draw-draw, fronts as Draw-fronts, left_by as Draw-left_by}
pub use Rattle.hipstr.specs.Fault.{bytes_fault_text as Fault-bytes_fault_text, utf16_fault_text as Fault-utf16_fault_text}
pub use Rattle.hipstr.specs.Fed.{path_fed as Fed-path_fed}
pub use Rattle.hipstr.specs.FormatFault.{borsh_fault_text as FormatFault-borsh_fault_text, json_fault_text as FormatFault-json_fault_text}
pub use Rattle.hipstr.specs.Fuse.{calls_before as Fuse-calls_before, inner_of as Fuse-inner_of, most_of as Fuse-most_of}
pub use Rattle.hipstr.specs.GrowFault.{grow_fault_text as GrowFault-grow_fault_text}
pub use Rattle.hipstr.specs.Handle.{Handle as Handle-Handle}
pub use Rattle.hipstr.specs.Held.{Held as Held-Held, IsTakenOver as Held-IsTakenOver, OwnAnswers as Held-OwnAnswers, held_capacity as Held-held_capacity, held_items as Held-held_items}
pub use Rattle.hipstr.specs.Inline.{LendsBytes as Inline-LendsBytes}
pub use Rattle.hipstr.specs.Iterators.{Gives as Iterators-Gives, GivesAlike as Iterators-GivesAlike, GivesBytes as Iterators-GivesBytes, LiesBetween as Iterators-LiesBetween, LiesBetweenBack as Iterators-LiesBetweenBack}
pub use Rattle.hipstr.specs.Join.{GivesAll as Join-GivesAll, GivesFirst as Join-GivesFirst, RepeatNeedsMemory as Join-RepeatNeedsMemory, bytes_of as Join-bytes_of, is_plain as Join-is_plain, join_cost as Join-join_cost, joined as Join-joined, one_byte as Join-one_byte, repeat_cost as Join-repeat_cost, repeated_kind as Join-repeated_kind}
pub use Rattle.hipstr.specs.Joined.{parts_at as Joined-parts_at, rejoined as Joined-rejoined, together as Joined-together}
pub use Rattle.hipstr.specs.Json.{AreBytes as Json-AreBytes, IsFirstOther as Json-IsFirstOther, JsonReadsArray as Json-JsonReadsArray, JsonReadsBytes as Json-JsonReadsBytes, JsonReadsString as Json-JsonReadsString, JsonReadsUnix as Json-JsonReadsUnix, byte_of as Json-byte_of, bytes_in as Json-bytes_in, json_byte as Json-json_byte, json_bytes as Json-json_bytes, json_unix as Json-json_unix, only_unix as Json-only_unix, unix_of as Json-unix_of}
pub use Rattle.hipstr.specs.JsonPath.{JsonPathAnswers as JsonPath-JsonPathAnswers}
pub use Rattle.hipstr.specs.Kinds.{HasCapacity as Kinds-HasCapacity, Holds as Kinds-Holds, HoldsByLength as Kinds-HoldsByLength, IsEmptyInline as Kinds-IsEmptyInline, PushedKind as Kinds-PushedKind, by_length as Kinds-by_length, cut_kind as Kinds-cut_kind, kept_capacity as Kinds-kept_capacity, owned_kind as Kinds-owned_kind}
pub use Rattle.hipstr.specs.Laws.{BorrowedCopyNothing as Laws-BorrowedCopyNothing, InOrderCopyOnce as Laws-InOrderCopyOnce, SharedCopyLittle as Laws-SharedCopyLittle}
pub use Rattle.hipstr.specs.Leftmost.{IsLeftmost as Leftmost-IsLeftmost, leftmost as Leftmost-leftmost, leftmost_between as Leftmost-leftmost_between, leftmost_from as Leftmost-leftmost_from}
pub use Rattle.hipstr.specs.Lines.{AreLines as Lines-AreLines, EndsLine as Lines-EndsLine}
pub use Rattle.hipstr.specs.Little.{CopiesLittle as Little-CopiesLittle, parts_made as Little-parts_made}
pub use Rattle.hipstr.specs.Made.{CloneAnswers as Made-CloneAnswers, CopyAnswers as Made-CopyAnswers, CutAnswers as Made-CutAnswers, ExtendAnswers as Made-ExtendAnswers, ExtendCosts as Made-ExtendCosts, GatherAnswers as Made-GatherAnswers, GatherCosts as Made-GatherCosts, IsOwned as Made-IsOwned, IsPart as Made-IsPart, JoinAnswers as Made-JoinAnswers, MakeAnswers as Made-MakeAnswers, OwnedAnswers as Made-OwnedAnswers, RepeatAnswers as Made-RepeatAnswers}
pub use Rattle.hipstr.specs.Marks.{Ahead as Marks-Ahead, Behind as Marks-Behind, has_nibbles as Marks-has_nibbles, in_rows as Marks-in_rows}
pub use Rattle.hipstr.specs.Meter.{RisesAtLeast as Meter-RisesAtLeast, RisesAtMost as Meter-RisesAtMost, RisesBy as Meter-RisesBy, append_copies as Meter-append_copies, count_from as Meter-count_from, pot as Meter-pot, times_copied as Meter-times_copied, unless_shared as Meter-unless_shared}
pub use Rattle.hipstr.specs.Mutated.{MutateAnswers as Mutated-MutateAnswers, MutateCosts as Mutated-MutateCosts, Ran as Mutated-Ran, TakesItems as Mutated-TakesItems}
pub use Rattle.hipstr.specs.NameDecode.{IntoStrAnswers as NameDecode-IntoStrAnswers, ToStrAnswers as NameDecode-ToStrAnswers}
pub use Rattle.hipstr.specs.Occurrence.{GoesOnAt as Occurrence-GoesOnAt, GoesOnBefore as Occurrence-GoesOnBefore, IsCut as Occurrence-IsCut, IsLastMatch as Occurrence-IsLastMatch, IsNextMatch as Occurrence-IsNextMatch, start_of as Occurrence-start_of}
pub use Rattle.hipstr.specs.Parted.{IsParted as Parted-IsParted, Lacks as Parted-Lacks}
pub use Rattle.hipstr.specs.Parts.{part_count as Parts-part_count, parts_count as Parts-parts_count}
pub use Rattle.hipstr.specs.PathCuts.{ParentAnswers as PathCuts-ParentAnswers, ParentCosts as PathCuts-ParentCosts, PartIfAny as PathCuts-PartIfAny, PartIfAnyCosts as PathCuts-PartIfAnyCosts, PartIfAnyCounts as PathCuts-PartIfAnyCounts}
pub use Rattle.hipstr.specs.PathParts.{BeginWith as PathParts-BeginWith, EndWith as PathParts-EndWith, HasNoParent as PathParts-HasNoParent, IsParent as PathParts-IsParent, IsTrimmed as PathParts-IsTrimmed, extension as PathParts-extension, file_name as PathParts-file_name, file_stem as PathParts-file_stem, has_root as PathParts-has_root, is_rooted as PathParts-is_rooted, name_of as PathParts-name_of}
pub use Rattle.hipstr.specs.Piece.{AreMatches as Piece-AreMatches, AreParts as Piece-AreParts, ClonesKeepRanges as Piece-ClonesKeepRanges, DrawsFirst as Piece-DrawsFirst, DrawsFirstMatch as Piece-DrawsFirstMatch, DrawsLast as Piece-DrawsLast, DrawsLastMatch as Piece-DrawsLastMatch, FirstBytes as Piece-FirstBytes, FirstCosts as Piece-FirstCosts, FirstMatch as Piece-FirstMatch, FirstPiece as Piece-FirstPiece, IsLittle as Piece-IsLittle, IsMatchAt as Piece-IsMatchAt, IsPartAt as Piece-IsPartAt, LastBytes as Piece-LastBytes, LastCosts as Piece-LastCosts, LastMatch as Piece-LastMatch, LastPiece as Piece-LastPiece, Left as Piece-Left, MatchCounts as Piece-MatchCounts, PartAnswers as Piece-PartAnswers, PieceCounts as Piece-PieceCounts, draws_by as Piece-draws_by, part_cost as Piece-part_cost, parts_cost as Piece-parts_cost}
pub use Rattle.hipstr.specs.Pieces.{AreInOrder as Pieces-AreInOrder, AreInReverseOrder as Pieces-AreInReverseOrder, at_most_from as Pieces-at_most_from, at_most_to as Pieces-at_most_to, ended as Pieces-ended, gaps as Pieces-gaps, gaps_back as Pieces-gaps_back, rsplit as Pieces-rsplit, rsplit_terminator as Pieces-rsplit_terminator, rsplitn as Pieces-rsplitn, split as Pieces-split, split_inclusive as Pieces-split_inclusive, split_terminator as Pieces-split_terminator, splitn as Pieces-splitn}
pub use Rattle.hipstr.specs.Range.{range_fault as Range-range_fault, slice_fault as Range-slice_fault, slice_of as Range-slice_of}
pub use Rattle.hipstr.specs.Ready.{IsBackWindow as Ready-IsBackWindow, IsBetween as Ready-IsBetween, IsBetweenBack as Ready-IsBetweenBack, IsFrontWindow as Ready-IsFrontWindow, IsGoing as Ready-IsGoing, IsWindow as Ready-IsWindow}
pub use Rattle.hipstr.specs.Reason.{answer_of as Reason-answer_of, bytes_refusal as Reason-bytes_refusal, grow_reason_of as Reason-grow_reason_of, reason_of as Reason-reason_of, text_reason_of as Reason-text_reason_of, text_refusal as Reason-text_refusal}
pub use Rattle.hipstr.specs.RefMut.{bytes_row as RefMut-bytes_row, lender as RefMut-lender, lent_items as RefMut-lent_items, lent_source as RefMut-lent_source, lent_vec as RefMut-lent_vec, with_vec as RefMut-with_vec}
pub use Rattle.hipstr.specs.Rightmost.{IsRightmost as Rightmost-IsRightmost, rightmost as Rightmost-rightmost, rightmost_between as Rightmost-rightmost_between, rightmost_from as Rightmost-rightmost_from}
pub use Rattle.hipstr.specs.Run.{Run as Run-Run}
pub use Rattle.hipstr.specs.Runs.{AllRuns as Runs-AllRuns, AreRuns as Runs-AreRuns, IsRun as Runs-IsRun, Rise as Runs-Rise, line_of as Runs-line_of, lines as Runs-lines, nonempty as Runs-nonempty, runs_outside as Runs-runs_outside, split_ascii_whitespace as Runs-split_ascii_whitespace, split_whitespace as Runs-split_whitespace}
pub use Rattle.hipstr.specs.Searchers.{AreAhead as Searchers-AreAhead, AreBehind as Searchers-AreBehind}
pub use Rattle.hipstr.specs.Shown.{shown as Shown-shown, to_come as Shown-to_come}
pub use Rattle.hipstr.specs.Sink.{Sink as Sink-Sink, unwritten as Sink-unwritten}
pub use Rattle.hipstr.specs.Slice.{IsErrorOf as Slice-IsErrorOf, SliceAnswers as Slice-SliceAnswers, slice_cost as Slice-slice_cost}
pub use Rattle.hipstr.specs.SliceError.{error_end as SliceError-error_end, error_kind as SliceError-error_kind, error_source as SliceError-error_source, error_start as SliceError-error_start, kept_number as SliceError-kept_number, slice_error_text as SliceError-slice_error_text}
pub use Rattle.hipstr.specs.Slot.{Replaces as Slot-Replaces, SlotState as Slot-SlotState, empty_slot as Slot-empty_slot, slot_at as Slot-slot_at, state_at as Slot-state_at, state_of as Slot-state_of, text_at as Slot-text_at}
pub use Rattle.hipstr.specs.Sole.{reference_of as Sole-reference_of, source_of as Sole-source_of}
pub use Rattle.hipstr.specs.Sources.{failed_reads as Sources-failed_reads, failed_writes as Sources-failed_writes, reader_of as Sources-reader_of, rest_of as Sources-rest_of, writer_of as Sources-writer_of}
pub use Rattle.hipstr.specs.Step.{Costs as Step-Costs, MayNeedMemory as Step-MayNeedMemory, Performs as Step-Performs, Step as Step-Step, TrimsMatchesTo as Step-TrimsMatchesTo, TrimsTo as Step-TrimsTo, addition_fault as Step-addition_fault, copies_of as Step-copies_of, cost_of as Step-cost_of, counts_of as Step-counts_of, drawn_of as Step-drawn_of, end_fault as Step-end_fault, fault_of as Step-fault_of, items_of as Step-items_of, joined_slots as Step-joined_slots, length_fault as Step-length_fault, mutate_cost as Step-mutate_cost, not_bytes_fault as Step-not_bytes_fault, not_text_fault as Step-not_text_fault, one_end_fault as Step-one_end_fault, option_cost as Step-option_cost, overlap_fault as Step-overlap_fault, parted_slot as Step-parted_slot, set_fault as Step-set_fault, slot_fault as Step-slot_fault, slot_range_fault as Step-slot_range_fault, slots_fault as Step-slots_fault, stripped_slot as Step-stripped_slot, text_fault as Step-text_fault, unless as Step-unless, utf8_fault as Step-utf8_fault, within_fault as Step-within_fault}
pub use Rattle.hipstr.specs.TextChange.{PopCharAnswers as TextChange-PopCharAnswers}
pub use Rattle.hipstr.specs.TextLaws.{Stands as TextLaws-Stands}
pub use Rattle.hipstr.specs.TextRefMut.{lender as TextRefMut-lender, lent_items as TextRefMut-lent_items, lent_source as TextRefMut-lent_source, lent_string as TextRefMut-lent_string, string_row as TextRefMut-string_row, with_string as TextRefMut-with_string}
pub use Rattle.hipstr.specs.TextSlice.{IsErrorOf as TextSlice-IsErrorOf, SliceAnswers as TextSlice-SliceAnswers, as_text_fault as TextSlice-as_text_fault, boundary_fault as TextSlice-boundary_fault, slice_cost as TextSlice-slice_cost, text_slice_fault as TextSlice-text_slice_fault}
pub use Rattle.hipstr.specs.TextSliceError.{error_end as TextSliceError-error_end, error_kind as TextSliceError-error_kind, error_source as TextSliceError-error_source, error_start as TextSliceError-error_start, slice_error_text as TextSliceError-slice_error_text}
pub use Rattle.hipstr.specs.Texts.{text_ends as Texts-text_ends}
pub use Rattle.hipstr.specs.Transfer.{CountsRefusal as Transfer-CountsRefusal}
pub use Rattle.hipstr.specs.Trimmed.{IsPartedLast as Trimmed-IsPartedLast, LeavesBetween as Trimmed-LeavesBetween, LeavesEnd as Trimmed-LeavesEnd, LeavesStart as Trimmed-LeavesStart, LeftBefore as Trimmed-LeftBefore, LeftBehind as Trimmed-LeftBehind, LeftBetween as Trimmed-LeftBetween, OnceAnswers as Trimmed-OnceAnswers, OnceCosts as Trimmed-OnceCosts, PartedAs as Trimmed-PartedAs, PartedAtByte as Trimmed-PartedAtByte, PartedAtLastByte as Trimmed-PartedAtLastByte, PartedLastAs as Trimmed-PartedLastAs, StripAnswers as Trimmed-StripAnswers, StripCosts as Trimmed-StripCosts, StrippedBack as Trimmed-StrippedBack, StrippedFront as Trimmed-StrippedFront, TrimAnswers as Trimmed-TrimAnswers, TrimCosts as Trimmed-TrimCosts, TrimmedBetween as Trimmed-TrimmedBetween, TrimmedEnd as Trimmed-TrimmedEnd, TrimmedStart as Trimmed-TrimmedStart, ascii_space_ends as Trimmed-ascii_space_ends, found_in as Trimmed-found_in, space_ends as Trimmed-space_ends}
pub use Rattle.hipstr.specs.Trims.{TrimsBack as Trims-TrimsBack, TrimsFront as Trims-TrimsFront, cut_at_first as Trims-cut_at_first, rsplit_once as Trims-rsplit_once, split_once as Trims-split_once, strip_prefix as Trims-strip_prefix, strip_suffix as Trims-strip_suffix}
pub use Rattle.hipstr.specs.Utf16.{IsFirstUnpaired as Utf16-IsFirstUnpaired, Spells as Utf16-Spells, SpellsWhatEncodes as Utf16-SpellsWhatEncodes, Utf16Answers as Utf16-Utf16Answers}
pub use Rattle.hipstr.specs.Walks.{GoesAlike as Walks-GoesAlike, GoesOver as Walks-GoesOver}
pub use Rattle.hipstr.specs.Window.{window as Window-window}
