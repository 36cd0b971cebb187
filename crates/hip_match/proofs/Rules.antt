-- The lemmas by which some functions are proved.
use Rattle.hip_match.proofs.AnswerLemmas.{answered, same_ends}
use Rattle.hip_match.proofs.BitLemmas.{below_kept, below_none, cut_lowest, cut_others, from_below, from_kept, one_some, top, up_below, up_moved, xor_other, xor_same}
use Rattle.hip_match.proofs.ByteLemmas.{back_end, back_more, front_end, front_more}
use Rattle.hip_match.proofs.DecodeLemmas.{before_four, before_three, before_two, fourth, is_four, is_three, is_two, room_2, room_3, second, third}
use Rattle.hip_match.proofs.DrawLemmas.{TakesEnd-back, ends_meet}
use Rattle.hip_match.proofs.LawLemmas.{split-joined, split_inclusive-together}
use Rattle.hip_match.proofs.LineLemmas.{last-line, last-open, past-open}
use Rattle.hip_match.proofs.MarkLemmas.{alike}
use Rattle.hip_match.proofs.PiecesLemmas.{InOrderBack-append, IsBetweenBack-moved, gaps_back-append, nonempty-append_dropped, nonempty-append_kept, rterminator-next_back}
use Rattle.hip_match.proofs.RunLemmas.{are_runs}
use Rattle.hip_match.proofs.SetLemmas.{char_before-no, char_before-yes, ends_here, first_done, first_step, last_done, last_step, moved, start_of-found, start_of-zero}
use Rattle.hip_match.proofs.TableLemmas.{alphabetic, alphanumeric, joined, nibbles_ascii, one_more, others, whitespace}
use Rattle.hip_match.proofs.TextLemmas.{rest_slice, text_at-no, text_at-yes, text_before-no, text_before-yes}
use Rattle.hip_match.proofs.TrimLemmas.{sequence_none}
use Rattle.hip_match.specs.CharLaws.{char_at-ascii, char_at-end, char_at-starts}
use Rattle.std.proofs.Common.{append-nil}
use Rattle.std.proofs.lemmas.Bool.{false≢true}
use Rattle.std.proofs.lemmas.List.{drop_all}
use Rattle.std.proofs.lemmas.Nat.{le_bytes_4}
use Rattle.std.proofs.lemmas.Nat.Bits.{bit_at-trailing_zeros}
use Rattle.std.proofs.lemmas.Str.{IsCharBoundary-before_ascii, IsCharBoundary-end, IsCharBoundary-start}

pub ruleset ascii_set = (alphabetic, alphanumeric, whitespace, one_more, joined, others, nibbles_ascii, alike)

pub ruleset bytes = (front_more, front_end, back_more, back_end)

pub ruleset byte_lines = (last-line, last-open, past-open)

pub ruleset bits = (top, cut_lowest, cut_others, one_some, xor_other, xor_same, from_below, from_kept, below_kept, below_none, up_below, up_moved, bit_at-trailing_zeros)

pub ruleset boundaries = (IsCharBoundary-start)

pub ruleset chars = (char_at-ascii, char_at-end, IsCharBoundary-before_ascii, start_of-zero, ends_here, first_step, first_done, moved, last_step, last_done, start_of-found, char_before-yes, char_before-no, char_at-starts)

pub ruleset draw = (TakesEnd-back, drop_all, append-nil)

pub ruleset laws = (split-joined, split_inclusive-together, ends_meet, are_runs)

pub ruleset text_ends = (IsCharBoundary-end, IsCharBoundary-start)

pub ruleset predicate = (answered, same_ends)

pub ruleset rsplit = (gaps_back-append, InOrderBack-append, IsBetweenBack-moved, rterminator-next_back, false≢true)

pub ruleset text_at = (rest_slice, text_at-no, text_at-yes, false≢true)

pub ruleset text_before = (text_before-no, text_before-yes, false≢true)

pub ruleset trim = (IsCharBoundary-start, sequence_none)

pub ruleset white_space = (nonempty-append_kept, nonempty-append_dropped)

pub ruleset wide_code = (second, third, fourth, is_two, is_three, is_four)

pub ruleset wide_code_before = (room_2, room_3, before_two, before_three, before_four)

pub ruleset word = (le_bytes_4)
