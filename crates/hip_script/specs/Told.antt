-- The commands of `hipstr::run` as lines, wherever their bytes stand.
use Rattle.hipstr.specs.declared.command.Command.{Command}
use Rattle.hipstr.specs.declared.command.Command.TheVariants.{New, Inline, Borrow, Copy, Room, Clone, Slice, Push, Pop, Truncate, Clear, Shrink, Upper, Lower, Set, Repeat, Join, Mutate, Owned, Text, Bytes, Trim, TrimMatches, Strip, Pieces, Once, Compare, ComparePath, Len, Kind, Capacity}
use Rattle.hipstr.specs.declared.command.How.{How}
use Rattle.hipstr.specs.declared.command.How.TheVariants.{Split as how_split, Inclusive as how_inclusive, Terminator as how_terminator, SplitN as how_splitn, Matches as how_matches, RSplit as how_rsplit, RTerminator as how_rterminator, RSplitN as how_rsplitn, RMatches as how_rmatches, Lines as how_lines, Words as how_words, AsciiWords as how_asciiwords}
use Rattle.hipstr.specs.declared.command.Pat.{Pat}
use Rattle.hipstr.specs.declared.command.Pat.TheVariants.{Text as pat_text, Char as pat_char, Set as pat_set}
use Rattle.hip_script.specs.Spoken.{Parting, Pattern, Spoken}
use Rattle.hip_script.specs.Spoken.Parting.{By, ByMost, Alone}
use Rattle.hip_script.specs.Spoken.Pattern.{TextOf, CharOf, AnyOf}
use Rattle.hip_script.specs.Spoken.Spoken.{SayNew, SayInline, SayBorrow, SayCopy, SayRoom, SayClone, SaySlice, SayPush, SayPop, SayTruncate, SayClear, SayShrink, SayUpper, SayLower, SaySet, SayRepeat, SayJoin, SayMutate, SayOwned, SayText, SayBytes, SayTrim, SayTrimMatches, SayStrip, SayPieces, SayOnce, SayCompare, SayComparePath, SayLen, SayKind, SayCapacity}
use Rattle.hip_script.specs.declared.verb.Way.TheVariants.{Split, Inclusive, Terminator, SplitN, Matches, RSplit, RTerminator, RSplitN, RMatches, Lines, Words, AsciiWords}

abbrev pub pattern_says : Pat → Pattern
pattern_says (pat_text text) = TextOf text.now
pattern_says (pat_char c) = CharOf c
pattern_says (pat_set chars) = AnyOf chars.now

abbrev pub how_says : How → Parting
how_says (how_split pattern) = By Split (pattern_says pattern)
how_says (how_inclusive pattern) = By Inclusive (pattern_says pattern)
how_says (how_terminator pattern) = By Terminator (pattern_says pattern)
how_says (how_splitn count pattern) = ByMost SplitN count (pattern_says pattern)
how_says (how_matches pattern) = By Matches (pattern_says pattern)
how_says (how_rsplit pattern) = By RSplit (pattern_says pattern)
how_says (how_rterminator pattern) = By RTerminator (pattern_says pattern)
how_says (how_rsplitn count pattern) = ByMost RSplitN count (pattern_says pattern)
how_says (how_rmatches pattern) = By RMatches (pattern_says pattern)
how_says how_lines = Alone Lines
how_says how_words = Alone Words
how_says how_asciiwords = Alone AsciiWords

abbrev pub says : Command → Spoken
says (New t) = SayNew t
says (Inline t bytes) = SayInline t bytes.now
says (Borrow t bytes) = SayBorrow t bytes.now
says (Copy t bytes) = SayCopy t bytes.now
says (Room t n) = SayRoom t n
says (Clone s t) = SayClone s t
says (Slice s t low high) = SaySlice s t low high
says (Push t bytes) = SayPush t bytes.now
says (Pop t) = SayPop t
says (Truncate t n) = SayTruncate t n
says (Clear t) = SayClear t
says (Shrink t n) = SayShrink t n
says (Upper t) = SayUpper t
says (Lower t) = SayLower t
says (Set t i byte) = SaySet t i byte
says (Repeat s t n) = SayRepeat s t n
says (Join first count bytes t) = SayJoin first count bytes.now t
says (Mutate t bytes) = SayMutate t bytes.now
says (Owned t) = SayOwned t
says (Text t) = SayText t
says (Bytes t) = SayBytes t
says (Trim s t side) = SayTrim s t side
says (TrimMatches s t side pattern) = SayTrimMatches s t side (pattern_says pattern)
says (Strip s t end pattern) = SayStrip s t end (pattern_says pattern)
says (Pieces s how ends first) = SayPieces s (how_says how) ends.now first
says (Once s t u end pattern) = SayOnce s t u end (pattern_says pattern)
says (Compare s t) = SayCompare s t
says (ComparePath s t) = SayComparePath s t
says (Len t) = SayLen t
says (Kind t) = SayKind t
says (Capacity t) = SayCapacity t
