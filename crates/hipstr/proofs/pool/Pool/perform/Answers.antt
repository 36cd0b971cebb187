use Rattle.std.proofs.Common.{refl}
use Rattle.hip_bytes.proofs.Costs.{nothing_copied}
use Rattle.hipstr.specs.Reason.{answer_of}
use Rattle.hipstr.proofs.{Amortised.performed-as, Counts.counts-none}
use Rattle.hipstr.proofs.pool.Pool.perform.Goals as goal

pub returns-in-New : goal.returns-in-New
returns-in-New g c =
    performed-as g.B.Backend.SHARES c.args.self.now (answer_of c.make_new.result) c.make_new.new.self c.args.meter.now c.args.meter.now c.args.command.now _ c.in-New.is
    (record { step = c.make_new.ensures.step; counted = (_, refl, nothing_copied _ _); copied = counts-none (nothing_copied c.args.meter.now 0); paid = λ unshared. tt })

pub returns-in-Inline : goal.returns-in-Inline
returns-in-Inline g c =
    performed-as g.B.Backend.SHARES c.args.self.now (answer_of c.make_inline.result) c.make_inline.new.self c.args.meter.now c.make_inline.new.meter c.args.command.now _ c.in-Inline.is
    (record { step = c.make_inline.ensures.step; counted = (_, refl, c.make_inline.ensures.counted); copied = c.make_inline.ensures.copied; paid = λ unshared. tt })

pub returns-in-Borrow : goal.returns-in-Borrow
returns-in-Borrow g c =
    performed-as g.B.Backend.SHARES c.args.self.now (answer_of c.make_borrowed.result) c.make_borrowed.new.self c.args.meter.now c.args.meter.now c.args.command.now _ c.in-Borrow.is
    (record { step = c.make_borrowed.ensures.step; counted = (_, refl, nothing_copied _ _); copied = counts-none (nothing_copied c.args.meter.now 0); paid = λ unshared. tt })

pub returns-in-Copy : goal.returns-in-Copy
returns-in-Copy g c =
    performed-as g.B.Backend.SHARES c.args.self.now (answer_of c.make_copy.result) c.make_copy.new.self c.args.meter.now c.make_copy.new.meter c.args.command.now _ c.in-Copy.is
    (record { step = c.make_copy.ensures.step; counted = (_, refl, c.make_copy.ensures.counted); copied = c.make_copy.ensures.copied; paid = λ unshared. tt })

pub returns-in-Room : goal.returns-in-Room
returns-in-Room g c =
    performed-as g.B.Backend.SHARES c.args.self.now (answer_of c.make_room.result) c.make_room.new.self c.args.meter.now c.args.meter.now c.args.command.now _ c.in-Room.is
    (record { step = c.make_room.ensures.step; counted = (_, refl, nothing_copied _ _); copied = counts-none (nothing_copied c.args.meter.now 0); paid = λ unshared. tt })

pub returns-in-Clone : goal.returns-in-Clone
returns-in-Clone g c =
    performed-as g.B.Backend.SHARES c.args.self.now (answer_of c.make_clone.result) c.make_clone.new.self c.args.meter.now c.make_clone.new.meter c.args.command.now _ c.in-Clone.is
    (record { step = c.make_clone.ensures.step; counted = (_, refl, c.make_clone.ensures.counted); copied = c.make_clone.ensures.copied; paid = λ unshared. tt })

pub returns-in-Slice : goal.returns-in-Slice
returns-in-Slice g c =
    performed-as g.B.Backend.SHARES c.args.self.now (answer_of c.make_slice.result) c.make_slice.new.self c.args.meter.now c.make_slice.new.meter c.args.command.now _ c.in-Slice.is
    (record { step = c.make_slice.ensures.step; counted = (_, refl, c.make_slice.ensures.counted); copied = c.make_slice.ensures.copied; paid = λ unshared. tt })

pub returns-in-Push : goal.returns-in-Push
returns-in-Push g c =
    performed-as g.B.Backend.SHARES c.args.self.now (answer_of c.push.result) c.push.new.self c.args.meter.now c.push.new.meter c.args.command.now _ c.in-Push.is
    (record { step = c.push.ensures.step; counted = (_, refl, c.push.ensures.counted); copied = c.push.ensures.copied; paid = c.push.ensures.paid })

pub returns-in-Pop : goal.returns-in-Pop
returns-in-Pop g c =
    performed-as g.B.Backend.SHARES c.args.self.now (answer_of c.pop.result) c.pop.new.self c.args.meter.now c.pop.new.meter c.args.command.now _ c.in-Pop.is
    (record { step = c.pop.ensures.step; counted = (_, refl, c.pop.ensures.counted); copied = counts-none c.pop.ensures.counted; paid = λ unshared. tt })

pub returns-in-Truncate : goal.returns-in-Truncate
returns-in-Truncate g c =
    performed-as g.B.Backend.SHARES c.args.self.now (answer_of c.truncate.result) c.truncate.new.self c.args.meter.now c.truncate.new.meter c.args.command.now _ c.in-Truncate.is
    (record { step = c.truncate.ensures.step; counted = (_, refl, c.truncate.ensures.counted); copied = counts-none c.truncate.ensures.counted; paid = λ unshared. tt })

pub returns-in-Clear : goal.returns-in-Clear
returns-in-Clear g c =
    performed-as g.B.Backend.SHARES c.args.self.now (answer_of c.clear.result) c.clear.new.self c.args.meter.now c.clear.new.meter c.args.command.now _ c.in-Clear.is
    (record { step = c.clear.ensures.step; counted = (_, refl, c.clear.ensures.counted); copied = counts-none c.clear.ensures.counted; paid = λ unshared. tt })

pub returns-in-Shrink : goal.returns-in-Shrink
returns-in-Shrink g c =
    performed-as g.B.Backend.SHARES c.args.self.now (answer_of c.shrink.result) c.shrink.new.self c.args.meter.now c.shrink.new.meter c.args.command.now _ c.in-Shrink.is
    (record { step = c.shrink.ensures.step; counted = (_, refl, c.shrink.ensures.counted); copied = counts-none c.shrink.ensures.counted; paid = λ unshared. tt })

pub returns-in-Upper : goal.returns-in-Upper
returns-in-Upper g c =
    performed-as g.B.Backend.SHARES c.args.self.now (answer_of c.make_upper.result) c.make_upper.new.self c.args.meter.now c.make_upper.new.meter c.args.command.now _ c.in-Upper.is
    (record { step = c.make_upper.ensures.step; counted = (_, refl, c.make_upper.ensures.counted); copied = c.make_upper.ensures.copied; paid = λ unshared. tt })

pub returns-in-Lower : goal.returns-in-Lower
returns-in-Lower g c =
    performed-as g.B.Backend.SHARES c.args.self.now (answer_of c.make_lower.result) c.make_lower.new.self c.args.meter.now c.make_lower.new.meter c.args.command.now _ c.in-Lower.is
    (record { step = c.make_lower.ensures.step; counted = (_, refl, c.make_lower.ensures.counted); copied = c.make_lower.ensures.copied; paid = λ unshared. tt })

pub returns-in-Set : goal.returns-in-Set
returns-in-Set g c =
    performed-as g.B.Backend.SHARES c.args.self.now (answer_of c.set.result) c.set.new.self c.args.meter.now c.set.new.meter c.args.command.now _ c.in-Set.is
    (record { step = c.set.ensures.step; counted = (_, refl, c.set.ensures.counted); copied = c.set.ensures.copied; paid = λ unshared. tt })

pub returns-in-Repeat : goal.returns-in-Repeat
returns-in-Repeat g c =
    performed-as g.B.Backend.SHARES c.args.self.now (answer_of c.make_repeat.result) c.make_repeat.new.self c.args.meter.now c.make_repeat.new.meter c.args.command.now _ c.in-Repeat.is
    (record { step = c.make_repeat.ensures.step; counted = (_, refl, c.make_repeat.ensures.counted); copied = c.make_repeat.ensures.copied; paid = λ unshared. tt })

pub returns-in-Join : goal.returns-in-Join
returns-in-Join g c =
    performed-as g.B.Backend.SHARES c.args.self.now (answer_of c.make_join.result) c.make_join.new.self c.args.meter.now c.make_join.new.meter c.args.command.now _ c.in-Join.is
    (record { step = c.make_join.ensures.step; counted = (_, refl, c.make_join.ensures.counted); copied = c.make_join.ensures.copied; paid = λ unshared. tt })

pub returns-in-Mutate : goal.returns-in-Mutate
returns-in-Mutate g c =
    performed-as g.B.Backend.SHARES c.args.self.now (answer_of c.mutate.result) c.mutate.new.self c.args.meter.now c.mutate.new.meter c.args.command.now _ c.in-Mutate.is
    (record { step = c.mutate.ensures.step; counted = (_, refl, c.mutate.ensures.counted); copied = counts-none c.mutate.ensures.counted; paid = λ unshared. tt })

pub returns-in-Owned : goal.returns-in-Owned
returns-in-Owned g c =
    performed-as g.B.Backend.SHARES c.args.self.now (answer_of c.make_owned.result) c.make_owned.new.self c.args.meter.now c.make_owned.new.meter c.args.command.now _ c.in-Owned.is
    (record { step = c.make_owned.ensures.step; counted = (_, refl, c.make_owned.ensures.counted); copied = c.make_owned.ensures.copied; paid = λ unshared. tt })

pub returns-in-Text : goal.returns-in-Text
returns-in-Text g c =
    performed-as g.B.Backend.SHARES c.args.self.now (answer_of c.make_text.result) c.make_text.new.self c.args.meter.now c.args.meter.now c.args.command.now _ c.in-Text.is
    (record { step = c.make_text.ensures.step; counted = (_, refl, nothing_copied _ _); copied = counts-none (nothing_copied c.args.meter.now 0); paid = λ unshared. tt })

pub returns-in-Bytes : goal.returns-in-Bytes
returns-in-Bytes g c =
    performed-as g.B.Backend.SHARES c.args.self.now (answer_of c.make_bytes.result) c.make_bytes.new.self c.args.meter.now c.args.meter.now c.args.command.now _ c.in-Bytes.is
    (record { step = c.make_bytes.ensures.step; counted = (_, refl, nothing_copied _ _); copied = counts-none (nothing_copied c.args.meter.now 0); paid = λ unshared. tt })

pub returns-in-Trim : goal.returns-in-Trim
returns-in-Trim g c =
    performed-as g.B.Backend.SHARES c.args.self.now (answer_of c.trim.result) c.trim.new.self c.args.meter.now c.trim.new.meter c.args.command.now _ c.in-Trim.is
    (record { step = c.trim.ensures.step; counted = c.trim.ensures.counted; copied = c.trim.ensures.copied; paid = λ unshared. tt })

pub returns-in-TrimMatches : goal.returns-in-TrimMatches
returns-in-TrimMatches g c =
    performed-as g.B.Backend.SHARES c.args.self.now (answer_of c.trim_matches.result) c.trim_matches.new.self c.args.meter.now c.trim_matches.new.meter c.args.command.now _ c.in-TrimMatches.is
    (record { step = c.trim_matches.ensures.step; counted = c.trim_matches.ensures.counted; copied = c.trim_matches.ensures.copied; paid = λ unshared. tt })

pub returns-in-Strip : goal.returns-in-Strip
returns-in-Strip g c =
    performed-as g.B.Backend.SHARES c.args.self.now (answer_of c.strip.result) c.strip.new.self c.args.meter.now c.strip.new.meter c.args.command.now _ c.in-Strip.is
    (record { step = c.strip.ensures.step; counted = (_, refl, c.strip.ensures.counted); copied = c.strip.ensures.copied; paid = λ unshared. tt })

pub returns-in-Pieces : goal.returns-in-Pieces
returns-in-Pieces g c =
    performed-as g.B.Backend.SHARES c.args.self.now (answer_of c.make_pieces.result) c.make_pieces.new.self c.args.meter.now c.make_pieces.new.meter c.args.command.now _ c.in-Pieces.is
    (record { step = c.make_pieces.ensures.step; counted = (_, refl, c.make_pieces.ensures.counted); copied = c.make_pieces.ensures.copied; paid = λ unshared. tt })

pub returns-in-Once : goal.returns-in-Once
returns-in-Once g c =
    performed-as g.B.Backend.SHARES c.args.self.now (answer_of c.part_once.result) c.part_once.new.self c.args.meter.now c.part_once.new.meter c.args.command.now _ c.in-Once.is
    (record { step = c.part_once.ensures.step; counted = (_, refl, c.part_once.ensures.counted); copied = c.part_once.ensures.copied; paid = λ unshared. tt })

pub returns-in-Compare : goal.returns-in-Compare
returns-in-Compare g c =
    performed-as g.B.Backend.SHARES c.args.self.now (answer_of c.compare.result) c.args.self.now c.args.meter.now c.args.meter.now c.args.command.now _ c.in-Compare.is
    (record { step = c.compare.ensures.step; counted = (_, refl, nothing_copied _ _); copied = counts-none (nothing_copied c.args.meter.now 0); paid = λ unshared. tt })

pub returns-in-ComparePath : goal.returns-in-ComparePath
returns-in-ComparePath g c =
    performed-as g.B.Backend.SHARES c.args.self.now (answer_of c.compare_path.result) c.args.self.now c.args.meter.now c.args.meter.now c.args.command.now _ c.in-ComparePath.is
    (record { step = c.compare_path.ensures.step; counted = (_, refl, nothing_copied _ _); copied = counts-none (nothing_copied c.args.meter.now 0); paid = λ unshared. tt })

pub returns-in-Len : goal.returns-in-Len
returns-in-Len g c =
    performed-as g.B.Backend.SHARES c.args.self.now (answer_of c.tell_len.result) c.args.self.now c.args.meter.now c.args.meter.now c.args.command.now _ c.in-Len.is
    (record { step = c.tell_len.ensures.step; counted = (_, refl, nothing_copied _ _); copied = counts-none (nothing_copied c.args.meter.now 0); paid = λ unshared. tt })

pub returns-in-Kind : goal.returns-in-Kind
returns-in-Kind g c =
    performed-as g.B.Backend.SHARES c.args.self.now (answer_of c.tell_kind.result) c.args.self.now c.args.meter.now c.args.meter.now c.args.command.now _ c.in-Kind.is
    (record { step = c.tell_kind.ensures.step; counted = (_, refl, nothing_copied _ _); copied = counts-none (nothing_copied c.args.meter.now 0); paid = λ unshared. tt })

pub returns-in-Capacity : goal.returns-in-Capacity
returns-in-Capacity g c =
    performed-as g.B.Backend.SHARES c.args.self.now (answer_of c.tell_capacity.result) c.args.self.now c.args.meter.now c.args.meter.now c.args.command.now _ c.in-Capacity.is
    (record { step = c.tell_capacity.ensures.step; counted = (_, refl, nothing_copied _ _); copied = counts-none (nothing_copied c.args.meter.now 0); paid = λ unshared. tt })
