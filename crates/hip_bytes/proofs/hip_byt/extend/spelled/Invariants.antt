use Rattle.std.proofs.Common.{◌≡◌, ◌+◌, [], nat_le, length, if◌then◌else◌}
use Rattle.std.specs.Char.{encode_utf8}
use Rattle.std.specs.List.{join_by}
use Rattle.std.specs.Prelude.{IsUtf8}
use Rattle.hip_raw.specs.Meter.{RisesAtLeast, RisesAtMost}
use Rattle.hip_bytes.specs.declared.kind.TheConstants.{INLINE_CAPACITY}
use Rattle.hip_bytes.proofs.hip_byt.extend.spelled.Given as goal

-- the UTF-8 so far stands there
abbrev pub invariant-loop-c : goal.invariant-loop-c
invariant-loop-c g l = record {
  items : l.made.items ≡ join_by encode_utf8 [] l.yielded;
  utf8 : IsUtf8 l.made.items;
  place : l.made.in_handle ≡ nat_le (length l.made.items) INLINE_CAPACITY;
  counted : RisesAtMost l.fn.meter l.meter (length l.made.items + (if l.made.in_handle then 0 else INLINE_CAPACITY));
  copied : RisesAtLeast l.fn.meter l.meter (length l.made.items);
}
