-- Each representation as a handle. No public clause cites this module.
use Rattle.std.specs.Prelude.{length}
use Rattle.hip_raw.specs.Borrowed.{borrowed_bytes}
use Rattle.hip_bytes.specs.Handle.{Handle}
use Rattle.hip_bytes.specs.declared.hip_byt.Repr.{Repr}
use Rattle.hip_bytes.specs.declared.hip_byt.Repr.TheVariants.{Inline as inline, Borrowed as borrowed, Allocated as allocated}
use Rattle.hip_bytes.specs.declared.kind.Kind.TheVariants.{Inline, Borrowed, Allocated}
use Rattle.hip_bytes.specs.declared.kind.TheConstants.{INLINE_CAPACITY}

abbrev pub handle_of : {B S P : Type 0} → Repr B S P → Handle
handle_of (inline list) = record { kind = Inline; items = list; capacity = INLINE_CAPACITY }
handle_of (borrowed lent) = record { kind = Borrowed; items = borrowed_bytes lent; capacity = length (borrowed_bytes lent) }
handle_of (allocated held) = record { kind = Allocated; items = held.items; capacity = held.capacity }
