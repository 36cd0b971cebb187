-- Bytes that no other handle shares, as contracts see them.
use Rattle.std.specs.Borrow.{GName}
use Rattle.hip_raw.specs.declared.sole.Sole.{Sole}

-- the owner that is written in place, as it stands
abbrev pub source_of : {S : Type 0} → Sole S → S
source_of sole = sole.source.now

-- the reference by which it is held
abbrev pub reference_of : {S : Type 0} → Sole S → GName
reference_of sole = sole.source.ghost_name
