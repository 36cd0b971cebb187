use Rattle.std.proofs.Common.{◌≡◌, ◌+◌, ◌≤◌, [], ◌++◌, List, length}
use Rattle.std.specs.declared.alloc.Global.{Global}
use Rattle.std.specs.declared.vec.Vec.{Vec}
use Rattle.hip_text.specs.Handle.{Handle}
use Rattle.hip_fields.specs.Records.{AreRecords, records_cost}
use Rattle.hip_fields.proofs.reader.Records+HipStr+B+I.collect_metered.Given as goal

-- with the records that are left, these are the records of all
abbrev pub invariant-loop-fields : goal.invariant-loop-fields
invariant-loop-fields g l =
    let all = l.initial.self in
    record {
      source : l.self.source ≡ all.source;
      none : all.rest ≡ [] → l.self.rest ≡ [];
      records : (more : List (Vec Handle Global)) → AreRecords all.source l.self.rest more → AreRecords all.source all.rest (l.records.items ++ more);
      never_falls : l.initial.meter ≤ l.meter;
      at_most : l.meter + records_cost g.B.Backend.SHARES all.source.kind l.self.rest
          ≤ l.initial.meter + records_cost g.B.Backend.SHARES all.source.kind all.rest;
    }

abbrev pub decreases-loop-fields : goal.decreases-loop-fields
decreases-loop-fields g l = length l.self.rest
