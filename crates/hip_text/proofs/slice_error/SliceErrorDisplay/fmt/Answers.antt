use Rattle.std.proofs.Common.{sym}
use Rattle.hip_text.proofs.slice_error.SliceErrorDisplay.fmt.Goals as goal

pub returns-in-StartGreaterThanEnd-clause-writes : goal.returns-in-StartGreaterThanEnd-clause-writes
returns-in-StartGreaterThanEnd-clause-writes g c plain ok = rw c.in-StartGreaterThanEnd.is (rw (sym c.as_str-text.ensures.items) (c.write.ensures.writes plain ok))

pub returns-in-StartOutOfBounds-clause-writes : goal.returns-in-StartOutOfBounds-clause-writes
returns-in-StartOutOfBounds-clause-writes g c plain ok = rw c.in-StartOutOfBounds.is (rw (sym c.as_str-text.ensures.items) (c.write-in-StartOutOfBounds.ensures.writes plain ok))

pub returns-in-EndOutOfBounds-clause-writes : goal.returns-in-EndOutOfBounds-clause-writes
returns-in-EndOutOfBounds-clause-writes g c plain ok = rw c.in-EndOutOfBounds.is (rw (sym c.as_str-text.ensures.items) (c.write-in-EndOutOfBounds.ensures.writes plain ok))

pub returns-in-StartNotACharBoundary-clause-writes : goal.returns-in-StartNotACharBoundary-clause-writes
returns-in-StartNotACharBoundary-clause-writes g c plain ok =
    rw c.in-StartNotACharBoundary.is (rw (sym c.as_str-text.ensures.items) (c.write-in-StartNotACharBoundary.ensures.writes plain ok))

pub returns-in-EndNotACharBoundary-clause-writes : goal.returns-in-EndNotACharBoundary-clause-writes
returns-in-EndNotACharBoundary-clause-writes g c plain ok =
    rw c.in-EndNotACharBoundary.is (rw (sym c.as_str-text.ensures.items) (c.write-in-EndNotACharBoundary.ensures.writes plain ok))
