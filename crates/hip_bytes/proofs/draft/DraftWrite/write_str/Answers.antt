use Rattle.hip_bytes.proofs.Drafts.{goes_on}
use Rattle.hip_bytes.proofs.draft.DraftWrite.write_str.Goals as goal

pub invariant_of-self : goal.invariant_of-self
invariant_of-self c =
    let added = c.add_behind.ensures in
    goes_on c.add_behind.result _ _ _ _ _ c.self.invariant c.as_bytes.ensures.utf8 added.items added.place added.counted added.copied added.refused_copies_nothing added.err
