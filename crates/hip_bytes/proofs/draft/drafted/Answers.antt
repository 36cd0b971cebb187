use Rattle.std.proofs.Common.{◌∙◌, ap}
use Rattle.hip_bytes.specs.Gathering.{Drafted}
use Rattle.hip_bytes.proofs.Drafts.{all_written}
use Rattle.hip_bytes.proofs.draft.drafted.Goals as goal

pub returns-in-Ok-clause-text : goal.returns-in-Ok-clause-text
returns-in-Ok-clause-text g c =
    let made = c.new-formatter.ensures in
    all_written c.new-formatter.result c.write-outcome.new.self _ _ _ (ap (λ (d : Drafted). d.items) made.writer ∙ c.new.ensures.items) made.plain c.in-Ok.ensures.writes (c.gathering.view_is ∙ c.into_inner.ensures)
