use Rattle.std.proofs.Common.{◌∙◌, length, ap}
use Rattle.hipstr.specs.Piece.{as_many}
use Rattle.hipstr_tests.proofs.user.count_fields.Goals as goal

pub returns : goal.returns
returns g c = c.len.ensures ∙ c.in_ok-fields.fields.ok.0 ∙ as_many _ _ _ c.in_ok-fields.ensures ∙ ap length c.split.ensures.rest
