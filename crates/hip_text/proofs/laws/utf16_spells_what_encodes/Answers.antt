use Rattle.hip_text.proofs.Utf16Law.{spells-what-encodes}
use Rattle.hip_text.proofs.laws.utf16_spells_what_encodes.Goals as goal

pub returns : goal.returns
returns c = λ cs. spells-what-encodes c.args.units.now cs
