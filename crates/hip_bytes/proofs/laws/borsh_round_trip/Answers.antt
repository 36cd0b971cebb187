use Rattle.hip_bytes.proofs.Forms.{round-trip}
use Rattle.hip_bytes.proofs.laws.borsh_round_trip.Goals as goal

pub returns : goal.returns
returns c = round-trip c.args.items.now c.args.follow.now
