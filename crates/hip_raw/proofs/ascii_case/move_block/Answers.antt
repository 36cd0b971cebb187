use Rattle.hip_raw.proofs.Lanes.{block_done, block_kept}
use Rattle.hip_raw.proofs.ascii_case.move_block.Goals as goal

pub returns : goal.returns
returns g c = record {
  done = block_done g.C.Case.moved c.args.bytes.now c.args.at 64 _ c.requires c.move_lanes.ensures;
  kept = block_kept g.C.Case.moved c.args.bytes.now c.args.at 64 _ c.requires c.move_lanes.ensures;
}
