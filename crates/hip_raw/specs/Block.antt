-- The block that an owner leaves when its vector is taken out.
use Rattle.std.specs.Prelude.{◌≡◌}
use Rattle.hip_raw.specs.declared.block.Block.{Block}
use Rattle.hip_raw.specs.declared.block.Left.TheVariants.{Nothing}

-- there is no block
abbrev pub IsNoBlock : Block → Type 0
IsNoBlock block = block.left ≡ Nothing
