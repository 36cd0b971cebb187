use Rattle.std.proofs.Common.{◌≡◌, ◌∙◌, ap, refl, arith, get_or, map, List}
use Rattle.std.specs.List.{range_with_len}
use Rattle.std.proofs.lemmas.List.FromFn.{get_or-map-range_with_len}
use Rattle.hip_uses.specs.declared.tokens.Class.{Class}
use Rattle.hip_uses.specs.declared.tokens.Class.TheVariants.{Word}
use Rattle.hip_uses.specs.declared.tokens.TheConstants.{CLASSES}
use Rattle.hip_uses.specs.Token.{class_of}
use Rattle.hip_uses.proofs.tokens.class_of.Goals as goal

all_bytes : CLASSES.now ≡ map class_of (range_with_len 0 256)
all_bytes = refl

pub returns : goal.returns
returns c =
    let at : get_or CLASSES.now c.args.byte Word ≡ class_of c.args.byte =
    ap (λ (classes : List Class). get_or classes c.args.byte Word) all_bytes ∙ get_or-map-range_with_len class_of 0 256 c.args.byte c.args.byte Word (omega (arith, c.ranges.byte.fits)) (omega arith) in
    at
