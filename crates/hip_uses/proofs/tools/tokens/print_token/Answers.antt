use Rattle.std.proofs.Common.{refl}
use Rattle.std.proofs.lemmas.Result.{on_ok_weaker}
use Rattle.hip_uses.specs.Shown.{class_name}
use Rattle.hip_uses.proofs.TokenLines.{line-written}
use Rattle.hip_uses.proofs.tools.tokens.print_token.Goals as goal

pub returns : goal.returns
returns g c =
    let quoted = c.in_ok-print_quoted.ensures in
    on_ok_weaker c.write.result (λ ends. (_, (quoted.0, quoted.1, refl), line-written _ _ _ _ _ (class_name c.args.class) quoted.0 (rw (← c.class_name.ensures) c.in_ok-print_place.ensures) quoted.2 ends)) c.write.ensures
