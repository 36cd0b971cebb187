use Rattle.std.proofs.Common.{◌++◌, ◌∷◌, [], refl}
use Rattle.std.proofs.lemmas.Result.{on_ok_weaker}
use Rattle.hip_uses.proofs.Appended.{appends-then}
use Rattle.hip_uses.proofs.Quotes.{quoted-ascii}
use Rattle.hip_uses.proofs.tools.quoted.print_quoted.Goals as goal

pub returns-then-is_ascii : goal.returns-then-is_ascii
returns-then-is_ascii g c = on_ok_weaker c.print_plain.result (λ all. (_, quoted-ascii _ c.if-is_ascii.ensures.cases, all)) c.print_plain.ensures

pub returns : goal.returns
returns g c =
    let inner = c.in_ok-print_chars.ensures in
    on_ok_weaker c.write-2.result (λ last. (34 ∷ inner.0 ++ (34 ∷ []), (inner.0, inner.1, refl), appends-then _ _ _ _ _ c.in_ok-write.ensures (appends-then _ _ _ _ _ inner.2 last))) c.write-2.ensures
