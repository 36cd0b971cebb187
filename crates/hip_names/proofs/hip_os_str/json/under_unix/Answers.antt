use Rattle.std.proofs.Common.{◌∙◌, ap, sym}
use Rattle.std.specs.Prelude.{option_and_then}
use Rattle.hip_bytes.specs.Json.{only_unix}
use Rattle.hip_names.proofs.Json.{only-none}
use Rattle.hip_names.proofs.hip_os_str.json.under_unix.Goals as goal

pub returns-then-len-ne1 : goal.returns-then-len-ne1
returns-then-len-ne1 c =
    let none = only-none c.in_ok-members.members.now.entries (λ one. absurd (c.if-len-ne1.true (c.len.ensures.len ∙ one))) in
    sym none ∙ ap (option_and_then only_unix) c.in_ok-members.ensures
