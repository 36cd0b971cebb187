use Rattle.std.proofs.Common.{◌≡◌, ℕ, Option, length, subst, encode_utf8}
use Rattle.hip_match.specs.Joined.{rejoined, parts_at, together}
use Rattle.hip_match.specs.Pieces.{split, split_inclusive}
use Rattle.hip_match.proofs.CharTextLemmas.{same_ends}
use Rattle.hip_match.proofs.LawLemmas.{split-joined, split_inclusive-together}
use Rattle.hip_match.proofs.laws.join_undoes_split_by_char.Goals as goal

pub returns-clause-split : goal.returns-clause-split
returns-clause-split c =
    let t = c.args.text.now in
    let P : (ℕ → Option ℕ) → Type 0 = λ e. rejoined (encode_utf8 c.args.separator) (parts_at t (split e (length t))) ≡ t in
    subst P (same_ends c.args.separator t c.ranges.separator.0 c.utf8.text) (split-joined (encode_utf8 c.args.separator) t c.utf8.text)

pub returns-clause-inclusive : goal.returns-clause-inclusive
returns-clause-inclusive c =
    let t = c.args.text.now in
    let P : (ℕ → Option ℕ) → Type 0 = λ e. together (parts_at t (split_inclusive e (length t))) ≡ t in
    subst P (same_ends c.args.separator t c.ranges.separator.0 c.utf8.text) (split_inclusive-together (encode_utf8 c.args.separator) t c.utf8.text)
