use Rattle.std.proofs.Common.{◌∙◌, sym}
use Rattle.hip_script.proofs.Bytes.{found-at, found-nowhere}
use Rattle.hip_script.proofs.RangeLaws.{no_dot-fails, low-fails, high-fails, range-is}
use Rattle.hip_script.proofs.words.range.Goals as goal

pub returns-in_err-at : goal.returns-in_err-at
returns-in_err-at c = c.from_residual.ensures ∙ sym (no_dot-fails _ (found-nowhere 46 _ c.in_err-at.ensures))

pub returns-in_err-low : goal.returns-in_err-low
returns-in_err-low c =
    c.from_residual-in_err-low.ensures
    ∙ sym (low-fails _ _ _ _ (found-at 46 _ _ c.in_ok-at.ensures) c.split_at.ensures.front c.split_at.ensures.back c.in_err-low.ensures)

pub returns-in_err-high : goal.returns-in_err-high
returns-in_err-high c =
    c.from_residual-in_err-high.ensures
    ∙ sym (high-fails _ _ _ _ (found-at 46 _ _ c.in_ok-at.ensures) c.split_at.ensures.front c.split_at.ensures.back c.in_err-high.ensures)

pub returns : goal.returns
returns c =
    range-is _ _ _ _ _ _ (found-at 46 _ _ c.in_ok-at.ensures) c.split_at.ensures.front c.split_at.ensures.back c.in_ok-low.ensures c.in_ok-high.ensures
