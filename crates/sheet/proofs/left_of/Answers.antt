-- `left_of` meets its contract: what is opened is kept by its counts, corners and sizes (`Left`). Assumes nothing.
use Rattle.sheet.proofs.Left.{opened_kept}
use Rattle.sheet.proofs.left_of.Goals as goal

pub returns : goal.returns
returns c =
    opened_kept c.open_clean.ensures
