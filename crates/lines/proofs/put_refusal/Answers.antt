-- `lines::put_refusal` meets its contract: a line of one number, for which there is room (`refusal_room`). Assumes nothing.
use Rattle.text.specs.Text.{line}
use Rattle.lines.specs.Lines.{refusal}
use Rattle.lines.proofs.Fitting.{sheeted, refusal_room}
use native.Mathlib.Omega.{arith}
use Rattle.lines.proofs.put_refusal.Goals as goal

pub put_line-requires : goal.put_line-requires
unfolding refusal line
put_line-requires c = refusal_room _ _ (omega arith) c.requires

pub returns : goal.returns
unfolding refusal line
returns c = sheeted (refusal_room _ _ (omega arith) c.requires) c.put_line.ensures
