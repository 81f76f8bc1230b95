-- `appearing::number_marks` meets its contract: one mark more at a time. Assumes nothing.
use Rattle.appearing.proofs.Passing.{pass_begins, pass_turns, pass_ends}
use native.Mathlib.Omega.{arith}
use Rattle.appearing.proofs.number_marks.Goals as goal

pub loop-x-init : goal.loop-x-init
loop-x-init c = pass_begins _

pub loop-x-preserved : goal.loop-x-preserved
loop-x-preserved c =
    pass_turns _ c.requires _ _ _ c.loop-x.invariant (omega arith) _ _ c.take_point-found.ensures

pub returns : goal.returns
returns c = pass_ends _ c.requires _ _ _ c.loop-x.invariant (omega arith)
