-- `numbering::number_uses` meets its contract: after x uses the rows hold them. Assumes nothing.
use Rattle.numbering.proofs.Laying.{lay_begins, lay_takes, lay_turns, lay_ends}
use Rattle.numbering.proofs.number_uses.Goals as goal

pub loop-x-init : goal.loop-x-init
loop-x-init c = lay_begins _ _ _ _

pub take_use-count-requires : goal.take_use-count-requires
take_use-count-requires c =
    lay_takes _ _ _ _ c.requires _ _ _ c.loop-x.invariant c.loop-x-test.true

pub loop-x-preserved : goal.loop-x-preserved
loop-x-preserved c =
    lay_turns _ _ _ _ c.requires _ _ _ c.loop-x.invariant c.loop-x-test.true _ _ c.take_use-count.ensures

pub returns : goal.returns
returns c =
    lay_ends _ _ _ _ c.requires _ _ _ c.loop-x.invariant c.loop-x-test.false
