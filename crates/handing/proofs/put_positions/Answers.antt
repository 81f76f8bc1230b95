-- `handing::put_positions` meets its contract: one point more at a time. Assumes nothing.
use mathlib.Core.Path.{refl}
use Rattle.handing.proofs.Putting.{putting_begins, new_room, putting_turns}
use Rattle.handing.proofs.put_positions.Goals as goal

pub loop-x-init : goal.loop-x-init
loop-x-init c = putting_begins _ _ _

pub put_new-found-requires : goal.put_new-found-requires
put_new-found-requires c =
    new_room _ _ _ c.requires _ _ _ c.loop-x.invariant c.loop-x-test.true _ refl

pub loop-x-preserved : goal.loop-x-preserved
loop-x-preserved c =
    putting_turns _ _ _ c.requires _ _ _ c.loop-x.invariant c.loop-x-test.true _ refl _ _
    c.put_new-found.ensures
