-- `around::put_hem` meets its contract: one wing, or another number of them. Assumes nothing.
use Rattle.std.proofs.Common.{refl}
use Rattle.around.proofs.Hemmed.{edge_given, edge_left}
use Rattle.around.proofs.put_hem.Goals as goal

pub returns-then-wings-e-eq1 : goal.returns-then-wings-e-eq1
returns-then-wings-e-eq1 c =
    edge_given c.args.lowers.now c.args.highers.now c.args.wings.now c.args.e _ _ _ _ _
    c.if-wings-e-eq1.true refl refl c.give.ensures c.give-then-wings-e-eq1.ensures

pub returns-else-wings-e-eq1 : goal.returns-else-wings-e-eq1
returns-else-wings-e-eq1 c =
    edge_left c.args.lowers.now c.args.highers.now c.args.wings.now c.args.e _ c.if-wings-e-eq1.false
