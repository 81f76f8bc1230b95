-- The smaller and the larger on each axis. Assumes nothing.
use Rattle.floating.specs.Scaling.{lesser, greater}
use Rattle.floating.proofs.with_point.Goals as goal

pub returns : goal.returns
returns c =
    cc (c.on_axes.ensures lesser (λ a b r h. h), c.on_axes-2.ensures greater (λ a b r h. h))
