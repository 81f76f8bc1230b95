-- One use, up or down. Assumes nothing.
use Rattle.uses.proofs.Filling.{put_up, put_down}
use Rattle.uses.proofs.put_use.Goals as goal

pub returns-then-a-b : goal.returns-then-a-b
returns-then-a-b c = put_up _ _ _ _ _ _ c.if-a-b.true

pub returns-else-a-b : goal.returns-else-a-b
returns-else-a-b c = put_down _ _ _ _ _ _ c.if-a-b.false
