-- Nothing is written for the first use of a key, two faces for another. Assumes nothing.
use Rattle.std.proofs.Common.{refl}
use Rattle.panels.proofs.Recording.{wrote_none, wrote_one}
use Rattle.panels.proofs.joins.put_join.Goals as goal

pub returns-then-f-u : goal.returns-then-f-u
returns-then-f-u c = wrote_none _ _ _ _ _ _ refl c.if-f-u.true

pub returns : goal.returns
returns c = wrote_one _ _ _ _ _ _ refl c.if-f-u.false
