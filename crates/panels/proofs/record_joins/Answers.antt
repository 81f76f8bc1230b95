-- First uses and faces make the joins of the rules. Assumes nothing.
use Rattle.panels.proofs.Joinable.{joins_ready, joins_done}
use Rattle.panels.proofs.record_joins.Goals as goal

pub put_joins-requires : goal.put_joins-requires
put_joins-requires c =
    joins_ready _ _ _ c.requires.keyable _ _ c.first_uses.ensures c.put_faces.ensures _ c.requires.room

pub returns : goal.returns
returns c =
    joins_done _ _ _ c.requires.keyable _ _ c.first_uses.ensures c.put_faces.ensures _ _ _ c.put_joins.ensures
