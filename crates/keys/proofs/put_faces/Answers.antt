-- The column of faces has the face of each use. Assumes nothing.
use Rattle.std.proofs.Common.{◌∙◌}
use Rattle.keys.proofs.Rows.{faces_column}
use Rattle.keys.proofs.put_faces.Goals as goal

pub returns : goal.returns
returns c = c.put_column.ensures ∙ faces_column _
