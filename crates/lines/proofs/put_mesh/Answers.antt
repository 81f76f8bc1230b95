-- `lines::put_mesh` meets its contract: a line of four numbers. Assumes nothing.
use Rattle.text.specs.Text.{line}
use Rattle.lines.specs.Lines.{mesh_line}
use Rattle.lines.proofs.put_mesh.Goals as goal

pub put_line-requires : goal.put_line-requires
unfolding mesh_line line
put_line-requires c = c.requires

pub returns : goal.returns
unfolding mesh_line line
returns c = c.put_line.ensures
