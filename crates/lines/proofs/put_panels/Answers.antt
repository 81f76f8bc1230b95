-- `lines::put_panels` meets its contract: a line of one number. Assumes nothing.
use Rattle.text.specs.Text.{line}
use Rattle.lines.specs.Lines.{panels_line}
use Rattle.lines.proofs.put_panels.Goals as goal

pub put_line-requires : goal.put_line-requires
unfolding panels_line line
put_line-requires c = c.requires

pub returns : goal.returns
unfolding panels_line line
returns c = c.put_line.ensures
