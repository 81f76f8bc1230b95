-- `lines::put_hem` meets its contract: a line of the wire's numbers. Assumes nothing.
use Rattle.text.specs.Text.{line}
use Rattle.lines.specs.Lines.{hem_line}
use Rattle.lines.proofs.put_hem.Goals as goal

pub put_line-requires : goal.put_line-requires
unfolding hem_line line
put_line-requires c = c.requires

pub returns : goal.returns
unfolding hem_line line
returns c = c.put_line.ensures
