-- `lines::put_refused_hems` meets its contract: the words of the line are written out. Assumes nothing.
use Rattle.text.specs.Text.{line, decimal, decimal_in}
use Rattle.lines.specs.Lines.{hem_lines}
use Rattle.lines.proofs.put_refused_hems.Goals as goal

pub put_bytes-requires : goal.put_bytes-requires
unfolding hem_lines line decimal decimal_in
put_bytes-requires c = c.requires

pub returns : goal.returns
unfolding hem_lines line decimal decimal_in
returns c = c.put_bytes.ensures
