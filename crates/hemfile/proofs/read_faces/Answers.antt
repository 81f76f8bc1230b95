-- `read_faces` meets its contract: what is drawn is kept by its corners and sizes (`Reading`). Assumes nothing.
use Rattle.hemfile.proofs.Reading.{drawn_read}
use Rattle.hemfile.proofs.read_faces.Goals as goal

pub returns : goal.returns
returns c = drawn_read c.requires c.draw.ensures
