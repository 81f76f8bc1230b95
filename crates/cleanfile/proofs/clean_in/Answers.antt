-- `clean_in` meets its contract: a refused file is answered by its number; of any other the mesh that is left stands at the front of the
-- lists, and its file is written (`Answering`). Assumes nothing.
use Rattle.cleanfile.proofs.Answering.{left_ready, left_written}
use Rattle.cleanfile.proofs.clean_in.Goals as goal

pub put_mesh-length-requires : goal.put_mesh-length-requires
put_mesh-length-requires c =
    left_ready c.requires c.open_clean-left.ensures c.if-number-ne0.false

pub returns : goal.returns
returns c =
    left_written c.requires c.open_clean-left.ensures c.if-number-ne0.false c.put_mesh-length.ensures
