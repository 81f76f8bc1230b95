-- `sides::put_face` meets its contract: three uses one after the other are those of the face. Assumes nothing.
use Rattle.std.proofs.Common.{refl}
use Rattle.sides.proofs.Columns.{face_written}
use Rattle.sides.proofs.put_face.Goals as goal

pub returns : goal.returns
returns c =
    face_written _ _ _ _ _ _ _ _ _ _ _ _ _ _ _ _ _ refl refl refl
    c.put_side.ensures
    c.put_side-2.ensures
    c.put_side-3.ensures
