-- After j corners the first j numbers of the face's column are written. Assumes nothing.
use Rattle.lists.proofs.Writing.{Copying}
use Rattle.mesh.specs.Mesh.{corners_in}
use Rattle.columns.proofs.Using.{face_column}
use Rattle.columns.proofs.put_face.Given as goal

abbrev pub invariant-loop-j : goal.invariant-loop-j
invariant-loop-j l = Copying (face_column l.normals l.which l.face (corners_in l.part)) l.initial.out l.out l.at l.j
