-- `saving::bytes::put_faces` meets its contract: the records of the first k faces are stored. Assumes nothing.
use native.Mathlib.Omega.{arith}
use Rattle.mesh.proofs.Faces.{face_fits}
use Rattle.saving.proofs.Faces.{a_face, faces_turn, faces_end}
use Rattle.saving.proofs.bytes.put_faces.Goals as goal

pub put_face-to-requires : goal.put_face-to-requires
put_face-to-requires c =
    a_face _ _ _ _ _ _ _ _ _ c.loop-k-test.true c.face_at-face.ensures c.requires c.loop-k.invariant

pub overflow_add-from : goal.overflow_add-from
overflow_add-from c =
    omega (arith, face_fits _ _ c.requires.sound c.loop-k.k c.loop-k-test.true, c.loop-k.invariant.offset, c.requires.sound.fits)

pub loop-k-preserved : goal.loop-k-preserved
loop-k-preserved c =
    faces_turn _ _ _ _ _ _ _ _ _ c.loop-k-test.true c.face_at-face.ensures c.requires c.loop-k.invariant _ _ c.put_face-to.ensures

pub returns : goal.returns
returns c = faces_end _ _ _ _ _ _ _ _ c.loop-k-test.false c.loop-k.invariant
