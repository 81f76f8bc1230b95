-- `saving::bytes::face_lengths` meets its contract: those of the first k faces are added up. Assumes nothing.
use native.Mathlib.Omega.{arith}
use Rattle.mesh.proofs.Faces.{face_fits}
use Rattle.saving.proofs.Cornering.{part_small, total_fits, total_turns, total_ends}
use Rattle.saving.proofs.bytes.face_lengths.Goals as goal

pub face_length-total-requires : goal.face_length-total-requires
face_length-total-requires c =
    part_small _ _ c.requires _ _ _ _ c.loop-k-test.true c.face_at-face.ensures c.loop-k.invariant

pub overflow_add-total : goal.overflow_add-total
overflow_add-total c =
    omega (arith, total_fits _ _ c.requires _ _ _ _ c.loop-k-test.true c.face_at-face.ensures c.loop-k.invariant _ c.face_length-total.ensures)

pub overflow_add-from : goal.overflow_add-from
overflow_add-from c =
    omega (arith, face_fits _ _ c.requires c.loop-k.k c.loop-k-test.true, c.loop-k.invariant.offset, c.requires.fits)

pub loop-k-preserved : goal.loop-k-preserved
loop-k-preserved c =
    total_turns _ _ c.requires _ _ _ _ c.loop-k-test.true c.face_at-face.ensures c.loop-k.invariant _ c.face_length-total.ensures

pub returns : goal.returns
returns c = total_ends _ _ _ _ _ c.loop-k-test.false c.loop-k.invariant
