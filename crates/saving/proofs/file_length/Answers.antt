-- `saving::file_length` meets its contract: no mesh has a longer file than the largest, so that the sum fits. Assumes nothing.
use mathlib.Core.Path.{sym}
use Rattle.mesh.specs.Mesh.{faces}
use Rattle.mesh.proofs.Accepted.{accepted}
use Rattle.written.specs.Pieces.{file_length}
use Rattle.written.proofs.Parting.{file_fits}
use native.Mathlib.Omega.{arith}
use Rattle.saving.proofs.file_length.Goals as goal

pub face_lengths-f-requires : goal.face_lengths-f-requires
face_lengths-f-requires c = (accepted _ c.requires).sound

pub overflow_add-result : goal.overflow_add-result
unfolding file_length faces
overflow_add-result c = omega (arith, c.face_lengths-f.ensures, file_fits _ c.requires)

pub overflow_add-result-2 : goal.overflow_add-result-2
unfolding file_length faces
overflow_add-result-2 c = omega (arith, c.face_lengths-f.ensures, file_fits _ c.requires)

pub overflow_add-result-3 : goal.overflow_add-result-3
unfolding file_length faces
overflow_add-result-3 c = omega (arith, c.face_lengths-f.ensures, file_fits _ c.requires)

pub overflow_add-result-4 : goal.overflow_add-result-4
unfolding file_length faces
overflow_add-result-4 c = omega (arith, c.face_lengths-f.ensures, file_fits _ c.requires)

pub returns : goal.returns
unfolding file_length faces
returns c = rw (sym c.face_lengths-f.ensures)
