-- `mesh::face_at` meets its contract: the sizes add up to the corners, so the face ends within them. Assumes nothing.
use Rattle.mesh.proofs.Faces.{face_fits, part_is}
use Rattle.std.proofs.Common.{arith}
use Rattle.mesh.proofs.face_at.Goals as goal

pub overflow_mul-a : goal.overflow_mul-a
overflow_mul-a c = omega (arith, face_fits _ _ c.requires.sound c.args.k c.requires.is_face)

pub overflow_mul-e : goal.overflow_mul-e
overflow_mul-e c = omega (arith, face_fits _ _ c.requires.sound c.args.k c.requires.is_face)

pub overflow_add-e : goal.overflow_add-e
overflow_add-e c = omega (arith, face_fits _ _ c.requires.sound c.args.k c.requires.is_face)

pub offset_bounds-corners-a : goal.offset_bounds-corners-a
offset_bounds-corners-a c = omega (arith, face_fits _ _ c.requires.sound c.args.k c.requires.is_face)

pub slice_bounds-result-end : goal.slice_bounds-result-end
slice_bounds-result-end c = omega (arith, face_fits _ _ c.requires.sound c.args.k c.requires.is_face)

pub returns : goal.returns
returns c = part_is _ _ c.args.k c.args.at c.requires.offset
