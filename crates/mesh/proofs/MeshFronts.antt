-- The lists of an accepted mesh, written to the front of lists at the full limits, stand there by its counts. Assumes nothing.
use Rattle.std.proofs.Common.{◌≡◌, ℕ, ◌*◌, ◌/◌, List, length, sym, arith}
use lib.Seq.{sets}
use lib.Ieee.{Float}
use Rattle.lists.specs.Putting.{Front}
use Rattle.lists.proofs.Fronts.{front}
use Rattle.mesh.specs.Limits.{point_width, texel_width, width, face_limit, point_numbers, texel_numbers, corner_numbers}
use Rattle.mesh.specs.Mesh.{Mesh, position_count, texture_count, normal_count}
use Rattle.mesh.specs.Table.{mesh_number}
use Rattle.mesh.proofs.Accepted.{Accepted, accepted}

-- the lists of an accepted mesh, by its counts
module _ (m : Mesh) (ok : mesh_number m ≡ 0) where
  abbrev a : Accepted m
  a = accepted m ok

  pub front_positions :
      (l : List Float) {l' : List Float} {k : ℕ} → length l ≡ point_numbers → l' ≡ sets l 0 m.positions → k ≡ position_count m
      → Front l' m.positions (point_width * k)
  front_positions l f e n = front l e (omega (arith, n, a.whole.positions)) (omega (arith, n, f, a.limits.positions))

  pub front_textures :
      (l : List Float) {l' : List Float} {k : ℕ} → length l ≡ texel_numbers → l' ≡ sets l 0 m.textures → k ≡ texture_count m
      → Front l' m.textures (texel_width * k)
  front_textures l f e n = front l e (omega (arith, n, a.whole.textures)) (omega (arith, n, f, a.limits.textures))

  pub front_normals :
      (l : List Float) {l' : List Float} {k : ℕ} → length l ≡ point_numbers → l' ≡ sets l 0 m.normals → k ≡ normal_count m
      → Front l' m.normals (point_width * k)
  front_normals l f e n = front l e (omega (arith, n, a.whole.normals)) (omega (arith, n, f, a.limits.normals))

  pub front_corners :
      (l : List ℕ) {l' : List ℕ} {k : ℕ} → length l ≡ corner_numbers → l' ≡ sets l 0 m.corners → k ≡ length m.corners / width
      → Front l' m.corners (width * k)
  front_corners l f e n = front l e (omega (arith, n, a.whole.corners)) (omega (arith, n, f, a.limits.corners))

  pub front_sizes :
      (l : List ℕ) {l' : List ℕ} {k : ℕ} → length l ≡ face_limit → l' ≡ sets l 0 m.sizes → k ≡ length m.sizes
      → Front l' m.sizes k
  front_sizes l f e n = front l e (sym n) (omega (arith, n, f, a.limits.sizes))
