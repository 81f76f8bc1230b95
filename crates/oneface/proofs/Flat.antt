-- A face's flat part of the list of corners, read corner by corner: the corners, and their positions. Assumes nothing.
use Rattle.std.proofs.Common.{◌≡◌, ℕ, ◌*◌, ◌<◌, List, [], map, length, get_or, sym, ap, ◌∙◌, arith}
use Rattle.std.proofs.lemmas.List.{length-map}
use Rattle.std.proofs.Math.ListN.{get_or-map}
use Rattle.std.proofs.Math.Seq.{ext_get_or}
use Rattle.mesh.specs.Limits.{width}
use Rattle.mesh.specs.Mesh.{Ring, position, corners_in, corner_at}
use Rattle.mesh.proofs.Corners.{length-corners_in, get_or-corners_in}

module _ (face : List ℕ) (n : ℕ) (h : length face ≡ width * n) where
  long : length (corners_in face) ≡ n
  long = length-corners_in face ∙ (omega arith)

  pub corners_read : (r : Ring) → length r ≡ n → ((k : ℕ) → k < n → get_or r k [] ≡ corner_at face k) → r ≡ corners_in face
  corners_read r e f =
      ext_get_or [] r (corners_in face) (omega (arith, long)) (λ k l.
      let b : k < n = (let z : k < length r = l in omega arith) in
      f k b ∙ sym (get_or-corners_in face k (omega arith)))

  pub positions_read : (l : List ℕ) → length l ≡ n → ((k : ℕ) → k < n → get_or l k 0 ≡ get_or face (width * k) 0) → l ≡ map position (corners_in face)
  positions_read l e f =
      let m : length (map position (corners_in face)) ≡ n = length-map (corners_in face) position ∙ long in
      ext_get_or 0 l (map position (corners_in face)) (omega arith) (λ k b.
      let g : k < n = (let z : k < length l = b in omega arith) in
      f k g ∙ sym (get_or-map position (corners_in face) k [] ∙ ap position (get_or-corners_in face k (omega arith))))
