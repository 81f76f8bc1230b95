-- The lists that hold the pieces before they are grouped: all fit, and their fronts are the pieces again. Assumes nothing.
use mathlib.Core.Path.{◌≡◌, sym, ap, ap₂, ◌∙◌}
use mathlib.Core.Bool.{true}
use mathlib.Core.List.{List, map}
use Prim.Native.Nat.{ℕ, ◌*◌, ◌≤◌}
use native.Mathlib.Nat.{le_of_eq}
use native.Mathlib.Omega.{arith}
use lib.ListN.{length, take, replicate, length-map, length-replicate}
use lib.Seq.{length-take-le}
use Rattle.lists.specs.Lists.{every, joined, each, sum}
use Rattle.lists.proofs.Copies.{take_written}
use Rattle.mesh.specs.Limits.{width, face_limit, corner_numbers}
use Rattle.mesh.specs.Full.{FacesAtLimits}
use Rattle.mesh.specs.Mesh.{Ring, rings}
use Rattle.mesh.specs.Face.{Sound}
use Rattle.mesh.proofs.Corners.{is_corner}
use Rattle.mesh.proofs.Faces.{is_ring, rings_are, rings_back, sizes_back}
use Rattle.grouping.specs.Push.{Placed, pushed}
use Rattle.grouping.proofs.Placing.{length_flat}
use Rattle.folding.specs.Folding.{pieces}
use Rattle.folding.proofs.Pieces.{is_face, pieces_sane}
use Rattle.splitting.proofs.Pieces.{third}
use Rattle.removal.specs.Folded.{removed}
use Rattle.removal.specs.Working.{Ready}
use Rattle.allfaces.specs.Working.{Standing}
use Rattle.removal.proofs.Result.{every_pieces, corners_pieces, count_pieces}

-- the lists before anything is written: long enough for every mesh
pub blank : FacesAtLimits (replicate corner_numbers 0) (replicate face_limit 0)
blank = record { corners = length-replicate {A = ℕ} corner_numbers 0; sizes = length-replicate {A = ℕ} face_limit 0 }

-- c corners and f faces are written to p and q, which hold p' and q' then
module _ (cs s o l u p p' q q' : List ℕ) (c f : ℕ) (y : Ready cs s o l u) (x : FacesAtLimits p q)
    (w : Placed (each pieces (rings s cs)) p p' q q' 0 0 c f) where
  abbrev ps : List Ring
  ps = each pieces (rings s cs)

  whole : every is_ring ps ≡ true
  whole = corners_pieces is_corner (rings s cs) (rings_are s cs)

  flat : length (each joined ps) ≡ width * c
  flat = omega (arith, length_flat ps whole, w.more)

  pub few_corners : width * c ≤ length cs
  few_corners =
      omega (arith, w.more, count_pieces (rings s cs), ap sum (sizes_back s cs (le_of_eq y.fit.sound.adds)), y.fit.sound.adds)

  pub few_faces : width * 3 * f ≤ length cs
  few_faces =
      omega (arith, few_corners, w.most, w.more, third ps (every_pieces is_face (rings s cs) (λ r. (pieces_sane r).faces)))

  front : take (width * c) p' ≡ each joined ps
  front = ap (take (width * c)) w.corners ∙ take_written p (each joined ps) (width * c) flat (omega (arith, few_corners, x.corners, y.fit.sound.fits))

  count : length (map length ps) ≡ f
  count = omega (arith, length-map ps length, w.most)

  pub pieces_front : take f q' ≡ map length ps
  pieces_front = ap (take f) w.sizes ∙ take_written q (map length ps) f count (omega (arith, few_faces, x.sizes, y.fit.sound.fits))

  pub pieces_sound : Sound (take (width * c) p') (take f q')
  pieces_sound = record {
    few = rw pieces_front (omega (arith, count, few_faces, y.fit.sound.fits));
    fits = rw front (omega (arith, flat, few_corners, y.fit.sound.fits));
    adds = rw (front, pieces_front) (sym (length_flat ps whole));
  }

  pub pieces_corners : length (take (width * c) p') ≤ length o
  pieces_corners = rw front (omega (arith, flat, few_corners, y.corners))

  pub pieces_sizes : length (take f q') ≤ length l
  pieces_sizes = rw pieces_front (omega (arith, count, few_faces, y.sizes))

  -- grouped, they are the faces that are left
  pub pieces_grouped : removed (rings s cs) ≡ pushed (rings (take f q') (take (width * c) p'))
  unfolding removed
  pieces_grouped = ap pushed (sym (ap₂ rings pieces_front front ∙ rings_back ps whole))

-- ---- within the lists that the faces stand in

module _ {cs s ps ls ts : List ℕ} {c f : ℕ} (y : Standing cs s c f ps ls ts) where
  -- those lists are room for what is left
  pub back_ready : Ready (take c cs) (take f s) cs s ts
  back_ready =
      let fits = y.fit.sound.fits in
      record {
        fit = y.fit;
        corners = omega (arith, length-take-le c cs y.corners, y.corners);
        sizes = omega (arith, y.full.sizes, fits);
        origins = omega (arith, y.tag_room.sizes, fits);
      }
