-- Compaction at the front of the lent lists: an accepted mesh there has room for its numbers, and what compaction in place leaves of it stands
-- at the front of the lists. Assumes nothing.
use mathlib.Core.Path.{◌≡◌, ◌∙◌, refl, ap}
use mathlib.Core.List.{List, ◌++◌}
use Prim.Native.Nat.{ℕ, ◌*◌, ◌/◌}
use native.Mathlib.Omega.{arith}
use lib.ListN.{length, take, drop}
use lib.Seq.{take-length}
use lib.Ieee.{Float}
use Rattle.lists.specs.Putting.{Front}
use Rattle.mesh.specs.Limits.{point_width, texel_width, width}
use Rattle.mesh.specs.Mesh.{Mesh, mesh_of}
use Rattle.mesh.proofs.Accepted.{Accepted, accepted}
use Rattle.unused.specs.Compaction.{Compacted}
use Rattle.unused.specs.Compaction.{compacted}
use Rattle.unused.proofs.Laws.{accepted_compacted}
use Rattle.inplace.specs.InPlace.{Roomy, InPlace}
use Rattle.inplace.specs.Promises as promised
use Rattle.inplace.proofs.Answer.{roomy, roomy_number}
use Rattle.inplace.proofs.Laws.{counted_positions, counted_textures, counted_normals, kept}
use Rattle.reading.specs.declared.MeshRead.{MeshRead}
use Rattle.opening.specs.Opening.{Kept}
use Rattle.opening.specs.Working.{unfolded_front, Unfolded}
use Rattle.opening.proofs.Fronts.{begins, goes_on, whole}

module _ {l : Mesh} {d : MeshRead} {s : List ℕ} (ready : Unfolded l d s) where
  abbrev given : Mesh
  given = unfolded_front l d

  pub given_roomy : Roomy given s
  given_roomy =
      let limits = (accepted given ready.accepted).limits in
      roomy given s ready.accepted
      (omega (arith, limits.positions, ready.room))
      (omega (arith, limits.textures, ready.room))
      (omega (arith, limits.normals, ready.room))

  -- what is left of the parts that were lent stands in front of the rest of each list
  module _ {p t n : List Float} {cs s' : List ℕ} {answer : Compacted} (done : InPlace given (mesh_of p t n cs l.sizes) s s' answer) where
    abbrev smaller : Mesh
    smaller = compacted given

    not_refused : answer.number ≡ 0
    not_refused = done.number ∙ roomy_number given s given_roomy

    first : promised.Kept given (mesh_of p t n cs l.sizes) answer
    first = kept done not_refused

    again : Accepted smaller
    again = accepted smaller (accepted_compacted given ready.accepted)

    position_front : Front p smaller.positions (point_width * answer.positions)
    position_front = begins first.positions (omega (arith, counted_positions done not_refused, again.whole.positions))

    texture_front : Front t smaller.textures (texel_width * answer.textures)
    texture_front = begins first.textures (omega (arith, counted_textures done not_refused, again.whole.textures))

    normal_front : Front n smaller.normals (point_width * answer.normals)
    normal_front = begins first.normals (omega (arith, counted_normals done not_refused, again.whole.normals))

    -- the corners are all of their list
    corner_front : Front cs smaller.corners (width * (length cs / width))
    corner_front =
        let is : cs ≡ smaller.corners = first.corners in
        let long : width * (length cs / width) ≡ length cs = omega (arith, ap length is, again.whole.corners) in
        begins (ap (λ (k : ℕ). take k cs) long ∙ take-length cs ∙ is) (omega (arith, ap length is, long))

    abbrev behind : Mesh
    behind =
        mesh_of
        (p ++ drop (point_width * d.positions) l.positions)
        (t ++ drop (texel_width * d.textures) l.textures)
        (n ++ drop (point_width * d.normals) l.normals)
        cs
        l.sizes

    pub smaller_kept :
        Kept smaller behind
        (record {
          number = 0;
          positions = answer.positions;
          textures = answer.textures;
          normals = answer.normals;
          corners = length cs / width;
          faces = length l.sizes;
        })
    unfolding compacted
    smaller_kept = record {
      number = refl;
      fronts = record {
        positions = goes_on (drop (point_width * d.positions) l.positions) position_front;
        textures = goes_on (drop (texel_width * d.textures) l.textures) texture_front;
        normals = goes_on (drop (point_width * d.normals) l.normals) normal_front;
        corners = corner_front;
        sizes = whole l.sizes;
      };
    }
