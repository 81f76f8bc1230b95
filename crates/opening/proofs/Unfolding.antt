-- Removal within lists at the full limits: on an accepted mesh it can be done, and what it leaves stands at the front of the lists, an
-- accepted mesh again. Assumes nothing.
use mathlib.Core.Path.{◌≡◌, ◌∙◌, refl, sym, ap}
use mathlib.Core.List.{List, ◌++◌}
use Prim.Native.Nat.{ℕ, ◌*◌, ◌/◌, ◌≤◌}
use native.Mathlib.Omega.{arith}
use lib.ListN.{length, take, drop, length-map}
use lib.Seq.{sets}
use lib.Ieee.{Float}
use Rattle.lists.specs.Putting.{Front}
use Rattle.mesh.specs.Limits.{width, least_ring}
use Rattle.mesh.specs.Mesh.{Mesh, mesh_of, faces, rings}
use Rattle.mesh.specs.Table.{mesh_number}
use Rattle.mesh.proofs.Accepted.{accepted}
use Rattle.mesh.proofs.MeshFronts.{front_corners, front_sizes}
use Rattle.removal.specs.Folded.{removed, unfolded_mesh, result_of, Removal}
use Rattle.removal.specs.Origins.{origins_of}
use Rattle.grouping.specs.Push.{Placed}
use Rattle.removal.proofs.Answer.{given, done}
use Rattle.removal.proofs.Accepted.{removed_accepted, flat_removed}
use Rattle.allfaces.specs.Working as all
use Rattle.unused.specs.Compaction.{compacted}
use Rattle.reading.specs.declared.MeshRead.{MeshRead}
use Rattle.cleaning.specs.Cleaning.{cleaned}
use Rattle.opening.specs.Opening.{front_of, Kept}
use Rattle.opening.specs.Working.{unfolded_front, FaceRoom, Unfolded}
use Rattle.opening.proofs.Fronts.{front_length, goes_on}

module _ {l : Mesh} {d : MeshRead} {us ss os : List ℕ} (room : FaceRoom l d us ss os) where
  abbrev m : Mesh
  m = front_of l d

  corners_room : length m.corners ≤ length l.corners
  corners_room = omega (arith, room.standing.room.corners, (accepted m room.standing.accepted).limits.corners)

  sizes_room : length m.corners / width / least_ring ≤ length l.sizes
  sizes_room = omega (arith, room.standing.room.sizes, (accepted m room.standing.accepted).limits.corners)

  origins_room : length m.corners / width / least_ring ≤ length os
  origins_room = omega (arith, room.origins, (accepted m room.standing.accepted).limits.corners)

  -- what the removal asks
  pub faces_stand : all.Standing l.corners l.sizes (width * d.corners) d.faces us ss os
  faces_stand = record {
    corners = room.standing.fronts.corners.within;
    sizes = room.standing.fronts.sizes.within;
    fit = (given m l.corners l.sizes os room.standing.accepted corners_room sizes_room origins_room).ready.fit;
    full = record { corners = room.standing.room.corners; sizes = room.standing.room.sizes };
    room = record { corners = room.corners; sizes = room.sizes };
    tag_room = record { corners = room.corners; sizes = room.origins };
  }

module _ {l : Mesh} {d : MeshRead} {us ss os c' s' : List ℕ} {k f : ℕ} (room : FaceRoom l d us ss os)
    (written : Placed (removed (rings (m room).sizes (m room).corners)) l.corners c' l.sizes s' 0 0 k f) where
  abbrev drawn : Mesh
  drawn = front_of l d

  abbrev unfolded : Mesh
  unfolded = unfolded_mesh drawn

  abbrev ok : mesh_number drawn ≡ 0
  ok = room.standing.accepted

  abbrev tags : List ℕ
  tags = sets os 0 (origins_of (rings drawn.sizes drawn.corners))

  removal : Removal drawn (result_of l.corners l.sizes os) (result_of c' s' tags) (record { number = 0; corners = k; faces = f })
  removal =
      done drawn l.corners l.sizes os ok (corners_room room) (sizes_room room) (origins_room room) c' s' tags k f
      (record { placed = written; origins = refl })

  unfolded_accepted : mesh_number unfolded ≡ 0
  unfolded_accepted = removed_accepted drawn ok

  pub unfolded_corners : Front c' unfolded.corners (width * k)
  unfolding unfolded_mesh
  unfolded_corners =
      front_corners unfolded unfolded_accepted l.corners room.standing.room.corners removal.corners
      (removal.corner_count_is ∙ omega (arith, flat_removed drawn ok))

  pub unfolded_sizes : Front s' unfolded.sizes f
  unfolding unfolded_mesh
  unfolded_sizes =
      front_sizes unfolded unfolded_accepted l.sizes room.standing.room.sizes removal.sizes
      (removal.face_count ∙ sym (length-map (removed (faces drawn)) length))

  -- what compaction is given, with the list in which the faces' pieces stood for the new numbers
  abbrev lists : Mesh
  lists = mesh_of l.positions l.textures l.normals (take (width * k) c') (take f s')

  abbrev handed : Mesh
  handed = unfolded_front lists d

  handed_is : handed ≡ unfolded
  unfolding unfolded_mesh
  handed_is = rw (unfolded_corners.is, unfolded_sizes.is)

  pub unfolded_ready : (numbers : List ℕ) → length numbers ≡ length us → Unfolded lists d numbers
  unfolded_ready numbers long = record {
    accepted = ap mesh_number handed_is ∙ unfolded_accepted;
    position_front = room.standing.fronts.positions;
    texture_front = room.standing.fronts.textures;
    normal_front = room.standing.fronts.normals;
    room = omega (arith, long, room.corners);
  }

  -- what it leaves, with the sizes that stand there, and in front of the rest of the corners' list
  module _ {p' t' n' : List Float} {c'' : List ℕ} {r : MeshRead} (left : Kept (compacted handed) (mesh_of p' t' n' c'' (take f s')) r) where
    faces_are : f ≡ r.faces
    unfolding compacted
    faces_are = unfolded_sizes.long ∙ front_length left.fronts.sizes

    size_front : Front s' (cleaned drawn).sizes r.faces
    unfolding cleaned compacted
    size_front = rw faces_are at unfolded_sizes

    pub cleaned_kept : Kept (cleaned drawn) (mesh_of p' t' n' (c'' ++ drop (width * k) c') s') r
    unfolding cleaned
    cleaned_kept =
        let same : Kept (cleaned drawn) (mesh_of p' t' n' c'' (take f s')) r = rw handed_is at left in
        record {
          number = left.number;
          fronts = record {
            positions = same.fronts.positions;
            textures = same.fronts.textures;
            normals = same.fronts.normals;
            corners = goes_on (drop (width * k) c') same.fronts.corners;
            sizes = size_front;
          };
        }
