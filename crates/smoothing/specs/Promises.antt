-- What a caller may count on where the call answers 0, of any lists that the contract lets it leave. Proved in proofs/. Assumes nothing.
use Rattle.std.specs.Prelude.{◌≡◌, false, true, List, map, ◌*◌, length, take, Float}
use Rattle.lists.specs.Lists.{some, each}
use Rattle.mesh.specs.Limits.{point_width, width}
use Rattle.mesh.specs.Mesh.{Mesh, mesh_of, mark, faces, position_count}
use Rattle.mesh.specs.Table.{mesh_number}
use Rattle.verdicts.specs.Edges.{edges_of, verdict}
use Rattle.folding.specs.Folding.{folded}
use Rattle.smoothed.specs.Smoothed.{fold, repeated, all_used}
use Rattle.smoothed.specs.Promise.{four_marks}
use Rattle.smoothed.specs.Refusals.{Result}
use Rattle.smoothing.specs.declared.Smoothed.{Smoothed}
use Rattle.smoothing.specs.Smoothing.{Smoothing}

-- the mesh that the call hands over: the fronts of the three lists, as long as its counts say, with the texture points and normals that were given
abbrev pub handed_over : Mesh → Result → Smoothed → Mesh
handed_over m left answer =
    mesh_of
    (take (point_width * answer.positions) left.positions)
    m.textures
    m.normals
    (take (width * answer.corners) left.corners)
    (take answer.faces left.sizes)

pub record Rounded (m round : Mesh) : Type 0 where
  -- it is accepted, has four faces for each, none of them folded, and each of its positions is in some face
  pub accepted : mesh_number round ≡ 0
  pub fourfold : length round.sizes ≡ fold * length m.sizes
  pub unfolded : some folded (faces round) ≡ false
  pub used : all_used (position_count round) (faces round) ≡ true
  -- old corners keep their marks, and new corners have none
  pub marks : map (map mark) (faces round) ≡ each four_marks (faces m)
  -- where no two faces have the same three positions, its verdict is the input's verdict, and no two faces of it have the same three positions
  pub same_verdict : repeated (faces m) ≡ false → verdict (edges_of (faces round)) ≡ verdict (edges_of (faces m))
  pub unlike : repeated (faces m) ≡ false → repeated (faces round) ≡ false

abbrev pub SmoothedIsRounded : Type 0
SmoothedIsRounded =
    (m : Mesh) (ones twos : List Float) (before left : Result) (answer : Smoothed)
    → Smoothing m ones twos before left answer → answer.number ≡ 0
    → Rounded m (handed_over m left answer)
