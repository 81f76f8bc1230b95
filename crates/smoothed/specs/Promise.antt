-- What document 02, 'CR 4', has proved of smoothing besides, of a whole mesh: whatever the positions are that it gives. Assumes
-- nothing.
use Rattle.std.specs.Prelude.{◌≡◌, true, false, List, [], ◌∷◌, map, ℕ, ◌*◌, ◌/◌, ◌≤◌, length, get_or, eqb, Float}
use Rattle.lists.specs.Lists.{some, every, joined, each}
use Rattle.mesh.specs.Limits.{point_width, least_ring, face_limit}
use Rattle.mesh.specs.Mesh.{Mesh, mesh_of, Ring, mark, faces, position_count}
use Rattle.mesh.specs.Table.{mesh_number}
use Rattle.verdicts.specs.Edges.{edges_of, verdict}
use Rattle.folding.specs.Folding.{folded}
use Rattle.smoothed.specs.Smoothed.{fold, smoothed_faces, smoothed_count, repeated, all_used}

-- the mesh that smoothing gives, with these positions; texture points and normals don't change
unfoldable pub smoothed_mesh : Mesh → List Float → Mesh
smoothed_mesh m ps =
    mesh_of ps m.textures m.normals
    (each joined (smoothed_faces (position_count m) (faces m)))
    (map length (smoothed_faces (position_count m) (faces m)))

-- no more faces than this can be smoothed: 341
abbrev pub most_faces : ℕ
most_faces = face_limit / fold

-- a mesh that is not refused for its faces or for the limit: accepted, triangles alone, none folded, each position in some face, and
-- no more faces than can be smoothed
pub record Given (m : Mesh) : Type 0 where
  pub accepted : mesh_number m ≡ 0
  pub triangles : every (λ k. eqb k least_ring) m.sizes ≡ true
  pub unfolded : some folded (faces m) ≡ false
  pub used : all_used (position_count m) (faces m) ≡ true
  pub few : length m.sizes ≤ most_faces

-- as many positions as smoothing gives
abbrev pub Fitting : Mesh → List Float → Type 0
Fitting m ps = length ps ≡ point_width * smoothed_count (position_count m) (faces m)

-- the marks of the four triangles that come of a face: each old corner keeps its own, a new one has none
abbrev pub four_marks : Ring → List (List ℕ)
four_marks f =
    (mark (get_or f 0 []) ∷ 0 ∷ 0 ∷ [])
    ∷ (0 ∷ mark (get_or f 2 []) ∷ 0 ∷ [])
    ∷ (0 ∷ 0 ∷ mark (get_or f 1 []) ∷ [])
    ∷ (0 ∷ 0 ∷ 0 ∷ [])
    ∷ []

pub record Promised (m : Mesh) (ps : List Float) : Type 0 where
  -- the result is accepted, and its faces are the smoothed faces
  pub accepted : mesh_number (smoothed_mesh m ps) ≡ 0
  pub is : faces (smoothed_mesh m ps) ≡ smoothed_faces (position_count m) (faces m)
  -- old corners keep their marks, and new corners have none
  pub marks : map (map mark) (faces (smoothed_mesh m ps)) ≡ each four_marks (faces m)
  -- no result face is folded, and each position of the result is in some face
  pub unfolded : some folded (faces (smoothed_mesh m ps)) ≡ false
  pub used : all_used (position_count (smoothed_mesh m ps)) (faces (smoothed_mesh m ps)) ≡ true
  -- where no two faces have the same three positions, the result's verdict is the input's verdict
  pub same_verdict : repeated (faces m) ≡ false → verdict (edges_of (faces (smoothed_mesh m ps))) ≡ verdict (edges_of (faces m))
  -- and no two result faces have the same three positions then, so that the same can be said of smoothing it again
  pub unlike : repeated (faces m) ≡ false → repeated (faces (smoothed_mesh m ps)) ≡ false
