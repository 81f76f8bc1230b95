-- No rule tests the mark of a corner, and it moves with its corner: document 02, CR 11, by the definitions that the calls' contracts cite.
-- What it is to read no mark and to move it stands in Marks.antt. Proved in proofs/. Assumes nothing.
use Rattle.std.specs.Prelude.{◌≡◌, Bool, List, [], ◌∷◌, map, ℕ, get_or, Float}
use Rattle.mesh.specs.Mesh.{Mesh, mesh_of, Ring, mark, corners_in, faces}
use Rattle.mesh.specs.Table.{mesh_number}
use Rattle.mesh.specs.Face.{face_part}
use Rattle.folding.specs.Folding.{pieces}
use Rattle.folding.specs.Places.{places}
use Rattle.removal.specs.Origins.{origins_of}
use Rattle.removal.specs.Folded as removal
use Rattle.unused.specs.Compaction as compaction
use Rattle.inplace.specs.InPlace.{in_place_number}
use Rattle.cleaning.specs.Cleaning.{cleaned}
use Rattle.together.specs.Merging.{merge_number, position_pairs, texture_pairs, normal_pairs, merged_corners}
use Rattle.edges.specs.Edges.{Edge, verdict, hems}
use Rattle.edges.specs.Answers.{mesh_edges_of, hem_number}
use Rattle.ported.specs.Ported.{ported_wires}
use Rattle.ported.specs.Answers.{ported_number}
use Rattle.turning.specs.Turning.{house_wires_of}
use Rattle.house.specs.Answers.{house_number}
use Rattle.panels.specs.Contract.{components_number, panels_of}
use Rattle.smoothed.specs.Smoothed.{four}
use Rattle.smoothed.specs.Promise.{four_marks}
use Rattle.smoothed.specs.Refusals as smoothing
use Rattle.lines.specs.Lines.{sheet_text}
use Rattle.finding.specs.Found.{found_in}
use Rattle.marks.specs.Marks.{remarked, remarked_mesh, unmarked, Unread, Moved}

-- the mesh that merging leaves: new corners, all else as it was
unfoldable pub merged : Float → Mesh → Mesh
merged t m = mesh_of m.positions m.textures m.normals (merged_corners m t) m.sizes

-- ---- no rule tests it

-- each call answers the same number, whatever is lent
pub record NumbersUnread : Type 0 where
  pub of_mesh : Unread mesh_number
  pub of_compaction : (r : compaction.Result) → Unread (λ m. compaction.compaction_number m r)
  pub of_removal : (r : removal.Result) → Unread (λ m. removal.removal_number m r)
  pub of_merging : (t : Float) (room : ℕ) → Unread (λ m. merge_number m t room)
  pub of_hem_edges : (starts ends : ℕ) → Unread (λ m. hem_number m starts ends)
  pub of_ported_wires : (flat lengths : ℕ) → Unread (λ m. ported_number m flat lengths)
  pub of_house_wires : (flat lengths : ℕ) → Unread (λ m. house_number m flat lengths)
  pub of_panels : (flat lengths : ℕ) → Unread (λ m. components_number m flat lengths)
  pub of_smoothing : (ones twos : List Float) (r : smoothing.Result) → Unread (λ m. smoothing.smoothing_number m ones twos r)

-- and the number of compaction in place
abbrev pub InPlaceNumberUnread : Type 0
InPlaceNumberUnread = (numbers : List ℕ) → Unread (λ m. in_place_number m numbers)

pub record NoRuleTestsTheMark : Type 0 where
  pub numbers : NumbersUnread
  -- a face that is handed back has its marks
  pub part : (g : ℕ → ℕ) (m : Mesh) (k : ℕ) → face_part (remarked_mesh g m) k ≡ remarked g (face_part m k)
  pub compaction : Moved compaction.compacted
  -- folded faces: the same are left, and of each the same drawn face is told
  pub folded_faces : Moved removal.unfolded_mesh
  pub origins : Unread (λ m. origins_of (faces m))
  pub cleaning : Moved cleaned
  -- merging: the same points become one, and as many pairs are compared
  pub merging : (t : Float) → Moved (merged t)
  pub pairs : (t : Float) → Unread (λ m. position_pairs m t ∷ texture_pairs m t ∷ normal_pairs m t ∷ [])
  pub verdict : Unread (λ m. verdict (mesh_edges_of m))
  pub hem_edges_is : Unread (λ m. hems (mesh_edges_of m))
  pub ported_wires_is : Unread (λ m. ported_wires (hems (mesh_edges_of m)))
  pub house_wires_is : Unread (λ m. house_wires_of (faces m))
  -- under either normals setting
  pub panels : (normals : Bool) → Unread (panels_of normals)
  pub smoothing : (ones twos : List Float) → Moved (λ m. smoothing.result_of m ones twos)
  -- and the sheet of a mesh prints the same
  pub sheet : (g : ℕ → ℕ) (m : Mesh) → mesh_number m ≡ 0 → sheet_text (found_in (cleaned (remarked_mesh g m))) ≡ sheet_text (found_in (cleaned m))

-- ---- it moves with its corner

-- the marks of a mesh, corner by corner; and the mark at place k of a ring
abbrev pub marks_of : Mesh → List ℕ
marks_of m = map mark (corners_in m.corners)

abbrev pub mark_at : Ring → ℕ → ℕ
mark_at r k = mark (get_or r k [])

pub record MovesWithItsCorner : Type 0 where
  -- compaction and merging give a corner other indices and leave it its mark
  pub compaction : (m : Mesh) → marks_of (compaction.compacted m) ≡ marks_of m
  pub merging : (t : Float) (m : Mesh) → marks_of (merged t m) ≡ marks_of m
  -- a piece of a folded face has the marks of the corners that it took, and which it took goes by no mark
  pub folded_faces : (r : Ring) → map (map mark) (pieces r) ≡ map (map (mark_at r)) (places r)
  pub same_places : (g : ℕ → ℕ) (r : Ring) → places (map (remarked g) r) ≡ places r
  -- smoothing gives new corners 0: of the four triangles for one, three have an old corner each, and its mark
  pub smoothing : (n : ℕ) (ks : List Edge) (f : Ring) → map (map mark) (four n ks f) ≡ four_marks f

-- ---- two meshes that differ in marks alone

-- each of the answers above is the same of both, and of each mesh that a rule leaves it is true again that they differ in marks alone
pub record SameButForMarks (m n : Mesh) : Type 1 where
  pub answers : {X : Type 0} (answer : Mesh → X) → Unread answer → answer m ≡ answer n
  pub leaves : (rule : Mesh → Mesh) → Moved rule → mesh_number m ≡ 0 → unmarked (rule m) ≡ unmarked (rule n)

abbrev pub MarksAlone : Type 1
MarksAlone = (m n : Mesh) → unmarked m ≡ unmarked n → SameButForMarks m n
