-- What `components` promises: the number, both counts and both lent lists, of any five lists and any room. Assumes nothing.
use Rattle.std.specs.Prelude.{◌≡◌, Bool, List, [], ◌∷◌, map, ℕ, ◌/◌, length}
use Rattle.std.proofs.lemmas.List.Edits.{sets}
use Rattle.lists.specs.Lists.{joined}
use Rattle.mesh.specs.Limits.{width}
use Rattle.mesh.specs.Mesh.{Mesh, faces}
use Rattle.mesh.specs.Listed.{Listed}
use Rattle.mesh.specs.Table.{first_of, when, lent, short, mesh_number, after}
use Rattle.panels.specs.Panels.{panels}
use Rattle.panels.specs.declared.Answer.{Answer}

-- numbers 0 to 5, and 9: there is room in each list for one number per corner
unfoldable pub components_number : Mesh → ℕ → ℕ → ℕ
components_number m flat lengths =
    first_of (mesh_number m ∷ when (short (lent flat (length m.corners / width) ∷ lent lengths (length m.corners / width) ∷ [])) 9 ∷ [])

-- the panels of a mesh
abbrev pub panels_of : Bool → Mesh → List (List ℕ)
panels_of normals m = panels normals (faces m)

-- the call: a mesh and the normals setting are given. What it answers, and what the two lent lists hold before and after it: on 0 the
-- faces of all panels and how many each has from their beginning on, room past them unchanged, and how many faces and panels there
-- are; on any other number nothing is written, and each count is 0
pub record PanelsAnswer (m : Mesh) (normals : Bool) (before afterwards : Listed) (answer : Answer) : Type 0 where
  pub number : answer.number ≡ components_number m (length before.flat) (length before.lengths)
  pub face_count : answer.faces ≡ after answer.number (length (joined (panels_of normals m))) 0
  pub panel_count : answer.panels ≡ after answer.number (length (panels_of normals m)) 0
  pub flat : afterwards.flat ≡ after answer.number (sets before.flat 0 (joined (panels_of normals m))) before.flat
  pub lengths : afterwards.lengths ≡ after answer.number (sets before.lengths 0 (map length (panels_of normals m))) before.lengths

-- a refusal: each count beside the number is 0
abbrev pub refused_by : ℕ → Answer
refused_by n = record { number = n; faces = 0; panels = 0 }
