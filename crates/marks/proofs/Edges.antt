-- Edges are read from positions alone, and so verdict, hem edges and wires. Assumes nothing.
use mathlib.Core.Path.{◌≡◌, refl, ap, ap₂, ◌∙◌}
use mathlib.Core.List.{List, [], ◌∷◌, map}
use Prim.Native.Nat.{ℕ}
use Rattle.mesh.specs.Mesh.{Ring, position, faces}
use Rattle.mesh.specs.Edges.{mesh_edges, edges_of}
use Rattle.verdicts.specs.Edges.{mesh_edges_of}
use Rattle.marks.specs.Marks.{remarked_faces, Unread}
use Rattle.marks.proofs.Remarked.{position_kept, column_remarked, faces_remarked}

module _ (g : ℕ → ℕ) where
  pub positions_remarked : (fs : List Ring) → map (map position) (remarked_faces g fs) ≡ map (map position) fs
  positions_remarked [] = refl
  positions_remarked (r ∷ fs) = ap₂ (λ (p : List ℕ) (ps : List (List ℕ)). p ∷ ps) (column_remarked g position (position_kept g) r) (positions_remarked fs)

  pub edges_remarked : (fs : List Ring) → edges_of (remarked_faces g fs) ≡ edges_of fs
  edges_remarked fs = ap mesh_edges (positions_remarked fs)

-- so of a mesh
pub edges_unread : Unread mesh_edges_of
edges_unread g m = ap edges_of (faces_remarked g m) ∙ edges_remarked g (faces m)
