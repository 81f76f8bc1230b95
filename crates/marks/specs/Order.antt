-- Demand 3 with marks: it speaks of whole corners, and marks don't matter to it. Two accepted meshes with the same faces but for marks, put in
-- another order, each begun at any corner of its ring, have in common what the same faces have. Proved in proofs/. Assumes nothing.
use Rattle.std.specs.Prelude.{◌≡◌, Bool}
use Rattle.mesh.specs.Mesh.{Mesh, faces}
use Rattle.mesh.specs.Table.{mesh_number}
use Rattle.order.specs.Same.{Same, Matching}
use Rattle.order.specs.Demand.{SameEdges, SameTogether}
use Rattle.calls.specs.Calls.{PanelCall}
use Rattle.calls.specs.Order.{EdgeCallsAgree, SamePanels}
use Rattle.marks.specs.Marks.{unmarked}

pub record AgreeButForMarks (m n : Mesh) : Type 0 where
  -- one verdict, the same hem edges and the same wires, as demand 3 has them; and so of the calls
  pub edges : SameEdges (faces m) (faces n)
  pub edge_calls : EdgeCallsAgree m n
  -- the faces are matched by their corners without marks
  pub matching : Matching (faces (unmarked m)) (faces (unmarked n))
  -- and under either normals setting the same faces are together in each panel; and so of the calls
  pub panels : (normals : Bool) → SameTogether matching normals (faces m) (faces n)
  pub panel_calls : (normals : Bool) (r : PanelCall normals m) (q : PanelCall normals n) → SamePanels matching r q

abbrev pub OrderIsFreeButForMarks : Type 0
OrderIsFreeButForMarks =
    (m n : Mesh) → mesh_number m ≡ 0 → mesh_number n ≡ 0 → Same (faces (unmarked m)) (faces (unmarked n)) → AgreeButForMarks m n
