-- Demand 3, where the marks differ too. What goes by edges goes by positions, which have no marks; panels are those of the meshes without marks.
-- Assumes nothing.
use mathlib.Core.Path.{◌≡◌, sym, ap, ◌∙◌}
use mathlib.Core.Bool.{Bool}
use mathlib.Core.List.{map}
use Prim.Native.Nat.{ℕ}
use lib.ListN.{length, length-map}
use Rattle.lists.specs.Lists.{together}
use Rattle.mesh.specs.Mesh.{Mesh, position, faces}
use Rattle.panels.specs.Panels.{panels}
use Rattle.order.specs.Same.{Same}
use Rattle.order.specs.Demand.{by_position, SameTogether, Demand3}
use Rattle.order.proofs.Matched.{same_map}
use Rattle.order.proofs.Demand.{demand3, positions_enough}
use Rattle.calls.proofs.Counts.{same_length}
use Rattle.calls.proofs.Order.{positions_enough_for_the_calls}
use Rattle.calls.proofs.Panelling.{panels_agree}
use Rattle.marks.specs.Marks.{remarked, unmarked}
use Rattle.marks.specs.Order.{OrderIsFreeButForMarks}
use Rattle.marks.proofs.Remarked.{faces_remarked}
use Rattle.marks.proofs.Accepted.{number_remarked}
use Rattle.marks.proofs.Edges.{positions_remarked}
use Rattle.marks.proofs.Panels.{panels_remarked}

abbrev bare : ℕ → ℕ
bare k = 0

positions_bare : (m : Mesh) → by_position (faces (unmarked m)) ≡ by_position (faces m)
positions_bare m = ap by_position (faces_remarked bare m) ∙ positions_remarked bare (faces m)

count_bare : (m : Mesh) → length (faces (unmarked m)) ≡ length (faces m)
count_bare m = ap length (faces_remarked bare m) ∙ length-map (faces m) (map (remarked bare))

panels_bare : (normals : Bool) (m : Mesh) → panels normals (faces (unmarked m)) ≡ panels normals (faces m)
panels_bare normals m = ap (panels normals) (faces_remarked bare m) ∙ panels_remarked bare normals (faces m)

pub order_is_free_but_for_marks : OrderIsFreeButForMarks
order_is_free_but_for_marks m n a b s =
    let d : Demand3 (faces (unmarked m)) (faces (unmarked n)) = demand3 (unmarked m) (unmarked n) (number_remarked bare m ∙ a) (number_remarked bare n ∙ b) s in
    let t : Same (by_position (faces m)) (by_position (faces n)) = rw (← positions_bare m, ← positions_bare n) (same_map position s) in
    let p : (normals : Bool) → SameTogether d.matching normals (faces m) (faces n) = λ k. record {
      matched = λ x y g h.
          ap (together x y) (sym (panels_bare k m))
          ∙ (d.same_panels k).matched x y g h
          ∙ ap (together (d.matching.to x) (d.matching.to y)) (panels_bare k n);
      whichever = λ x y u v g h i j.
          ap (together x y) (sym (panels_bare k m)) ∙ (d.same_panels k).whichever x y u v g h i j ∙ ap (together u v) (panels_bare k n);
    } in
    record {
      edges = (positions_enough m n a b t).edges;
      edge_calls = (positions_enough_for_the_calls m n a b t).edges;
      matching = d.matching;
      panels = p;
      panel_calls = λ k r q. panels_agree d.matching m n a b (count_bare m) (count_bare n) (same_length s) k (p k) r q;
    }
