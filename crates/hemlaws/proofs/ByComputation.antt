-- The examples hold. Assumes nothing.
use mathlib.Core.Path.{◌≡◌, refl, sym, ap, ap₂}
use mathlib.Core.Bool.{true}
use mathlib.Core.List.{List, [], ◌∷◌}
use Prim.Native.Nat.{ℕ, zero, suc, ◌+◌}
use native.Mathlib.Omega.{arith}
use lib.ListN.{get_or}
use Rattle.lists.specs.Lists.{has}
use Rattle.mesh.specs.Mesh.{faces}
use Rattle.mesh.specs.Table.{over_limits, uneven, misfit, ungrouped, astray, shape_number, mesh_number}
use Rattle.edges.specs.Edges.{key, verdict, hems}
use Rattle.turning.specs.Turning.{turn_from, onward_in, onward, trail, trails_in, house_wires}
use Rattle.keys.specs.Keys.{key_of}
use Rattle.searching.specs.Search.{search_from, panels_from}
use Rattle.panels.specs.Panels.{panels}
use Rattle.roots.specs.Roots.{root_of}
use Rattle.roots.specs.Distances.{Reached}
use Rattle.roots.proofs.Greatest.{root_of_lem}
use Rattle.hemlist.specs.HemList.{edge_length, face_of, panel_of, hem_panel, hem_panels, hem_edges, hem_lengths}
use Rattle.order.specs.Same.{swap}
use Rattle.order.specs.Pairs.{creased}
use Rattle.hemlaws.specs.Promises.{longest_edge}
use Rattle.hemlaws.specs.Examples.{touching, other_first, across, TwoHems, PartedByNormals, BoundIsMet}

-- ---- accepted

touching_accepted : (mesh_number touching ≡ 0) × (mesh_number other_first ≡ 0)
unfolding mesh_number shape_number over_limits uneven misfit ungrouped astray
touching_accepted = (refl, refl)

creased_accepted : mesh_number creased ≡ 0
unfolding mesh_number shape_number over_limits uneven misfit ungrouped astray
creased_accepted = refl

-- ---- their lists

two_panels : (hem_panels (faces touching) ≡ 0 ∷ 1 ∷ []) × (hem_panels (faces other_first) ≡ 1 ∷ 0 ∷ [])
unfolding faces house_wires trails_in trail onward onward_in turn_from hems key key_of search_from panels_from panels face_of panel_of hem_panel hem_panels
two_panels = (refl, refl)

pub two_hems : TwoHems
unfolding faces house_wires trails_in trail onward onward_in turn_from hems key root_of edge_length hem_edges hem_lengths
two_hems = record {
  both_accepted = touching_accepted;
  same_faces = swap;
  hems = refl;
  edges = refl;
  lengths = refl;
  in_panels = two_panels.0;
  in_panels_then = two_panels.1;
  edges_then = refl;
  lengths_then = refl;
}

creased_panel : hem_panels (faces creased) ≡ 0 ∷ []
unfolding faces house_wires trails_in trail onward onward_in turn_from hems key key_of search_from panels_from panels face_of panel_of hem_panel hem_panels
creased_panel = refl

pub parted_by_normals : PartedByNormals
unfolding faces verdict house_wires trails_in trail onward onward_in turn_from hems key key_of search_from panels_from panels hem_edges
parted_by_normals = record {
  is_accepted = creased_accepted;
  oriented = refl;
  one_hem = refl;
  its_edges = refl;
  its_panel = creased_panel;
  together = refl;
  parted = refl;
  along = refl;
  used_by = refl;
  left_out = ap (λ (l : List ℕ). has 1 (get_or (panels true (faces creased)) (get_or l 0 0) [])) creased_panel;
}

-- ---- the longest edge

in_reach : (p : ℕ) → Reached (across p)
in_reach zero = record { first = omega arith; second = omega arith; third = omega arith }
in_reach (suc p) = record { first = omega arith; second = omega arith; third = omega arith }

root_across : longest_edge ≡ root_of 12000000000000
root_across = root_of_lem 12000000000000 longest_edge (record { at_most = omega arith; greatest = omega arith })

there : edge_length across (0, 1) ≡ longest_edge
unfolding edge_length
there = sym root_across

back : edge_length across (1, 0) ≡ longest_edge
unfolding edge_length
back = sym root_across

pub bound_is_met : BoundIsMet
bound_is_met = record {
  reached = in_reach;
  edge = there;
  hem = ap₂ (λ (a b : ℕ). a + (b + 0)) there back;
}
