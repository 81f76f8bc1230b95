-- Faces whose positions are renumbered one-to-one keep their verdict, their hem edges and house wires, renumbered, and the very list of
-- panels. So does a mesh that is compacted. Assumes nothing.
use mathlib.Core.Path.{◌≡◌, sym, ap, ◌∙◌}
use mathlib.Core.Bool.{true}
use mathlib.Core.List.{List, map}
use Prim.Native.Nat.{ℕ}
use Rattle.lists.specs.Lists.{has, every}
use Rattle.lists.proofs.Others.{has_every}
use Rattle.lists.proofs.Parts.{every_joined}
use Rattle.mesh.specs.Mesh.{Mesh, Ring, position, faces}
use Rattle.mesh.specs.Table.{mesh_number}
use Rattle.edges.specs.Edges.{edges_of, mesh_edges, verdict}
use Rattle.order.specs.Demand.{by_position}
use Rattle.unused.specs.Compaction.{renumber, used_positions, compacted}
use Rattle.renumbered.specs.Renumbered.{positions_of, Renumbers, moved, Kept, NumbersDoNotMatter}
use Rattle.turning.proofs.Edgewise.{edges_changed, edges_pass}
use Rattle.renumbered.proofs.Moved.{between, verdict_moved}
use Rattle.renumbered.proofs.Hems.{hems_are_moved}
use Rattle.renumbered.proofs.Joined.{panels_moved}
use Rattle.renumbered.proofs.Wires.{goes_on, wires_same}
use Rattle.renumbered.proofs.Compacting.{compaction_renumbers}

module _ (g : ℕ → ℕ) (fs gs : List Ring) (r : Renumbers g fs gs) where
  inside : every (every (λ x. has x (positions_of fs))) (map (map position) fs) ≡ true
  inside = sym (every_joined (λ x. has x (positions_of fs)) (map (map position) fs)) ∙ has_every (λ x. has x (positions_of fs)) (positions_of fs) (λ x h. h)

  edges_are : edges_of gs ≡ map (moved g) (edges_of fs)
  edges_are = ap mesh_edges r.positions ∙ edges_changed (λ i. g i) (map (map position) fs)

  ends_inside : every (between (positions_of fs)) (edges_of fs) ≡ true
  ends_inside = edges_pass (λ x. has x (positions_of fs)) (map (map position) fs) inside

  kept : Kept g fs gs
  kept = record {
    edges = edges_are;
    one_verdict = ap verdict edges_are ∙ verdict_moved g (positions_of fs) r.one_to_one (edges_of fs) ends_inside;
    same_hems = rw edges_are (hems_are_moved g (positions_of fs) r.one_to_one (edges_of fs) ends_inside).agree;
    same_onward = λ v e m. rw r.positions (goes_on g (by_position fs) r.one_to_one v e m);
    same_wires = λ v. rw r.positions (wires_same g (by_position fs) r.one_to_one v);
    same_panels = panels_moved g fs gs (positions_of fs) r.one_to_one inside r.positions;
  }

pub numbers_do_not_matter : NumbersDoNotMatter
numbers_do_not_matter = kept

-- ---- compaction

module _ (m : Mesh) (z : mesh_number m ≡ 0) where
  pub compaction_keeps : Kept (renumber (used_positions m)) (faces m) (faces (compacted m))
  compaction_keeps = kept (renumber (used_positions m)) (faces m) (faces (compacted m)) (compaction_renumbers m z)
