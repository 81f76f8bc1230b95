-- The list of hems goes by the positions of corners, by panels without the normals setting and by house wires, and none of these reads a
-- mark. Assumes nothing.
use mathlib.Core.Path.{◌≡◌, sym, ap, ◌∙◌, fun_ext}
use mathlib.Core.Bool.{false}
use mathlib.Core.List.{List, map}
use Prim.Native.Nat.{ℕ}
use lib.ListN.{length}
use lib.IntN.{ℤ}
use Rattle.lists.specs.Lists.{some, has}
use Rattle.mesh.specs.Mesh.{Mesh, Ring, position, faces}
use Rattle.edges.specs.Edges.{Edge, same, ring_edges}
use Rattle.panels.specs.Panels.{panels}
use Rattle.turning.specs.Turning.{house_wires_of}
use Rattle.marks.specs.Marks.{remarked_mesh, Unread}
use Rattle.marks.proofs.Remarked.{length_remarked, faces_remarked}
use Rattle.marks.proofs.Accepted.{number_remarked}
use Rattle.marks.proofs.Edges.{positions_remarked, edges_unread}
use Rattle.marks.proofs.Promises.{no_rule_tests_the_mark}
use Rattle.hemlist.specs.HemList.{first_at, face_of, panel_of, first_edge_lem, hem_length, hem_panel, hem_panels, hem_edges, hem_lengths, unmatched, list_short, hem_list_number}
use Rattle.hemlaws.specs.Unread.{ListUnread}
use Rattle.hemlaws.proofs.Numbered.{first_map}

-- ---- what a hem's panel goes by: rings of positions, panels, wires

abbrev face_by : List (List ℕ) → Edge → ℕ
face_by rs d = first_at (λ l. some (same d) (ring_edges l)) rs

abbrev panels_by : List (List ℕ) → List (List ℕ) → List (List ℕ) → List ℕ
panels_by rs ps ws = map (λ (w : List ℕ). first_at (has (face_by rs (first_edge_lem w))) ps) ws

face_by_lem : (fs : List Ring) (d : Edge) → face_of fs d ≡ face_by (map (map position) fs) d
unfolding face_of
face_by_lem fs d = sym (first_map (λ l. some (same d) (ring_edges l)) (map position) fs)

panels_by_lem : (fs : List Ring) → hem_panels fs ≡ panels_by (map (map position) fs) (panels false fs) (house_wires_of fs)
unfolding hem_panels hem_panel panel_of
panels_by_lem fs =
    ap (λ (f : List ℕ → ℕ). map f (house_wires_of fs))
    (fun_ext (λ (w : List ℕ). ap (λ (x : ℕ). first_at (has x) (panels false fs)) (face_by_lem fs (first_edge_lem w))))

-- ---- none of it reads a mark

module _ (g : ℕ → ℕ) (m : Mesh) where
  abbrev after : List Ring
  after = faces (remarked_mesh g m)

  positions_unread : map (map position) after ≡ map (map position) (faces m)
  positions_unread = ap (map (map position)) (faces_remarked g m) ∙ positions_remarked g (faces m)

  wires_unread : house_wires_of after ≡ house_wires_of (faces m)
  wires_unread = no_rule_tests_the_mark.house_wires_is g m

  panels_unread : hem_panels after ≡ hem_panels (faces m)
  panels_unread =
      panels_by_lem after
      ∙ ap (λ (rs : List (List ℕ)). panels_by rs (panels false after) (house_wires_of after)) positions_unread
      ∙ ap (λ (ps : List (List ℕ)). panels_by (map (map position) (faces m)) ps (house_wires_of after)) (no_rule_tests_the_mark.panels false g m)
      ∙ ap (panels_by (map (map position) (faces m)) (panels false (faces m))) wires_unread
      ∙ sym (panels_by_lem (faces m))

number_unread : (cs : List ℤ) (p e l : ℕ) → Unread (λ m. hem_list_number m cs p e l)
unfolding hem_list_number unmatched list_short remarked_mesh
number_unread cs p e l g m = rw (number_remarked g m, length_remarked g m.corners, edges_unread g m)

pub list_unread : ListUnread
unfolding hem_edges hem_lengths
list_unread = record {
  number = number_unread;
  panels = panels_unread;
  edges = λ g m. ap (map (λ (w : List ℕ). length (ring_edges w))) (wires_unread g m);
  lengths = λ at g m. ap (map (hem_length at)) (wires_unread g m);
}
