-- The list of hems of two meshes with the same faces in another order. The wires are the same list; a hem's first edge is used by a face of
-- the one and by its match in the other, and by whichever face the other's list goes by: these stand in one panel. Assumes nothing.
use mathlib.Core.Path.{◌≡◌, sym, ap, ap₂, ◌∙◌, subst}
use mathlib.Core.Bool.{false}
use mathlib.Core.List.{List, [], map}
use Prim.Native.Nat.{ℕ, ◌<◌}
use native.Mathlib.Omega.{arith}
use lib.Dec.{eqb}
use lib.ListN.{length, get_or, length-map, get_or-map}
use Rattle.lists.specs.Lists.{has, some}
use Rattle.lists.proofs.Alike.{some_alike}
use Rattle.mesh.specs.Mesh.{Ring, position, faces}
use Rattle.edges.specs.Edges.{Edge, same, ring_edges, edges_of, verdict}
use Rattle.turning.specs.Turning.{house_wires_of}
use Rattle.turning.specs.Promise.{Fit}
use Rattle.panels.specs.Panels.{panels}
use Rattle.onepanel.specs.Promise.{Owns}
use Rattle.onepanel.proofs.OnePanel.{one_panel}
use Rattle.order.specs.Same.{Turned}
use Rattle.order.specs.Demand.{by_position, SameByPosition}
use Rattle.order.proofs.Turning.{turned_alike}
use Rattle.order.proofs.Demand.{positions_enough}
use Rattle.roots.specs.Distances.{Point}
use Rattle.hemlist.specs.HemList.{first_edge_lem, panel_of, hem_length, hem_panels, hem_edges, hem_lengths}
use Rattle.hemlaws.specs.Promises.{hem_count, hem_at, panel_at}
use Rattle.hemlaws.specs.Order.{SameHems, OrderIsFreeForHems}
use Rattle.hemlaws.proofs.Owners.{panel_has, panel_same, panel_together}
use Rattle.hemlaws.proofs.InPanels.{first_face, first_along, first_owns, first_face_below, entry_is, panel_faces}

-- the same wires have the same edges and lengths
edges_of_lem : (m n : List Ring) → house_wires_of m ≡ house_wires_of n → hem_edges m ≡ hem_edges n
unfolding hem_edges
edges_of_lem m n e = ap (map (λ (w : List ℕ). length (ring_edges w))) e

lengths_of : (at : ℕ → Point) (m n : List Ring) → house_wires_of m ≡ house_wires_of n → hem_lengths at m ≡ hem_lengths at n
unfolding hem_lengths
lengths_of at m n e = ap (map (hem_length at)) e

-- a matched face uses the same edges
owns_matched : (m n : List Ring) (x y : ℕ) (d : Edge) → Turned (get_or (by_position m) x []) (get_or (by_position n) y []) → Owns m x d → Owns n y d
owns_matched m n x y d t o =
    ap (λ (l : List ℕ). some (same d) (ring_edges l)) (sym (get_or-map (map position) n y []))
    ∙ sym (some_alike (same d) (turned_alike t))
    ∙ ap (λ (l : List ℕ). some (same d) (ring_edges l)) (get_or-map (map position) m x [])
    ∙ o

module _ (m n : List Ring) (s : SameByPosition m n) (v : Fit (verdict (edges_of m))) where
  abbrev to : ℕ → ℕ
  to = s.matching.to

  fit : Fit (verdict (edges_of n))
  fit = subst Fit s.edges.one_verdict v

  wires : house_wires_of m ≡ house_wires_of n
  wires = s.edges.same_wires v

  ringed : (x : ℕ) → x < length m → x < length (by_position m)
  ringed x l = omega (arith, length-map m (map position))

  below : (x : ℕ) → x < length m → to x < length n
  below x l = omega (arith, length-map n (map position), s.matching.to_face x (ringed x l))

  module _ (k : ℕ) (l : k < hem_count m) where
    other : k < hem_count n
    other = subst (λ (ws : List (List ℕ)). k < length ws) wires l

    abbrev mine : ℕ
    mine = first_face m v k

    abbrev theirs : ℕ
    theirs = first_face n fit k

    edge_same : first_edge_lem (hem_at m k) ≡ first_edge_lem (hem_at n k)
    edge_same = ap (λ (ws : List (List ℕ)). first_edge_lem (get_or ws k [])) wires

    matched_owns : Owns n (to mine) (first_edge_lem (hem_at n k))
    matched_owns =
        subst (Owns n (to mine)) edge_same
        (owns_matched m n mine (to mine) (first_edge_lem (hem_at m k)) (s.matching.turned mine (ringed mine (first_face_below m v k l))) (first_owns m v k l))

    -- the match of the face that the one list goes by stands with the face that the other goes by
    one_place : panel_of n (to mine) ≡ panel_of n theirs
    one_place =
        panel_together n (to mine) theirs
        (one_panel n fit k (first_edge_lem (hem_at n k)) (first_edge_lem (hem_at n k)) (first_along n fit k other) (first_along n fit k other)
        (to mine) theirs matched_owns (first_owns n fit k other))

    matched_entry : get_or (hem_panels n) k 0 ≡ panel_of n (to mine)
    matched_entry = entry_is n fit k other ∙ sym one_place

    faces_same : (x : ℕ) → x < length m → has x (panel_at m k) ≡ has (to x) (panel_at n k)
    faces_same x h =
        panel_faces m v k l x
        ∙ s.same_panels.matched mine x (ringed mine (first_face_below m v k l)) (ringed x h)
        ∙ sym (panel_has n (to mine) (below mine (first_face_below m v k l)) (to x))
        ∙ ap (λ (i : ℕ). has (to x) (get_or (panels false n) i [])) (sym matched_entry)

  partings :
      (j k : ℕ) → j < hem_count m → k < hem_count m
      → eqb (get_or (hem_panels m) j 0) (get_or (hem_panels m) k 0) ≡ eqb (get_or (hem_panels n) j 0) (get_or (hem_panels n) k 0)
  partings j k l h =
      let x : ℕ = first_face m v j in
      let y : ℕ = first_face m v k in
      let lx : x < length m = first_face_below m v j l in
      let ly : y < length m = first_face_below m v k h in
      ap₂ (λ (a b : ℕ). eqb a b) (entry_is m v j l) (entry_is m v k h)
      ∙ panel_same m x lx y ly
      ∙ s.same_panels.matched x y (ringed x lx) (ringed y ly)
      ∙ sym (panel_same n (to x) (below x lx) (to y) (below y ly))
      ∙ ap₂ (λ (a b : ℕ). eqb a b) (sym (matched_entry j l)) (sym (matched_entry k h))

  pub hems_same : (at : ℕ → Point) → SameHems at m n
  hems_same at = record {
    same_hems = wires;
    as_many = ap length wires;
    same_edges = edges_of_lem m n wires;
    same_lengths = lengths_of at m n wires;
    matching = s.matching;
    same_faces = λ k x l h. faces_same k l x h;
    same_partings = partings;
  }

pub order_is_free_for_hems : OrderIsFreeForHems
order_is_free_for_hems at m n a b s v = hems_same (faces m) (faces n) (positions_enough m n a b s) v at
