-- Two exports of one cover, hem by hem: the first edge of a hem, renumbered, is an edge of its match, and the face that uses it in the one is
-- matched to a face that uses it in the other; all faces along the match stand in one panel. Assumes nothing.
use mathlib.Core.Path.{◌≡◌, refl, sym, ap, ◌∙◌, subst}
use mathlib.Core.Logic.{⊎_elim}
use mathlib.Core.Bool.{Bool, true, false}
use mathlib.Core.List.{List, [], ◌∷◌, map}
use Prim.Native.Nat.{ℕ, zero, suc, ◌<◌}
use native.Mathlib.Omega.{arith}
use lib.ListN.{length, get_or, length-map, get_or-map}
use Rattle.lists.specs.Lists.{has, some, every}
use Rattle.lists.proofs.Bools.{and_left, and_right, or_left, or_right}
use Rattle.lists.proofs.Counting.{clash, or_either}
use Rattle.lists.proofs.Alike.{some_alike}
use Rattle.lists.proofs.Parts.{every_append}
use Rattle.mesh.specs.Mesh.{Ring, position, faces}
use Rattle.edges.specs.Edges.{Edge, same, ring_edges, mesh_edges, edges_of, verdict}
use Rattle.edges.proofs.SameEdge.{same_true, same_of}
use Rattle.turning.specs.Turning.{house_wires_of}
use Rattle.turning.specs.Promise.{Fit}
use Rattle.turning.proofs.Edgewise.{ring_changed}
use Rattle.turning.proofs.Rounds.{In}
use Rattle.panels.specs.Panels.{panels}
use Rattle.onepanel.specs.Promise.{Owns}
use Rattle.onepanel.proofs.OnePanel.{one_panel}
use Rattle.order.specs.Same.{Turned, Matching}
use Rattle.order.specs.Demand.{by_position}
use Rattle.order.proofs.Turning.{turned_alike}
use Rattle.order.proofs.Matched.{same_matched}
use Rattle.renumbered.specs.Renumbered.{positions_of, OneToOne, moved}
use Rattle.renumbered.proofs.Moved.{between}
use Rattle.renumbered.proofs.Wires.{wires_between}
use Rattle.exports.specs.Covers.{renumbered_by, CoverKept}
use Rattle.exports.proofs.Covers.{covers_agree}
use Rattle.roots.specs.Distances.{Point}
use Rattle.hemlist.specs.HemList.{edge_length, first_edge_lem, panel_of, hem_length, hem_edges, hem_lengths}
use Rattle.hemlaws.specs.Promises.{hem_count, hem_at, panel_at}
use Rattle.hemlaws.specs.Exports.{KeepsPoints, HemsOfExportsMatch}
use Rattle.hemlaws.proofs.Begun.{turned_ring, length_turned, sum_turned}
use Rattle.hemlaws.proofs.Owners.{panel_has, panel_together}
use Rattle.hemlaws.proofs.InPanels.{entry_at, first_face, first_along, first_owns, first_face_below, entry_is, panel_faces}
use Rattle.hemlaws.proofs.Exports.{pair_of, pair_moved}

-- ---- an edge of a ring, renumbered, is an edge of the renumbered ring, wherever that begins

module _ (g : ℕ → ℕ) where
  in_moved : (d : Edge) (l : List Edge) → In d l → In (moved g d) (map (moved g) l)
  in_moved d [] m = clash m refl
  in_moved d (e ∷ l) m =
      ⊎_elim
      (λ p. or_left (same (moved g d) (moved g e)) (some (same (moved g d)) (map (moved g) l)) (same_of (moved g d) (moved g e) (ap (moved g) (same_true d e p))))
      (λ p. or_right (same (moved g d) (moved g e)) (some (same (moved g d)) (map (moved g) l)) (in_moved d l p))
      (or_either (same d e) (some (same d) l) m)

  ring_in : (d : Edge) (w u : List ℕ) → Turned (map g w) u → In d (ring_edges w) → In (moved g d) (ring_edges u)
  ring_in d w u t m =
      sym (some_alike (same (moved g d)) (turned_alike t))
      ∙ ap (some (same (moved g d))) (ring_changed g w)
      ∙ in_moved d (ring_edges w) m

  -- a matched face uses the edge under its new numbers
  owns_moved :
      (m n : List Ring) (x y : ℕ) (d : Edge) → Turned (get_or (renumbered_by g m) x []) (get_or (by_position n) y []) → Owns m x d → Owns n y (moved g d)
  owns_moved m n x y d t o =
      let e : get_or (renumbered_by g m) x [] ≡ map g (map position (get_or m x [])) =
      get_or-map (map g) (by_position m) x [] ∙ ap (map g) (get_or-map (map position) m x []) in
      ring_in d (map position (get_or m x [])) (map position (get_or n y [])) (rw (e, get_or-map (map position) n y []) at t) o

-- of all rings, and of one
every_ring : (p : Edge → Bool) (ws : List (List ℕ)) (k : ℕ) → every p (mesh_edges ws) ≡ true → every p (ring_edges (get_or ws k [])) ≡ true
every_ring p [] k h = refl
every_ring p (w ∷ ws) zero h =
    and_left (every p (ring_edges w)) (every p (mesh_edges ws)) (sym (every_append p (ring_edges w) (mesh_edges ws)) ∙ h)
every_ring p (w ∷ ws) (suc k) h =
    every_ring p ws k (and_right (every p (ring_edges w)) (every p (mesh_edges ws)) (sym (every_append p (ring_edges w) (mesh_edges ws)) ∙ h))

edges_entry : (fs : List Ring) (k : ℕ) → k < hem_count fs → get_or (hem_edges fs) k 0 ≡ length (ring_edges (hem_at fs k))
unfolding hem_edges
edges_entry fs k l = entry_at (λ (w : List ℕ). length (ring_edges w)) (house_wires_of fs) k l

lengths_entry : (at : ℕ → Point) (fs : List Ring) (k : ℕ) → k < hem_count fs → get_or (hem_lengths at fs) k 0 ≡ hem_length at (hem_at fs k)
unfolding hem_lengths
lengths_entry at fs k l = entry_at (hem_length at) (house_wires_of fs) k l

module _ (g : ℕ → ℕ) (m n : List Ring) (c : CoverKept g m n) (v : Fit (verdict (edges_of m))) where
  fit : Fit (verdict (edges_of n))
  fit = subst Fit c.one_verdict v

  hem_matching : Matching (map (map g) (house_wires_of m)) (house_wires_of n)
  hem_matching = same_matched (c.same_wires v)

  abbrev to : ℕ → ℕ
  to = c.matching.to

  ringed : (x : ℕ) → x < length m → x < length (renumbered_by g m)
  ringed x l = omega (arith, length-map (by_position m) (map g), length-map m (map position))

  module _ (k : ℕ) (l : k < hem_count m) where
    abbrev k' : ℕ
    k' = hem_matching.to k

    numbered : k < length (map (map g) (house_wires_of m))
    numbered = omega (arith, length-map (house_wires_of m) (map g))

    there : k' < hem_count n
    there = hem_matching.to_face k numbered

    hem_turned : Turned (map g (hem_at m k)) (hem_at n k')
    hem_turned =
        subst (λ (w : List ℕ). Turned w (hem_at n k')) (get_or-map (map g) (house_wires_of m) k []) (hem_matching.turned k numbered)

    -- ---- the panel

    abbrev mine : ℕ
    mine = first_face m v k

    matched_owns : Owns n (to mine) (moved g (first_edge_lem (hem_at m k)))
    matched_owns =
        owns_moved g m n mine (to mine) (first_edge_lem (hem_at m k)) (c.matching.turned mine (ringed mine (first_face_below m v k l))) (first_owns m v k l)

    one_place : panel_of n (to mine) ≡ panel_of n (first_face n fit k')
    one_place =
        panel_together n (to mine) (first_face n fit k')
        (one_panel n fit k' (moved g (first_edge_lem (hem_at m k))) (first_edge_lem (hem_at n k'))
        (ring_in g (first_edge_lem (hem_at m k)) (hem_at m k) (hem_at n k') hem_turned (first_along m v k l)) (first_along n fit k' there)
        (to mine) (first_face n fit k') matched_owns (first_owns n fit k' there))

    below : to mine < length n
    below =
        omega (arith, length-map n (map position), c.matching.to_face mine (ringed mine (first_face_below m v k l)))

    faces_same : (x : ℕ) → x < length m → has x (panel_at m k) ≡ has (to x) (panel_at n k')
    faces_same x h =
        panel_faces m v k l x
        ∙ c.same_panels.matched mine x (ringed mine (first_face_below m v k l)) (ringed x h)
        ∙ sym (panel_has n (to mine) below (to x))
        ∙ ap (λ (i : ℕ). has (to x) (get_or (panels false n) i [])) (one_place ∙ sym (entry_is n fit k' there))

    -- ---- edges and length

    module _ (one : OneToOne g (positions_of m)) (at at' : ℕ → Point) (keep : KeepsPoints g at at' m) where
      pair : pair_of at' (map g (hem_at m k)) ≡ pair_of at (hem_at m k)
      pair =
          pair_moved g m at at' keep (hem_at m k)
          (every_ring (between (positions_of m)) (house_wires_of m) k (wires_between g (by_position m) one v))

      edges_same : get_or (hem_edges n) k' 0 ≡ get_or (hem_edges m) k 0
      edges_same =
          edges_entry n k' there ∙ length_turned (turned_ring hem_turned) ∙ ap (λ (p : ℕ × ℕ). p.0) pair ∙ sym (edges_entry m k l)

      lengths_same : get_or (hem_lengths at' n) k' 0 ≡ get_or (hem_lengths at m) k 0
      lengths_same =
          lengths_entry at' n k' there
          ∙ sum_turned (edge_length at') (turned_ring hem_turned)
          ∙ ap (λ (p : ℕ × ℕ). p.1) pair
          ∙ sym (lengths_entry at m k l)

pub hems_of_exports_match : HemsOfExportsMatch
hems_of_exports_match g m n y z o v at at' keep =
    let c : CoverKept g (faces m) (faces n) = covers_agree g m n y z o in
    record {
      hem_matching = hem_matching g (faces m) (faces n) c v;
      matching = c.matching;
      same_edges = λ k l. edges_same g (faces m) (faces n) c v k l o.one_to_one at at' keep;
      same_lengths = λ k l. lengths_same g (faces m) (faces n) c v k l o.one_to_one at at' keep;
      same_faces = λ k x l h. faces_same g (faces m) (faces n) c v k l x h;
    }
