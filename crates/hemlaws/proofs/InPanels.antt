-- All edges of a hem lie in its panel, and so what the list says of a hem does not depend on where it begins. Assumes nothing.
use mathlib.Core.Path.{◌≡◌, refl, sym, ap, ap₂, ◌∙◌}
use mathlib.Core.Bool.{Bool, true, false}
use mathlib.Core.List.{List, [], ◌∷◌, map}
use Prim.Native.Nat.{ℕ, zero, suc, ◌+◌, ◌<◌}
use native.Mathlib.Omega.{arith}
use lib.ListN.{length, get_or, length-map}
use Rattle.lists.specs.Lists.{has, some, count, sum, together}
use Rattle.lists.proofs.Bools.{or_left, or_right}
use Rattle.lists.proofs.Counting.{clash, count_some, some_counted}
use Rattle.lists.proofs.Parts.{some_append, every_at, length_joined}
use Rattle.mesh.specs.Mesh.{Ring, position}
use Rattle.edges.specs.Edges.{Edge, same, run_edges, ring_edges, mesh_edges, edges_of, verdict, hems}
use Rattle.edges.proofs.SameEdge.{same_refl}
use Rattle.edges.proofs.HemUses.{not_irregular, not_regular}
use Rattle.mesh.proofs.Edges.{length_ring}
use Rattle.turning.specs.Turning.{house_wires_of}
use Rattle.turning.specs.Promise.{Fit}
use Rattle.turning.proofs.Rounds.{In}
use Rattle.turning.proofs.Crossing.{hem_edge}
use Rattle.turning.proofs.Promised.{fit_irregular, fit_regular, hems_turn}
use Rattle.panels.specs.Panels.{panels}
use Rattle.onepanel.specs.Promise.{Along, Owns}
use Rattle.onepanel.proofs.OnePanel.{one_panel}
use Rattle.renumbered.proofs.Cuts.{full}
use Rattle.renumbered.proofs.Filled.{full_wires}
use Rattle.order.specs.Same.{Turned}
use Rattle.roots.specs.Distances.{Point}
use Rattle.hemlist.specs.HemList.{face_of, panel_of, first_edge_lem, edge_length, hem_length, hem_panel, hem_panels, hem_edges, hem_lengths}
use Rattle.hemlaws.specs.Promises.{hem_count, hem_at, panel_at, OneEntryEach, EntriesOf, SameEntries, HemsOf, HemsHold}
use Rattle.hemlaws.proofs.Begun.{turned_ring, count_turned, sum_turned, length_turned}
use Rattle.hemlaws.proofs.Owners.{owner, owner_below, panel_below, panel_has, panel_together}

-- ---- a ring whose edges all lie in one panel

pub record Steady (fs : List Ring) (w : List ℕ) : Type 0 where
  pub one : (d e : Edge) → In d (ring_edges w) → In e (ring_edges w) → panel_of fs (face_of fs d) ≡ panel_of fs (face_of fs e)

-- what is the same for all edges of a ring is the same for its first edge, wherever it begins
first_turned :
    (f : Edge → ℕ) (l m : List Edge) → Turned l m → ((d e : Edge) → In d l → In e l → f d ≡ f e) → f (get_or m 0 (0, 0)) ≡ f (get_or l 0 (0, 0))
first_turned f [] [] t h = refl
first_turned f [] (y ∷ m) t h = absurd (let e : suc (count (λ x. true) m) ≡ 0 = count_turned (λ x. true) t in omega arith)
first_turned f (x ∷ l) [] t h = absurd (let e : 0 ≡ suc (count (λ y. true) l) = count_turned (λ y. true) t in omega arith)
first_turned f (x ∷ l) (y ∷ m) t h =
    let a : 0 < count (same y) (y ∷ m) = count_some (same y) (y ∷ m) (or_left (same y y) (some (same y) m) (same_refl y)) in
    let e : count (same y) (y ∷ m) ≡ count (same y) (x ∷ l) = count_turned (same y) t in
    h y x (some_counted (same y) (x ∷ l) (omega arith)) (or_left (same x x) (some (same x) l) (same_refl x))

module _ (fs : List Ring) {v w : List ℕ} (t : Turned v w) (s : Steady fs v) where
  pub steady_turned : Steady fs w
  steady_turned = record { one = λ d e m n. s.one d e (back d m) (back e n) }
    where
      back : (d : Edge) → In d (ring_edges w) → In d (ring_edges v)
      back d m =
          let a : 0 < count (same d) (ring_edges w) = count_some (same d) (ring_edges w) m in
          let e : count (same d) (ring_edges w) ≡ count (same d) (ring_edges v) = count_turned (same d) (turned_ring t) in
          some_counted (same d) (ring_edges v) (omega arith)

  pub entries_turned : (at : ℕ → Point) → SameEntries at fs v w
  unfolding hem_panel
  entries_turned at = record {
    panel = first_turned (λ d. panel_of fs (face_of fs d)) (ring_edges v) (ring_edges w) (turned_ring t) s.one;
    edges = length_turned (turned_ring t);
    long = sum_turned (edge_length at) (turned_ring t);
  }

-- ---- the hems

some_face : (p : Edge → Bool) (ws : List (List ℕ)) (k : ℕ) → some p (ring_edges (get_or ws k [])) ≡ true → some p (mesh_edges ws) ≡ true
some_face p [] k m = clash m refl
some_face p (w ∷ ws) zero m = some_append p (ring_edges w) (mesh_edges ws) ∙ or_left (some p (ring_edges w)) (some p (mesh_edges ws)) m
some_face p (w ∷ ws) (suc k) m =
    some_append p (ring_edges w) (mesh_edges ws) ∙ or_right (some p (ring_edges w)) (some p (mesh_edges ws)) (some_face p ws k m)

-- a ring with a position has a first edge
first_in : (w : List ℕ) → full w ≡ true → In (first_edge_lem w) (ring_edges w)
first_in [] f = clash f refl
first_in (a ∷ []) f = or_left (same (a, a) (a, a)) false (same_refl (a, a))
first_in (a ∷ b ∷ w) f = or_left (same (a, b) (a, b)) (some (same (a, b)) (run_edges b w a)) (same_refl (a, b))

head_in : (l : List Edge) (e : Edge) → In e l → In (get_or l 0 (0, 0)) l
head_in [] e m = m
head_in (x ∷ l) e m = or_left (same x x) (some (same x) l) (same_refl x)

-- the entries of a list of rings
pub entry_at : (f : List ℕ → ℕ) (ws : List (List ℕ)) (k : ℕ) → k < length ws → get_or (map f ws) k 0 ≡ f (get_or ws k [])
entry_at f [] k l = absurd (omega arith)
entry_at f (w ∷ ws) zero l = refl
entry_at f (w ∷ ws) (suc k) l = entry_at f ws k (omega arith)

along_below : (p : Edge → Bool) (ws : List (List ℕ)) (k : ℕ) → some p (ring_edges (get_or ws k [])) ≡ true → k < length ws
along_below p [] k m = clash m refl
along_below p (w ∷ ws) zero m = omega arith
along_below p (w ∷ ws) (suc k) m = let h : k < length ws = along_below p ws k m in omega arith

pub panel_entry : (fs : List Ring) (k : ℕ) → k < hem_count fs → get_or (hem_panels fs) k 0 ≡ hem_panel fs (hem_at fs k)
unfolding hem_panels
panel_entry fs k l = entry_at (hem_panel fs) (house_wires_of fs) k l

-- one entry for each hem
pub entries : (at : ℕ → Point) (fs : List Ring) → OneEntryEach at fs
unfolding hem_panels hem_edges hem_lengths
entries at fs = record {
  panels = length-map (house_wires_of fs) (hem_panel fs);
  edges = length-map (house_wires_of fs) (λ (w : List ℕ). length (ring_edges w));
  lengths = length-map (house_wires_of fs) (hem_length at);
}

entries_at : (at : ℕ → Point) (fs : List Ring) (k : ℕ) → k < hem_count fs → EntriesOf at fs k
unfolding hem_panels hem_edges hem_lengths
entries_at at fs k l = record {
  panel = entry_at (hem_panel fs) (house_wires_of fs) k l;
  edges = entry_at (λ (w : List ℕ). length (ring_edges w)) (house_wires_of fs) k l;
  long = entry_at (hem_length at) (house_wires_of fs) k l;
}

module _ (fs : List Ring) (v : Fit (verdict (edges_of fs))) where
  hem_used : (k : ℕ) (d : Edge) → Along fs k d → In d (edges_of fs)
  hem_used k d m =
      let i : _ = fit_irregular (verdict (edges_of fs)) v in
      let r : _ = fit_regular (verdict (edges_of fs)) v in
      let a : 0 < count (same d) (mesh_edges (house_wires_of fs)) =
      count_some (same d) (mesh_edges (house_wires_of fs)) (some_face (same d) (house_wires_of fs) k m) in
      let e : count (same d) (mesh_edges (house_wires_of fs)) ≡ count (same d) (hems (edges_of fs)) =
      (hems_turn (map (map position) fs) v).every_hem_once (same d) in
      hem_edge (edges_of fs) (not_irregular (edges_of fs) i) (not_regular (edges_of fs) i r) d (some_counted (same d) (hems (edges_of fs)) (omega arith))

  -- any face that uses an edge of the hem is in one panel with the face that the list goes by
  pub hem_together : (k : ℕ) (d e : Edge) → Along fs k d → Along fs k e → (x : ℕ) → Owns fs x e → together (face_of fs d) x (panels false fs) ≡ true
  hem_together k d e m n x o = one_panel fs v k d e m n (face_of fs d) x (owner fs d (hem_used k d m)) o

  pub hem_steady : (k : ℕ) → Steady fs (hem_at fs k)
  hem_steady k = record {
    one = λ d e m n. panel_together fs (face_of fs d) (face_of fs e) (hem_together k d e m n (face_of fs e) (owner fs e (hem_used k e n)));
  }

  -- the face of a hem's first edge, which the list goes by
  abbrev pub first_face : ℕ → ℕ
  first_face k = face_of fs (first_edge_lem (hem_at fs k))

  module _ (k : ℕ) (l : k < hem_count fs) where
    pub first_along : Along fs k (first_edge_lem (hem_at fs k))
    first_along = first_in (hem_at fs k) (every_at full [] (house_wires_of fs) k (full_wires (map (map position) fs)) l)

    pub first_owns : Owns fs (first_face k) (first_edge_lem (hem_at fs k))
    first_owns = owner fs (first_edge_lem (hem_at fs k)) (hem_used k (first_edge_lem (hem_at fs k)) first_along)

    pub first_face_below : first_face k < length fs
    first_face_below = owner_below fs (first_edge_lem (hem_at fs k)) (hem_used k (first_edge_lem (hem_at fs k)) first_along)

    pub entry_is : get_or (hem_panels fs) k 0 ≡ panel_of fs (first_face k)
    unfolding hem_panel
    entry_is = panel_entry fs k l

    pub panel_faces : (x : ℕ) → has x (panel_at fs k) ≡ together (first_face k) x (panels false fs)
    panel_faces x =
        ap (λ (i : ℕ). has x (get_or (panels false fs) i [])) entry_is ∙ panel_has fs (first_face k) first_face_below x

  in_panel : (k : ℕ) (e : Edge) → Along fs k e → (x : ℕ) → Owns fs x e → has x (panel_at fs k) ≡ true
  in_panel k e m x o =
      let l : k < hem_count fs = along_below (same e) (house_wires_of fs) k m in
      panel_faces k l x ∙ hem_together k (first_edge_lem (hem_at fs k)) e (first_along k l) m x o

  -- ---- the counts

  counts : (us : List (List ℕ)) → sum (map (λ (w : List ℕ). length (ring_edges w)) us) ≡ sum (map length us)
  counts [] = refl
  counts (u ∷ us) = ap₂ (λ (a b : ℕ). a + b) (length_ring u) (counts us)

  pub edges_add_up : sum (hem_edges fs) ≡ length (hems (edges_of fs))
  unfolding hem_edges
  edges_add_up = counts (house_wires_of fs) ∙ sym (length_joined (house_wires_of fs)) ∙ (hems_turn (map (map position) fs) v).edges_add_up

  hems_of : (at : ℕ → Point) → HemsOf at fs
  hems_of at = record {
    one_entry_each = entries at fs;
    in_order = λ k l. entries_at at fs k l;
    edges_add_up = edges_add_up;
    a_panel = λ k l. rw (entry_is k l) (panel_below fs (first_face k) (first_face_below k l));
    of_a_face = λ k e m. owner fs e (hem_used k e m);
    in_panel = in_panel;
    begun_anywhere = λ k w t. entries_turned fs t (hem_steady k) at;
  }

pub hems_hold : HemsHold
hems_hold at fs v = hems_of fs v at
