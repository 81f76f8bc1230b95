-- Where only the numbers of positions are others the panels are the very same list, and a hem is beside the same panel. Assumes nothing.
use mathlib.Core.Path.{◌≡◌, refl, sym, ap, ap₂, ◌∙◌, subst}
use mathlib.Core.Bool.{Bool, true, cond}
use mathlib.Core.List.{List, [], ◌∷◌, map}
use Prim.Native.Nat.{ℕ, suc}
use lib.ListN.{get_or}
use Rattle.lists.specs.Lists.{has, some, every, count}
use Rattle.lists.proofs.Bools.{and_left, and_right}
use Rattle.lists.proofs.Counting.{clash}
use Rattle.lists.proofs.Parts.{every_append}
use Rattle.mesh.specs.Mesh.{Ring, position}
use Rattle.edges.specs.Edges.{Edge, same, ring_edges, mesh_edges, edges_of, verdict}
use Rattle.turning.specs.Turning.{house_wires_of}
use Rattle.turning.specs.Promise.{Fit}
use Rattle.turning.proofs.Edgewise.{ring_changed, ring_passes}
use Rattle.order.specs.Demand.{by_position}
use Rattle.renumbered.specs.Renumbered.{positions_of, Renumbers, Kept, moved}
use Rattle.renumbered.proofs.Moved.{between, same_moved, some_moved}
use Rattle.renumbered.proofs.Cuts.{full}
use Rattle.renumbered.proofs.Filled.{full_wires, full_rings}
use Rattle.renumbered.proofs.Wires.{inside, wires_between}
use Rattle.renumbered.proofs.Renumbered.{numbers_do_not_matter}
use Rattle.roots.specs.Distances.{Point}
use Rattle.hemlist.specs.HemList.{first_at, face_of, panel_of, hem_panel}
use Rattle.hemlaws.specs.Exports.{hem_triples, KeepsPoints, NumbersKeepHems}
use Rattle.hemlaws.proofs.Exports.{triple_of, triples_are, hems_counted, pair_moved}

pub first_map : {A B : Type 0} (p : B → Bool) (h : A → B) (l : List A) → first_at p (map h l) ≡ first_at (λ x. p (h x)) l
first_map p h [] = refl
first_map p h (x ∷ l) = ap (λ (k : ℕ). cond (p (h x)) 0 (suc k)) (first_map p h l)

module _ (g : ℕ → ℕ) (fs gs : List Ring) (r : Renumbers g fs gs) where
  abbrev ps : List ℕ
  ps = positions_of fs

  kept : Kept g fs gs
  kept = numbers_do_not_matter g fs gs r

  -- the face that uses an edge
  rings_moved :
      (d : Edge) → between ps d ≡ true → (rs : List (List ℕ)) → every (every (λ x. has x ps)) rs ≡ true
      → first_at (λ l. some (same (moved g d)) (ring_edges l)) (map (map (λ i. g i)) rs) ≡ first_at (λ l. some (same d) (ring_edges l)) rs
  rings_moved d b [] h = refl
  rings_moved d b (l ∷ rs) h =
      ap₂ (λ (t : Bool) (k : ℕ). cond t 0 (suc k))
      (ap (some (same (moved g d))) (ring_changed (λ i. g i) l)
      ∙ some_moved g ps r.one_to_one (same d) (same (moved g d)) (λ e c. same_moved g ps r.one_to_one d e b c) (ring_edges l)
      (ring_passes (λ x. has x ps) l (and_left (every (λ x. has x ps) l) (every (every (λ x. has x ps)) rs) h)))
      (rings_moved d b rs (and_right (every (λ x. has x ps) l) (every (every (λ x. has x ps)) rs) h))

  face_moved : (d : Edge) → between ps d ≡ true → face_of gs (moved g d) ≡ face_of fs d
  unfolding face_of
  face_moved d b =
      sym (first_map (λ l. some (same (moved g d)) (ring_edges l)) (map position) gs)
      ∙ ap (first_at (λ l. some (same (moved g d)) (ring_edges l))) r.positions
      ∙ rings_moved d b (map (map position) fs) (inside (map (map position) fs))
      ∙ first_map (λ l. some (same d) (ring_edges l)) (map position) fs

  panel_moved : (d : Edge) → between ps d ≡ true → panel_of gs (face_of gs (moved g d)) ≡ panel_of fs (face_of fs d)
  unfolding panel_of
  panel_moved d b = ap₂ (λ (x : ℕ) (l : List (List ℕ)). first_at (has x) l) (face_moved d b) kept.same_panels

  head_moved :
      (l : List Edge) → full l ≡ true → every (between ps) l ≡ true
      → panel_of gs (face_of gs (get_or (map (moved g) l) 0 (0, 0))) ≡ panel_of fs (face_of fs (get_or l 0 (0, 0)))
  head_moved [] f h = clash f refl
  head_moved (e ∷ l) f h = panel_moved e (and_left (between ps e) (every (between ps) l) h)

  hem_moved : (w : List ℕ) → full (ring_edges w) ≡ true → every (between ps) (ring_edges w) ≡ true → hem_panel gs (map (λ i. g i) w) ≡ hem_panel fs w
  unfolding hem_panel
  hem_moved w f h =
      ap (λ (l : List Edge). panel_of gs (face_of gs (get_or l 0 (0, 0)))) (ring_changed (λ i. g i) w) ∙ head_moved (ring_edges w) f h

  module _ (at at' : ℕ → Point) (keep : KeepsPoints g at at' fs) where
    triples_moved :
        (ws : List (List ℕ)) → every full (map ring_edges ws) ≡ true → every (between ps) (mesh_edges ws) ≡ true
        → map (triple_of at' gs) (map (map (λ i. g i)) ws) ≡ map (triple_of at fs) ws
    triples_moved [] f h = refl
    triples_moved (w ∷ ws) f h =
        let k : _ = sym (every_append (between ps) (ring_edges w) (mesh_edges ws)) ∙ h in
        let b : _ = and_left (every (between ps) (ring_edges w)) (every (between ps) (mesh_edges ws)) k in
        let a : _ = hem_moved w (and_left (full (ring_edges w)) (every full (map ring_edges ws)) f) b in
        let c : _ = pair_moved g fs at at' keep w b in
        let d : _ =
        triples_moved ws (and_right (full (ring_edges w)) (every full (map ring_edges ws)) f)
        (and_right (every (between ps) (ring_edges w)) (every (between ps) (mesh_edges ws)) k) in
        λ i. (a i, c i) ∷ d i

    agree : Fit (verdict (edges_of fs)) → (p : ℕ × (ℕ × ℕ) → Bool) → count p (hem_triples at fs) ≡ count p (hem_triples at' gs)
    agree v p =
        ap (count p)
        (triples_are at fs
        ∙ sym (triples_moved (house_wires_of fs) (full_rings (house_wires_of fs) (full_wires (by_position fs))) (wires_between g (by_position fs) r.one_to_one v)))
        ∙ hems_counted at' gs (subst Fit (sym kept.one_verdict) v) (map (map (λ i. g i)) (house_wires_of fs)) (kept.same_wires v) p
        ∙ sym (ap (count p) (triples_are at' gs))

pub numbers_keep_hems : NumbersKeepHems
numbers_keep_hems g fs gs r v at at' keep = record { agree = agree g fs gs r at at' keep v }
