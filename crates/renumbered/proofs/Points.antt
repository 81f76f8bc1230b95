-- Where renumbered positions keep their points, house wires keep theirs. Assumes nothing.
use mathlib.Core.Path.{◌≡◌, refl, sym, ap₂, ◌∙◌, subst}
use mathlib.Core.Bool.{true}
use mathlib.Core.List.{List, [], ◌∷◌, map}
use Prim.Native.Nat.{ℕ}
use Rattle.lists.specs.Lists.{has, every, joined}
use Rattle.lists.proofs.Bools.{and_both, and_left, and_right}
use Rattle.lists.proofs.Mapping.{every_map}
use Rattle.lists.proofs.Parts.{every_append}
use Rattle.mesh.specs.Mesh.{Mesh, faces}
use Rattle.edges.specs.Edges.{Edge, ring_edges, mesh_edges, edges_of, verdict}
use Rattle.turning.specs.Turning.{house_wires, house_wires_of}
use Rattle.turning.specs.Promise.{Fit}
use Rattle.turning.proofs.Next.{ring_firsts}
use Rattle.order.specs.Same.{Same}
use Rattle.order.specs.Demand.{by_position}
use Rattle.order.proofs.Matched.{same_map}
use Rattle.renumbered.specs.Points.{point_at, hem_points, SamePoints}
use Rattle.renumbered.proofs.Moved.{between}
use Rattle.renumbered.proofs.Followed.{Inside}
use Rattle.renumbered.proofs.Wires.{wires_between}

-- ---- the wires pass positions of the faces only

module _ (ps : List ℕ) where
  starts_among : (l : List Edge) → every (between ps) l ≡ true → every (λ e. has e.0 ps) l ≡ true
  starts_among [] h = refl
  starts_among (e ∷ l) h =
      and_both (has e.0 ps) (every (λ d. has d.0 ps) l)
      (and_left (has e.0 ps) (has e.1 ps) (and_left (between ps e) (every (between ps) l) h))
      (starts_among l (and_right (between ps e) (every (between ps) l) h))

  ring_inside : (w : List ℕ) → every (between ps) (ring_edges w) ≡ true → every (λ x. has x ps) w ≡ true
  ring_inside w h =
      subst (λ l. every (λ x. has x ps) l ≡ true) (ring_firsts w)
      (every_map (λ (e : Edge). e.0) (λ x. has x ps) (ring_edges w) ∙ starts_among (ring_edges w) h)

  rings_inside : (ws : List (List ℕ)) → every (between ps) (mesh_edges ws) ≡ true → Inside ps ws
  rings_inside [] h = refl
  rings_inside (w ∷ ws) h =
      let k = sym (every_append (between ps) (ring_edges w) (mesh_edges ws)) ∙ h in
      and_both (every (λ x. has x ps) w) (every (every (λ x. has x ps)) ws)
      (ring_inside w (and_left (every (between ps) (ring_edges w)) (every (between ps) (mesh_edges ws)) k))
      (rings_inside ws (and_right (every (between ps) (ring_edges w)) (every (between ps) (mesh_edges ws)) k))

wires_inside : (fs : List (List ℕ)) → Fit (verdict (mesh_edges fs)) → Inside (joined fs) (house_wires fs)
wires_inside fs v = rings_inside (joined fs) (house_wires fs) (wires_between (λ i. i) fs (λ i j h k. refl) v)

-- ---- their points

module _ {A : Type 0} (ps : List ℕ) (g : ℕ → ℕ) (p q : ℕ → A) (keep : (i : ℕ) → has i ps ≡ true → q (g i) ≡ p i) where
  ring_points : (w : List ℕ) → every (λ x. has x ps) w ≡ true → map q (map (λ i. g i) w) ≡ map p w
  ring_points [] h = refl
  ring_points (i ∷ w) h =
      ap₂ (λ (a : A) (l : List A). a ∷ l) (keep i (and_left (has i ps) (every (λ x. has x ps) w) h))
      (ring_points w (and_right (has i ps) (every (λ x. has x ps) w) h))

  rings_points : (ws : List (List ℕ)) → Inside ps ws → map (map q) (map (map (λ i. g i)) ws) ≡ map (map p) ws
  rings_points [] h = refl
  rings_points (w ∷ ws) h =
      ap₂ (λ (a : List A) (l : List (List A)). a ∷ l)
      (ring_points w (and_left (every (λ x. has x ps) w) (every (every (λ x. has x ps)) ws) h))
      (rings_points ws (and_right (every (λ x. has x ps) w) (every (every (λ x. has x ps)) ws) h))

-- the same wires under new numbers are the same rings of points
pub points_same :
    (g : ℕ → ℕ) (m n : Mesh) → Fit (verdict (edges_of (faces m))) → SamePoints g m n
    → Same (map (map (λ i. g i)) (house_wires_of (faces m))) (house_wires_of (faces n)) → Same (hem_points m) (hem_points n)
points_same g m n v k s =
    let inside = wires_inside (by_position (faces m)) v in
    subst (λ l. Same l (hem_points n))
    (rings_points (joined (by_position (faces m))) g (point_at m) (point_at n) k (house_wires_of (faces m)) inside)
    (same_map (point_at n) s)
