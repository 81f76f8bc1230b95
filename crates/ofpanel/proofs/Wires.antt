-- A house wire is not empty, and its first edge is an edge of the faces. Assumes nothing.
use mathlib.Core.Path.{◌≡◌, sym, subst}
use mathlib.Core.Bool.{Bool, true, false}
use mathlib.Core.List.{List, [], ◌∷◌, map}
use Prim.Native.Nat.{ℕ, zero, suc, ◌≤◌, ◌<◌}
use native.Mathlib.Omega.{arith}
use lib.Dec.{ltb}
use lib.ListN.{length, get_or}
use borrow.Author.Tests.{ltb-true}
use Rattle.lists.specs.Lists.{some}
use Rattle.lists.proofs.Bools.{or_left, and_left, and_right}
use Rattle.lists.proofs.Mapping.{some_find}
use Rattle.mesh.specs.Limits.{entry_limit}
use Rattle.mesh.specs.Mesh.{Ring, position, rings}
use Rattle.mesh.proofs.Edges.{length_ring}
use Rattle.uses.proofs.Sides.{inside, uses_inside}
use Rattle.edges.specs.Edges.{Edge, same, ring_edges, edges_of, verdict}
use Rattle.edges.specs.Runs.{Edged}
use Rattle.edges.proofs.SameEdge.{same_true, same_refl}
use Rattle.edges.proofs.OfHems.{hems_used}
use Rattle.tracing.specs.Following.{without, Walk, longer}
use Rattle.turning.specs.Turning.{trail, trails_in, house_wires, house_wires_of}
use Rattle.turning.specs.Promise.{Fit}
use Rattle.turning.proofs.Rounds.{In}
use Rattle.onepanel.proofs.OnePanel.{wire_hems}
use Rattle.hemlist.specs.HemList.{first_edge_lem}

module _ (on : Edge → Edge) where
  trail_some : (n : ℕ) (f e : Edge) (h : List Edge) → 0 < length (trail on (suc n) f e h).0
  unfolding trail
  trail_some n f e h = go (same f (on e))
    where
      go :
          (b : Bool)
          → let w : Walk = elim b [ true ↦ (e.0 ∷ [], without e h) | false ↦ longer e.0 (trail on n f (on e) (without e h)) ] in 0 < length w.0
      go true = omega arith
      go false = omega arith

  trails_some : (n m : ℕ) (h : List Edge) (k : ℕ) → k < length (trails_in on n (suc m) h) → 0 < length (get_or (trails_in on n (suc m) h) k [])
  unfolding trails_in
  trails_some zero m h k l = absurd (omega arith)
  trails_some (suc n) m [] k l = absurd (omega arith)
  trails_some (suc n) m (e ∷ h) zero l = trail_some m _ _ (e ∷ h)
  trails_some (suc n) m (e ∷ h) (suc k) l = trails_some n m _ k (omega arith)

  as_many : (n : ℕ) (h : List Edge) (k : ℕ) → k < length (trails_in on n n h) → 0 < length (get_or (trails_in on n n h) k [])
  unfolding trails_in
  as_many zero h k l = absurd (omega arith)
  as_many (suc n) h k l = trails_some (suc n) n h k l

pub wire_some : (fs : List (List ℕ)) (k : ℕ) → k < length (house_wires fs) → 0 < length (get_or (house_wires fs) k [])
unfolding house_wires
wire_some fs k l = as_many _ _ _ k l

head_in : (l : List Edge) → 0 < length l → In (get_or l 0 (0, 0)) l
head_in [] h = absurd (omega arith)
head_in (x ∷ l) h = or_left (same x x) (some (same x) l) (same_refl x)

module _ (fs : List Ring) (v : Fit (verdict (edges_of fs))) where
  pub first_in : (k : ℕ) → k < length (house_wires_of fs) → In (first_edge_lem (get_or (house_wires_of fs) k [])) (edges_of fs)
  first_in k l =
      let w : List ℕ = get_or (house_wires_of fs) k [] in
      let n : length (ring_edges w) ≡ length w = length_ring w in
      let p : 0 < length w = wire_some (map (map position) fs) k l in
      hems_used (edges_of fs) (first_edge_lem w) (wire_hems fs v k (first_edge_lem w) (head_in (ring_edges w) (omega arith)))

-- both ends of an edge of an accepted mesh are positions
pub edge_below : (cs s : List ℕ) (n : ℕ) → Edged cs s n → (d : Edge) → In d (edges_of (rings s cs)) → (d.0 < entry_limit) × (d.1 < entry_limit)
edge_below cs s n e d m =
    let f : (x : Edge) × (same d x ≡ true) × (inside n x ≡ true) = some_find (same d) (inside n) (edges_of (rings s cs)) m (uses_inside cs s n e) in
    let i : inside n d ≡ true = subst (λ (x : Edge). inside n x ≡ true) (sym (same_true d f.0 f.1)) f.2 in
    let a : d.0 < n = ltb-true d.0 n (and_left (ltb d.0 n) (ltb d.1 n) i) in
    let b : d.1 < n = ltb-true d.1 n (and_right (ltb d.0 n) (ltb d.1 n) i) in
    let c : n ≤ entry_limit = e.few in
    (omega arith, omega arith)
