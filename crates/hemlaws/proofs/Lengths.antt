-- Lengths of edges are whole roots, and lengths of hems are bounded. Assumes nothing.
use mathlib.Core.Path.{◌≡◌}
use mathlib.Core.Bool.{false}
use mathlib.Core.List.{List, [], ◌∷◌, map}
use Prim.Native.Nat.{ℕ, zero, suc, ◌+◌, ◌*◌, ◌/◌, ◌≤◌, ◌<◌}
use native.Mathlib.Nat.{mul-add}
use native.Mathlib.Omega.{arith}
use lib.ListN.{length, get_or, length-map}
use lib.IntN.{ℤ, pos, nat_abs}
use borrow.Author.Tests.{ltb-false}
use Rattle.lists.specs.Lists.{some, sum}
use Rattle.lists.proofs.Bools.{or_false_left, or_false_right}
use Rattle.lists.proofs.Parts.{sum_at, sum_ones}
use Rattle.mesh.specs.Limits.{point_width, width, corner_limit}
use Rattle.mesh.specs.Mesh.{Ring, faces}
use Rattle.mesh.proofs.Accepted.{accepted}
use Rattle.edges.specs.Edges.{Edge, ring_edges, edges_of, hems}
use Rattle.edges.proofs.OfHems.{mesh_hems_within}
use Rattle.turning.specs.Turning.{house_wires_of}
use Rattle.roots.specs.Distances.{Point, coordinate_limit, squared_distance, apart_by, Reached}
use Rattle.roots.proofs.Distances.{spanned, squares_most}
use Rattle.roots.proofs.Greatest.{root_is, root_of_lem, root_most}
use Rattle.hemlist.specs.HemList.{point_of, edge_length, hem_length, hem_edges, hem_lengths, too_far, beyond_reach}
use Rattle.hemlaws.specs.Promises.{EdgesAreRoots, longest_edge, NotTooLong, LengthsHaveRoom}
use Rattle.hemlaws.proofs.InPanels.{edges_add_up}

pub edges_are_roots : EdgesAreRoots
unfolding edge_length
edges_are_roots at e = record {
  root = root_is (squared_distance (at e.0) (at e.1));
  only = λ r p. root_of_lem (squared_distance (at e.0) (at e.1)) r p;
}

-- ---- bounds

edge_most : (at : ℕ → Point) → ((p : ℕ) → Reached (at p)) → (e : Edge) → edge_length at e ≤ longest_edge
unfolding edge_length
edge_most at r e =
    let m : squared_distance (at e.0) (at e.1) ≤ 12000000000000 =
    squares_most (apart_by (at e.0).0 (at e.1).0) (apart_by (at e.0).1 (at e.1).1) (apart_by (at e.0).2 (at e.1).2)
    (spanned (at e.0) (at e.1) (r e.0) (r e.1)) in
    root_most (squared_distance (at e.0) (at e.1)) longest_edge (omega arith)

-- what is at most b times something, element by element, is so in sum
sum_most : {A : Type 0} (f g : A → ℕ) (b : ℕ) → ((x : A) → f x ≤ b * g x) → (l : List A) → sum (map f l) ≤ b * sum (map g l)
sum_most f g b h [] = omega arith
sum_most f g b h (x ∷ l) =
    let a : f x ≤ b * g x = h x in
    let k : sum (map f l) ≤ b * sum (map g l) = sum_most f g b h l in
    let e : b * (g x + sum (map g l)) ≡ b * g x + b * sum (map g l) = mul-add b (g x) (sum (map g l)) in
    omega arith

pub not_too_long : NotTooLong
not_too_long at r w =
    let k : sum (map (edge_length at) (ring_edges w)) ≤ longest_edge * sum (map (λ (e : Edge). 1) (ring_edges w)) =
    sum_most (edge_length at) (λ (e : Edge). 1) longest_edge (λ e. let m : edge_length at e ≤ longest_edge = edge_most at r e in omega arith) (ring_edges w) in
    rw sum_ones at k

-- ---- of an accepted mesh

entry_near : (cs : List ℤ) (k : ℕ) → some too_far cs ≡ false → nat_abs (get_or cs k (pos 0)) ≤ coordinate_limit
entry_near [] k h = omega arith
entry_near (c ∷ cs) zero h = ltb-false coordinate_limit (nat_abs c) (or_false_left (too_far c) (some too_far cs) h)
entry_near (c ∷ cs) (suc k) h = entry_near cs k (or_false_right (too_far c) (some too_far cs) h)

pub all_reached : (cs : List ℤ) → beyond_reach cs ≡ false → (p : ℕ) → Reached (point_of cs p)
unfolding beyond_reach
all_reached cs h p = record {
  first = entry_near cs (point_width * p) h;
  second = entry_near cs (point_width * p + 1) h;
  third = entry_near cs (point_width * p + 2) h;
}

-- of any faces
lengths_most : (at : ℕ → Point) → ((p : ℕ) → Reached (at p)) → (fs : List Ring) → sum (hem_lengths at fs) ≤ longest_edge * sum (hem_edges fs)
unfolding hem_lengths hem_edges
lengths_most at r fs =
    sum_most (hem_length at) (λ (w : List ℕ). length (ring_edges w)) longest_edge (not_too_long at r) (house_wires_of fs)

lengths_each : (at : ℕ → Point) (fs : List Ring) (k : ℕ) → k < length (house_wires_of fs) → get_or (hem_lengths at fs) k 0 ≤ sum (hem_lengths at fs)
unfolding hem_lengths
lengths_each at fs k l = omega (arith, sum_at (map (hem_length at) (house_wires_of fs)) k (omega (arith, length-map (house_wires_of fs) (hem_length at))))

pub lengths_have_room : LengthsHaveRoom
lengths_have_room m cs z r v =
    let a : sum (hem_lengths (point_of cs) (faces m)) ≤ longest_edge * sum (hem_edges (faces m)) = lengths_most (point_of cs) (all_reached cs r) (faces m) in
    let e : sum (hem_edges (faces m)) ≡ length (hems (edges_of (faces m))) = edges_add_up (faces m) v in
    let h : length (hems (edges_of (faces m))) ≤ length m.corners / width = mesh_hems_within m z in
    let c : sum (hem_edges (faces m)) ≤ corner_limit = omega (arith, (accepted m z).limits.corners) in
    let t : sum (hem_lengths (point_of cs) (faces m)) ≤ longest_edge * corner_limit = omega arith in
    record {
      all = t;
      each = λ k l. let b : _ = lengths_each (point_of cs) (faces m) k l in omega arith;
      fit = omega arith;
    }
