-- How long a hem can be: no edge between coordinates within reach is longer than `longest_edge`, and no hem has more edges than all together.
-- Assumes nothing.
use mathlib.Core.Path.{◌≡◌}
use mathlib.Core.Bool.{false}
use mathlib.Core.List.{List, [], ◌∷◌, map}
use Prim.Native.Nat.{ℕ, zero, suc, ◌+◌, ◌*◌, ◌≤◌}
use native.Mathlib.Omega.{arith}
use lib.ListN.{length, get_or, length-append}
use lib.IntN.{ℤ, pos, nat_abs}
use borrow.Author.Tests.{ltb-false}
use Rattle.lists.specs.Lists.{some, sum, joined}
use Rattle.lists.proofs.Bools.{or_false_left, or_false_right}
use Rattle.mesh.specs.Limits.{point_width}
use Rattle.mesh.proofs.Edges.{length_ring}
use Rattle.edges.specs.Edges.{Edge, ring_edges}
use Rattle.roots.specs.Distances.{Point, apart_by, coordinate_limit, squared_limit, squared_distance, Reached}
use Rattle.roots.proofs.Distances.{spanned, squares_most}
use Rattle.roots.proofs.Greatest.{root_most}
use Rattle.hemlist.specs.HemList.{point_of, edge_length, hem_length, too_far, beyond_reach}
use Rattle.measured.specs.Measured.{longest_edge}

-- a coordinate that is in the list or is not: there it is within reach, and else it is 0
near : (cs : List ℤ) → some too_far cs ≡ false → (i : ℕ) → nat_abs (get_or cs i (pos 0)) ≤ coordinate_limit
near [] h i = omega arith
near (a ∷ cs) h zero = ltb-false coordinate_limit (nat_abs a) (or_false_left (too_far a) (some too_far cs) h)
near (a ∷ cs) h (suc i) = near cs (or_false_right (too_far a) (some too_far cs) h) i

reached : (cs : List ℤ) → beyond_reach cs ≡ false → (p : ℕ) → Reached (point_of cs p)
unfolding beyond_reach
reached cs h p = record { first = near cs h (point_width * p); second = near cs h (point_width * p + 1); third = near cs h (point_width * p + 2) }

edge_most : (cs : List ℤ) → beyond_reach cs ≡ false → (e : Edge) → edge_length (point_of cs) e ≤ longest_edge
unfolding edge_length
edge_most cs h e =
    let a : Point = point_of cs e.0 in
    let b : Point = point_of cs e.1 in
    let m : squared_distance a b ≤ squared_limit =
    squares_most (apart_by a.0 b.0) (apart_by a.1 b.1) (apart_by a.2 b.2) (spanned a b (reached cs h e.0) (reached cs h e.1)) in
    root_most (squared_distance a b) longest_edge (omega arith)

-- a sum of numbers none of which is above b
sum_most : {A : Type 0} (f : A → ℕ) (b : ℕ) → ((a : A) → f a ≤ b) → (l : List A) → sum (map f l) ≤ b * length l
sum_most f b h [] = omega arith
sum_most f b h (a ∷ l) = omega (arith, h a, sum_most f b h l)

-- of each wire: its edges are no more than those of all wires, and its length is no more than they allow
pub edges_most : (ws : List (List ℕ)) (k : ℕ) → get_or (map (λ (w : List ℕ). length (ring_edges w)) ws) k 0 ≤ length (joined ws)
edges_most [] k = omega arith
edges_most (w ∷ ws) zero = omega (arith, length_ring w, length-append w (joined ws))
edges_most (w ∷ ws) (suc k) = omega (arith, edges_most ws k, length-append w (joined ws))

hem_most : (cs : List ℤ) → beyond_reach cs ≡ false → (w : List ℕ) → hem_length (point_of cs) w ≤ longest_edge * length w
hem_most cs h w = omega (arith, sum_most (edge_length (point_of cs)) longest_edge (edge_most cs h) (ring_edges w), length_ring w)

pub lengths_most :
    (cs : List ℤ) → beyond_reach cs ≡ false → (ws : List (List ℕ)) (k : ℕ)
    → get_or (map (hem_length (point_of cs)) ws) k 0 ≤ longest_edge * length (joined ws)
lengths_most cs h [] k = omega arith
lengths_most cs h (w ∷ ws) zero = omega (arith, hem_most cs h w, length-append w (joined ws))
lengths_most cs h (w ∷ ws) (suc k) = omega (arith, lengths_most cs h ws k, length-append w (joined ws))
