-- A hem walked edge by edge, from each position to the one behind it in the ring, and the lengths added up: `Walking` is the loop's
-- invariant, with what begins, turns and ends it. Assumes nothing.
use mathlib.Core.Path.{◌≡◌, ap, ◌∙◌}
use mathlib.Core.List.{List, map}
use Prim.Native.Nat.{ℕ, ◌+◌, ◌*◌, ◌≤◌, ◌<◌, ◌^◌}
use native.Mathlib.Omega.{arith}
use lib.ListN.{length, get_or, take, length-map}
use lib.Seq.{take_all}
use lib.IntN.{ℤ}
use Rattle.lists.specs.Lists.{sum}
use Rattle.lists.specs.Numbers.{next_of}
use Rattle.lists.proofs.Parts.{sum_step}
use Rattle.lists.proofs.Changing.{map_at}
use Rattle.mesh.specs.Edges.{ring_edges}
use Rattle.mesh.proofs.Edges.{length_ring}
use Rattle.columns.proofs.Using.{ring_at}
use Rattle.hemlist.specs.HemList.{point_of, edge_length, hem_length}
use Rattle.hemlist.specs.Working.{Placed}
use Rattle.measured.specs.Measured.{Walkable, longest_edge}
use Rattle.measured.proofs.Reading.{edge_few}

-- the lengths of a hem's edges
abbrev pub lengths_of : List ℤ → List ℕ → List ℕ
lengths_of cs wire = map (edge_length (point_of cs)) (ring_edges wire)

-- the first i of them are added up
pub record Walking (wire : List ℕ) (cs : List ℤ) (long i : ℕ) : Type 0 where
  pub within : i ≤ length wire
  pub added : long ≡ sum (take i (lengths_of cs wire))
  pub few : long ≤ longest_edge * i

module _ (wire : List ℕ) (cs : List ℤ) where
  -- both ends of edge i have their points
  pub ends_placed :
      (i next p q : ℕ) → i < length wire → next < length wire → p ≡ get_or wire i 0 → q ≡ get_or wire next 0 → Walkable wire cs → Placed cs p × Placed cs q
  ends_placed i next p q h k d e w = (rw d (w.placed i h), rw e (w.placed next k))

  lengths_long : length (lengths_of cs wire) ≡ length wire
  lengths_long = length-map (ring_edges wire) (edge_length (point_of cs)) ∙ length_ring wire

  -- edge i runs to the place behind i in the ring
  length_at : (i : ℕ) → i < length wire → get_or (lengths_of cs wire) i 0 ≡ edge_length (point_of cs) (get_or wire i 0, get_or wire (next_of i (length wire)) 0)
  length_at i h =
      map_at (edge_length (point_of cs)) (0, 0) 0 (ring_edges wire) i (omega (arith, length_ring wire)) ∙ ap (edge_length (point_of cs)) (ring_at 0 wire i h)

  module _ (long i next p q r : ℕ) (h : i < length wire) (n : next ≡ next_of i (length wire)) (k : next < length wire)
      (d : p ≡ get_or wire i 0) (e : q ≡ get_or wire next 0) (w : Walkable wire cs) (f : r ≡ edge_length (point_of cs) (p, q)) where
    edge_long : r ≤ longest_edge
    edge_long = let b : _ = ends_placed i next p q h k d e w in omega (arith, f, edge_few cs p q b.0 b.1)

    -- no sum of a hem's lengths is too large to be kept
    pub walk_fits : Walking wire cs long i → long + r < 2 ^ 64
    walk_fits v = omega (arith, edge_long, v.few, w.few)

    pub walk_turns : Walking wire cs long i → Walking wire cs (long + r) (i + 1)
    walk_turns v =
        let s : sum (take (i + 1) (lengths_of cs wire)) ≡ sum (take i (lengths_of cs wire)) + get_or (lengths_of cs wire) i 0 =
        sum_step (lengths_of cs wire) i (omega (arith, lengths_long)) in
        let t : r ≡ get_or (lengths_of cs wire) i 0 = f ∙ rw (d, e, n, length_at i h) in
        record { within = omega arith; added = omega (arith, s, t, v.added); few = omega (arith, edge_long, v.few) }

  pub walk_ends : (long i : ℕ) → length wire ≤ i → Walking wire cs long i → long ≡ hem_length (point_of cs) wire
  walk_ends long i h v = v.added ∙ ap sum (take_all i (lengths_of cs wire) (omega (arith, lengths_long)))
