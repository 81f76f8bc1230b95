-- Every position of a house wire is one of the mesh's, and so it has its point, none of whose coordinates is beyond reach. Assumes nothing.
use mathlib.Core.Path.{◌≡◌, refl, sym, ap, ap₂, ◌∙◌, subst}
use mathlib.Core.Bool.{Bool, true, false, not}
use mathlib.Core.List.{List, [], ◌∷◌, ◌++◌, map, map-append}
use Prim.Native.Nat.{ℕ, ◌+◌, ◌*◌, ◌≤◌, ◌<◌}
use native.Mathlib.Omega.{arith}
use lib.Dec.{ltb}
use lib.IntN.{ℤ, pos, nat_abs}
use lib.ListN.{length, get_or, length-map, get_or-map}
use borrow.Author.Tests.{ltb-true, ltb-false, not-false}
use Rattle.lists.specs.Lists.{some, joined}
use Rattle.lists.proofs.Bools.{and_left}
use Rattle.lists.proofs.Counting as counting
use Rattle.lists.proofs.Parts.{every_at, some_none, some_false_at}
use Rattle.mesh.specs.Limits.{point_width}
use Rattle.mesh.specs.Mesh.{Ring, rings}
use Rattle.uses.proofs.Sides.{inside}
use Rattle.edges.specs.Edges.{Edge, ring_edges, mesh_edges, edges_of, verdict, hems}
use Rattle.edges.specs.Runs.{Edged}
use Rattle.edges.proofs.OfHems.{hems_inside}
use Rattle.turning.specs.Turning.{house_wires_of}
use Rattle.turning.proofs.Next.{ring_firsts}
use Rattle.house.specs.Answers.{wired}
use Rattle.house.proofs.Given.{house_turns}
use Rattle.roots.specs.Distances.{coordinate_limit}
use Rattle.hemlist.specs.HemList.{too_far, beyond_reach}
use Rattle.hemlist.specs.Working.{Placed, Located}

-- ---- positions

-- the edges of rings start at their positions, one behind the other
starts_joined : (ws : List (List ℕ)) → map (λ (e : Edge). e.0) (mesh_edges ws) ≡ joined ws
starts_joined [] = refl
starts_joined (w ∷ ws) =
    map-append (λ (e : Edge). e.0) (ring_edges w) (mesh_edges ws) ∙ ap₂ (λ (a b : List ℕ). a ++ b) (ring_firsts w) (starts_joined ws)

module _ (c s : List ℕ) (n : ℕ) (e : Edged c s n) (fit : wired (verdict (edges_of (rings s c))) ≡ true) where
  abbrev fs : List Ring
  fs = rings s c

  abbrev ws : List (List ℕ)
  ws = house_wires_of fs

  -- an edge starts past the positions: no hem edge does, and so no edge of a wire
  abbrev past : Edge → Bool
  past d = not (ltb d.0 n)

  hems_below : some past (hems (edges_of fs)) ≡ false
  hems_below =
      some_none past (0, 0) (hems (edges_of fs))
      (λ k h. ap not (and_left (ltb (get_or (hems (edges_of fs)) k (0, 0)).0 n) _ (every_at (inside n) (0, 0) (hems (edges_of fs)) k (hems_inside c s n e) h)))

  wires_below : some past (mesh_edges ws) ≡ false
  wires_below =
      counting.some_count past (mesh_edges ws)
      ∙ ap counting.pos ((house_turns fs fit).every_hem_once past)
      ∙ sym (counting.some_count past (hems (edges_of fs)))
      ∙ hems_below

  -- as many edges as positions
  long : length (mesh_edges ws) ≡ length (joined ws)
  long = sym (length-map (mesh_edges ws) (λ (d : Edge). d.0)) ∙ ap length (starts_joined ws)

  pub wire_below : (i : ℕ) → i < length (joined ws) → get_or (joined ws) i 0 < n
  wire_below i h =
      subst (λ (l : List ℕ). get_or l i 0 < n) (starts_joined ws)
      (rw (get_or-map (λ (d : Edge). d.0) (mesh_edges ws) i (0, 0))
      (ltb-true (get_or (mesh_edges ws) i (0, 0)).0 n
      (not-false (ltb (get_or (mesh_edges ws) i (0, 0)).0 n) (some_false_at past (0, 0) (mesh_edges ws) i wires_below (omega (arith, long))))))

-- ---- points

near : (cs : List ℤ) → beyond_reach cs ≡ false → (i : ℕ) → i < length cs → nat_abs (get_or cs i (pos 0)) ≤ coordinate_limit
unfolding beyond_reach
near cs h i k = ltb-false coordinate_limit (nat_abs (get_or cs i (pos 0))) (some_false_at too_far (pos 0) cs i h k)

pub placed : {cs : List ℤ} {n : ℕ} → Located cs n → (p : ℕ) → p < n → Placed cs p
placed {cs} {n} l p h =
    let long : length cs ≡ point_width * n = l.long in
    record {
      there = omega arith;
      reached = record {
        first = near cs l.within (point_width * p) (omega arith);
        second = near cs l.within (point_width * p + 1) (omega arith);
        third = near cs l.within (point_width * p + 2) (omega arith);
      };
    }
