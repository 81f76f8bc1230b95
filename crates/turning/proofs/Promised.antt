-- The promise on house wires is kept. Assumes nothing.
use mathlib.Core.Path.{◌≡◌}
use mathlib.Core.Logic.{inl, inr}
use Prim.Native.Nat.{ℕ}
use native.Mathlib.Omega.{arith}
use Rattle.edges.specs.Edges.{mesh_edges, Verdict, Irregular, Regular, verdict}
use Rattle.edges.proofs.HemUses.{not_irregular, not_regular}
use Rattle.turning.specs.Promise.{Fit, HemsTurnThrough}
use Rattle.turning.proofs.Onward.{onward_hem, onward_start, onward_one}
use Rattle.turning.proofs.Closing.{turned_used, every_hem_once, every_hem_follows}

-- Oriented and Closed are neither Irregular nor Regular
pub fit_irregular : (v : Verdict) → Fit v → v ≡ Irregular → ⊥
fit_irregular v (inl p) q = let z : ◌≡◌ {A = ℕ} 0 1 = cc in omega arith
fit_irregular v (inr p) q = let z : ◌≡◌ {A = ℕ} 0 1 = cc in omega arith

pub fit_regular : (v : Verdict) → Fit v → v ≡ Regular → ⊥
fit_regular v (inl p) q = let z : ◌≡◌ {A = ℕ} 0 1 = cc in omega arith
fit_regular v (inr p) q = let z : ◌≡◌ {A = ℕ} 0 1 = cc in omega arith

pub hems_turn : HemsTurnThrough
hems_turn fs v =
    let i : _ = fit_irregular (verdict (mesh_edges fs)) v in
    let r : _ = fit_regular (verdict (mesh_edges fs)) v in
    let ni : _ = not_irregular (mesh_edges fs) i in
    let nr : _ = not_regular (mesh_edges fs) i r in
    record {
      reaches = onward_hem fs ni nr;
      goes_on = onward_start fs ni nr;
      one_to_one = onward_one fs ni nr;
      every_hem_once = every_hem_once fs i r;
      every_wire_closes = every_hem_follows fs i r;
      edges_add_up = (turned_used fs i r).numbers;
      wires_few = (turned_used fs i r).wires;
    }
