-- As many edges as corners; the lower and the higher position of an edge; and an accepted mesh has what calls on edges rest on.
-- Assumes nothing.
use Rattle.std.proofs.Common.{◌≡◌, ℕ, suc, ◌<◌, Bool, true, false, cond, leb, List, [], ◌∷◌, length, refl, ap, arith}
use Rattle.mesh.specs.Mesh.{Mesh, position_count}
use Rattle.mesh.specs.Table.{mesh_number}
use Rattle.mesh.specs.Edges.{Edge, run_edges, ring_edges, flip, key, Edged}
use Rattle.mesh.proofs.Accepted.{Accepted, accepted}

module _ {A : Type 0} where
  pub length_run : (a : A) (r : List A) (z : A) → length (run_edges a r z) ≡ suc (length r)
  length_run a [] z = refl
  length_run a (b ∷ r) z = ap suc (length_run b r z)

  pub length_ring : (ps : List A) → length (ring_edges ps) ≡ length ps
  length_ring [] = refl
  length_ring (a ∷ r) = length_run a r a

-- both ends of the key below n, where both ends of the edge are
pub key_below : (n : ℕ) (e : Edge) → e.0 < n → e.1 < n → ((key e).0 < n) × ((key e).1 < n)
unfolding key
key_below n e p q = go (leb e.0 e.1)
  where
    go : (b : Bool) → ((cond b e (flip e)).0 < n) × ((cond b e (flip e)).1 < n)
    go true = (p, q)
    go false = (q, p)

-- an accepted mesh has what calls between crates ask
pub edged : (m : Mesh) → mesh_number m ≡ 0 → Edged m.corners m.sizes (position_count m)
edged m h =
    let a : Accepted m = accepted m h in
    record { sound = a.sound; few = omega (arith, a.limits.positions); below = λ k l. (a.corner k l).position }
