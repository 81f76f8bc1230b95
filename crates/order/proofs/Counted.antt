-- The same faces have the same edges, each as often. Assumes nothing.
use mathlib.Core.Path.{◌≡◌, refl, ◌∙◌}
use mathlib.Core.Bool.{Bool}
use mathlib.Core.List.{List}
use native.Mathlib.Omega.{arith}
use Rattle.lists.specs.Lists.{count}
use Rattle.lists.proofs.Counting.{count_append}
use Rattle.lists.proofs.Alike.{Alike}
use Rattle.mesh.specs.Mesh.{Ring, position}
use Rattle.edges.specs.Edges.{ring_edges, mesh_edges, edges_of}
use Rattle.order.specs.Same.{Same, none, face, swap, then}
use Rattle.order.specs.Demand.{by_position}
use Rattle.order.proofs.Turning.{turned_alike}
use Rattle.order.proofs.Matched.{same_map}

module _ {A : Type 0} where
  pub same_count : (p : A × A → Bool) {m n : List (List A)} → Same m n → count p (mesh_edges m) ≡ count p (mesh_edges n)
  same_count p none = refl
  same_count p (face {f = f} {g = g} {m = m} {n = n} t s) =
      rw (
        count_append p (ring_edges f) (mesh_edges m),
        count_append p (ring_edges g) (mesh_edges n),
        (turned_alike t).agree p,
        same_count p s,
      )
  same_count p swap = simp count_append (omega arith)
  same_count p (then s t) = same_count p s ∙ same_count p t

-- it is enough that the faces have the same positions
pub edges_alike_by : (m n : List Ring) → Same (by_position m) (by_position n) → Alike (edges_of m) (edges_of n)
edges_alike_by m n s = record { agree = λ p. same_count p s }

pub edges_alike : {m n : List Ring} → Same m n → Alike (edges_of m) (edges_of n)
edges_alike {m} {n} s = edges_alike_by m n (same_map position s)
