-- A point as its coordinates are read, the length of the edge between two such points, and how long it can be. Assumes nothing.
use mathlib.Core.Path.{◌≡◌, ap₂, ◌∙◌}
use mathlib.Core.List.{List}
use Prim.Native.Nat.{ℕ, ◌+◌, ◌*◌, ◌≤◌, ◌<◌, ◌^◌}
use native.Mathlib.Omega.{arith}
use lib.ListN.{get_or}
use lib.IntN.{ℤ, pos}
use lib.Signed.{mag}
use mir.Syntax.{w32}
use mir.Val.{of_z, to_z}
use Rattle.mesh.specs.Limits.{point_width}
use Rattle.roots.specs.Roots.{Root, root_of}
use Rattle.roots.specs.Distances.{Point, apart_by, squared_distance, squared_limit}
use Rattle.roots.proofs.Signs.{read}
use Rattle.roots.proofs.Distances.{spanned, squares_most}
use Rattle.roots.proofs.Greatest.{root_of_lem, root_most}
use Rattle.hemlist.specs.HemList.{point_of, edge_length}
use Rattle.hemlist.specs.Working.{Placed}
use Rattle.measured.specs.Measured.{longest_edge}

-- a coordinate as a call is given it, and the three of position p
abbrev given : ℤ → ℤ
given x = to_z w32 (of_z w32 x)

abbrev pub point_read : List ℤ → ℕ → Point
point_read cs p = (given (get_or cs (point_width * p) (pos 0)), given (get_or cs (point_width * p + 1) (pos 0)), given (get_or cs (point_width * p + 2) (pos 0)))

module _ (cs : List ℤ) where
  -- coordinates of 32 bits are the coordinates
  pub point_read_lem :
      (p : ℕ) → mag (get_or cs (point_width * p) (pos 0)) < 2 ^ 31 → mag (get_or cs (point_width * p + 1) (pos 0)) < 2 ^ 31
      → mag (get_or cs (point_width * p + 2) (pos 0)) < 2 ^ 31 → point_read cs p ≡ point_of cs p
  point_read_lem p x y z =
      λ i. (
        read (get_or cs (point_width * p) (pos 0)) (record { sfits = x }) i,
        read (get_or cs (point_width * p + 1) (pos 0)) (record { sfits = y }) i,
        read (get_or cs (point_width * p + 2) (pos 0)) (record { sfits = z }) i,
      )

  -- the root that is found is the edge's length
  pub edge_read :
      (p q r : ℕ) → point_read cs p ≡ point_of cs p → point_read cs q ≡ point_of cs q → Root (squared_distance (point_read cs p) (point_read cs q)) r
      → r ≡ edge_length (point_of cs) (p, q)
  unfolding edge_length
  edge_read p q r d e h =
      root_of_lem (squared_distance (point_read cs p) (point_read cs q)) r h ∙ ap₂ (λ (x y : Point). root_of (squared_distance x y)) d e

  -- no edge between reached points is longer
  pub edge_few : (p q : ℕ) → Placed cs p → Placed cs q → edge_length (point_of cs) (p, q) ≤ longest_edge
  unfolding edge_length
  edge_few p q v w =
      let a : Point = point_of cs p in
      let b : Point = point_of cs q in
      let m : squared_distance a b ≤ squared_limit =
      squares_most (apart_by a.0 b.0) (apart_by a.1 b.1) (apart_by a.2 b.2) (spanned a b v.reached w.reached) in
      root_most (squared_distance a b) longest_edge (omega arith)
