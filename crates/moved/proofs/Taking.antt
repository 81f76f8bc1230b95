-- Points as they are read from the rows, and where a position moves to, case by case. Assumes nothing.
use Rattle.std.proofs.Common.{◌≡◌, ℕ, ◌+◌, ◌*◌, ◌<◌, ◌≤◌, List, length, get_or, ap, ◌∙◌, arith, eq-eqb, ne_eqb, Float}
use lib.Ieee.{nan}
use Rattle.mesh.specs.Mesh.{missing}
use Rattle.floating.specs.Points.{point, coordinates, leading, row}
use Rattle.floating.specs.Scaling.{axes2, axes3}
use Rattle.floating.specs.declared.Point.{Point}
use Rattle.floating.proofs.Rows.{row_three}
use Rattle.smoothed.specs.Positions.{coordinate, axes, weight}
use Rattle.moved.specs.Axis.{bent, drawn}
use Rattle.moved.specs.Rows.{condition_at, moved_at}

-- point v of a flat list
abbrev pub here : List Float → ℕ → Point
here s v = point (coordinate s 0 v) (coordinate s 1 v) (coordinate s 2 v)

-- a point that is read stands there
pub read : (s : List Float) (v : ℕ) (p : Point) → 3 * v + 3 ≤ length s → leading 3 p ≡ row 3 s v → p ≡ here s v
read s v p h e =
    let z : 3 * v + 0 ≡ 3 * v = omega arith in
    rw z (ap (λ (l : List Float). point (get_or l 0 nan) (get_or l 1 nan) (get_or l 2 nan)) (e ∙ row_three nan s v h))

-- point v of n lies in a list of n, which is so long
pub point_in : (long v n : ℕ) → long ≡ 3 * n → v < n → 3 * v + 3 ≤ long
point_in long v n e h = omega arith

module _ (ps : List Float) (ds first second : List ℕ) (pulls twos : List Float) (v : ℕ) where
  abbrev result : List Float
  result = axes (λ a. moved_at ps ds first second pulls twos a v)

  pub moved_inner :
      (p q r : Point) (d : Float) → get_or second v 0 ≡ missing → p ≡ here ps v → q ≡ here pulls v → d ≡ weight twos (get_or ds v 0)
      → r ≡ axes2 (drawn d) p q → coordinates r ≡ result
  unfolding moved_at condition_at
  moved_inner p q r d h i j k l = rw (l, i, j, k, eq-eqb (get_or second v 0) missing h)

  pub moved_corner :
      (p : Point) → (get_or second v 0 ≡ missing → ⊥) → get_or ds v 0 ≡ 2 → p ≡ here ps v → coordinates p ≡ result
  unfolding moved_at condition_at
  moved_corner p h d i = rw (i, ne_eqb (get_or second v 0) missing h, eq-eqb (get_or ds v 0) 2 d)

  pub moved_boundary :
      (p x y r : Point) → (get_or second v 0 ≡ missing → ⊥) → (get_or ds v 0 ≡ 2 → ⊥) → p ≡ here ps v → x ≡ here ps (get_or first v 0)
      → y ≡ here ps (get_or second v 0) → r ≡ axes3 bent p x y → coordinates r ≡ result
  unfolding moved_at condition_at
  moved_boundary p x y r h d i j k l = rw (l, i, j, k, ne_eqb (get_or second v 0) missing h, ne_eqb (get_or ds v 0) 2 d)
