-- The points of a run are compared, since its first is. Assumes nothing.
use mathlib.Core.Path.{◌≡◌}
use mathlib.Core.Bool.{true}
use mathlib.Core.List.{List}
use Prim.Native.Nat.{ℕ, ◌<◌}
use native.Mathlib.Omega.{arith}
use lib.ListN.{get_or}
use Rattle.nearby.specs.Engine.{beside_at}
use Rattle.cellwise.specs.Blocks.{EndOf, Tables}
use Rattle.inreach.specs.Reach.{Run}
use Rattle.inreach.proofs.Skipping.{alike_beside}

pub run_of :
    {w n : ℕ} {cells order slabs rows runs : List ℕ} {i q r : ℕ} → Tables w n cells order slabs rows runs → i < n → q < n
    → beside_at w cells i (get_or order q 0) ≡ true → r ≡ get_or runs q 0 → Run w n cells order i q r
run_of {w} {n} {cells} {order} {slabs} {rows} {runs} {i} {q} {r} t h l e f =
    let d : EndOf w n w cells order q (get_or runs q 0) = t.run_ends.each q l in
    record {
      long = t.by_cell.long;
      rise = omega (arith, d.behind);
      inside = omega (arith, d.inside);
      below = t.by_cell.below;
      beside = λ k u v.
          let y : k < r = v in
          alike_beside w n cells t.by_cell.points i (get_or order q 0) (get_or order k 0) h (t.by_cell.below q l) (t.by_cell.below k (omega (arith, d.inside)))
          (d.alike k u (omega arith)) e;
    }
