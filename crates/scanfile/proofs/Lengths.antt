-- Where the points of a file stand once its length is right. Assumes nothing.
use mathlib.Core.Path.{◌≡◌}
use mathlib.Core.List.{List}
use Prim.Native.Nat.{ℕ, ◌*◌, ◌/◌, ◌%◌, ◌≤◌, ◌<◌}
use native.Mathlib.Omega.{arith}
use lib.ListN.{length}
use Rattle.mesh.specs.Limits.{least_ring, face_limit}
use Rattle.scanned.specs.Scan.{scan_length, point_place}
use Rattle.matching.specs.Steps.{ScanRows}

-- every point stands in the file
pub points_inside : (s : List ℕ) (n u : ℕ) → n ≤ face_limit → length s ≡ scan_length n → u ≡ least_ring * n → ScanRows s u
unfolding point_place
points_inside s n u f l e = record {
  few = omega arith;
  inside = λ k h.
      let q : k / 3 < n = omega arith in
      let r : k % 3 ≤ 2 = omega arith in
      omega arith;
}
