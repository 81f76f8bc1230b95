-- Two files that differ only in what is passed over, or in the sign of zeros. Assumes nothing.
use mathlib.Core.Path.{◌≡◌, ap, ap₂, ◌∙◌}
use mathlib.Core.List.{List, [], ◌∷◌}
use Prim.Native.Nat.{ℕ, ◌*◌, ◌<◌}
use Rattle.lists.proofs.Buckets.{length_table, table_at, table_ext}
use Rattle.mesh.specs.Limits.{least_ring}
use Rattle.mesh.specs.Table.{when, first_of, short}
use Rattle.scanned.specs.Scan.{scan_count, point, point_from, point_at, points_in, mesh_from, scan_mesh, length_number, points_number, scan_number}
use Rattle.scanned.specs.Seen.{upto}
use Rattle.scanned.specs.Promises.{Likewise, LikewiseRead}

module _ (s t : List ℕ) (l : Likewise s t) where
  point_same : (k : ℕ) → k < least_ring * scan_count s → point_at s k ≡ point_at t k
  unfolding point_at point_from
  point_same k h = λ i. point (l.first k h i) (l.second k h i) (l.third k h i)

  points_same : points_in s ≡ points_in t
  unfolding points_in
  points_same =
      table_ext (point_at t) (least_ring * scan_count s) 0 (upto (point_at s) (least_ring * scan_count s)) (length_table (point_at s) (least_ring * scan_count s))
      (λ k h. table_at (point_at s) (least_ring * scan_count s) k 0 h ∙ point_same k h)
      ∙ ap (λ (n : ℕ). upto (point_at t) (least_ring * n)) l.count

  length_same : length_number s ≡ length_number t
  unfolding length_number
  length_same = rw (l.long, l.count)

pub likewise_read : LikewiseRead
unfolding scan_mesh scan_number
likewise_read s t l = (
  ap mesh_from (points_same s t l),
  λ rooms. ap₂ (λ (n : ℕ) (ps : List ℕ). first_of (when (short rooms) 9 ∷ n ∷ points_number ps ∷ [])) (length_same s t l) (points_same s t l),
)
