-- There are three coordinates for each old position and for each edge: so all that is promised of a smoothed mesh holds of the one
-- with these positions. Assumes nothing.
use mathlib.Core.Path.{◌≡◌, refl}
use mathlib.Core.List.{List}
use Prim.Native.Nat.{ℕ, ◌*◌}
use native.Mathlib.Omega.{arith}
use lib.ListN.{length, length-append}
use lib.Ieee.{Float}
use Rattle.lists.specs.Lists.{each, span}
use Rattle.lists.proofs.Buckets.{length_span}
use Rattle.mesh.specs.Mesh.{Mesh, Ring, faces, position_count}
use Rattle.smoothed.specs.Smoothed.{edges_by_use, smoothed_count}
use Rattle.smoothed.specs.Around.{condition}
use Rattle.smoothed.specs.Positions.{axes, moved_by_lem, middle_of, smoothed_positions}
use Rattle.smoothed.specs.Promise.{Given, Promised}
use Rattle.smoothed.proofs.All.{all_here, length_each}
use Rattle.smoothed.proofs.Meshwise.{smoothed_mesh_lem}

pub positions_fit :
    (fs : List Ring) (ps ones twos : List Float) (n : ℕ) → length (smoothed_positions fs ps ones twos n) ≡ 3 * smoothed_count n fs
unfolding smoothed_positions
positions_fit fs ps ones twos n =
    let old : List Float = each (λ v. axes (λ a. moved_by_lem fs ps ones twos (condition fs v) a v)) (span 0 n) in
    let new : List Float = each (λ k. axes (λ a. middle_of fs ps ones twos a k)) (edges_by_use fs) in
    let a : length old ≡ length (span 0 n) * 3 =
    length_each (λ v. axes (λ a. moved_by_lem fs ps ones twos (condition fs v) a v)) 3 (all_here (λ v. refl) (span 0 n)) in
    let b : length new ≡ length (edges_by_use fs) * 3 =
    length_each (λ k. axes (λ a. middle_of fs ps ones twos a k)) 3 (all_here (λ k. refl) (edges_by_use fs)) in
    omega (arith, a, b, length-append old new, length_span 0 n)

pub smoothed_with :
    (m : Mesh) (ones twos : List Float) → Given m → Promised m (smoothed_positions (faces m) m.positions ones twos (position_count m))
smoothed_with m ones twos g =
    smoothed_mesh_lem m g
    (smoothed_positions (faces m) m.positions ones twos (position_count m))
    (positions_fit (faces m) m.positions ones twos (position_count m))
