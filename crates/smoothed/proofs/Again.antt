-- The smoothed faces are triangles, none is folded, and their positions are the old ones and one for each edge. Assumes nothing.
use mathlib.Core.Path.{◌≡◌, refl, sym}
use mathlib.Core.Bool.{Bool, true, false}
use mathlib.Core.List.{List, [], ◌∷◌}
use Prim.Native.Nat.{ℕ, ◌+◌, ◌≤◌, ◌<◌}
use native.Mathlib.Omega.{arith}
use lib.ListN.{length}
use lib.Dec.{ltb, eqb}
use borrow.Author.Tests.{lt-ltb, ne_eqb}
use Rattle.lists.specs.Lists.{some, every}
use Rattle.mesh.specs.Mesh.{Corner, Ring, position}
use Rattle.verdicts.specs.Edges.{Edge}
use Rattle.splitting.specs.Splitting.{folded_by}
use Rattle.folding.specs.Folding.{folded}
use Rattle.smoothed.specs.Smoothed.{bare, middle, four, edges_by_use, smoothed_faces, smoothed_count, Smoothable}
use Rattle.smoothed.proofs.All.{All, all_map, none_each, every_each}
use Rattle.smoothed.proofs.Places.{middle_above, middle_below}
use Rattle.smoothed.proofs.Proper.{Proper, proper, all_proper}
use Rattle.smoothed.proofs.Cuts.{two_middles}

unfolded_three :
    (u v w : Corner) → (position u ≡ position v → ⊥) → (position v ≡ position w → ⊥) → (position w ≡ position u → ⊥)
    → folded (u ∷ v ∷ w ∷ []) ≡ false
unfolding folded_by
unfolded_three u v w a b c =
    rw (
      ne_eqb (position u) (position v) a,
      ne_eqb (position v) (position w) b,
      ne_eqb (position u) (position w) (λ e. c (sym e)),
    )

-- whether every corner's position is below m
abbrev inside : ℕ → Ring → Bool
inside m f = every (λ c. ltb (position c) m) f

inside_three : (m : ℕ) (u v w : Corner) → position u < m → position v < m → position w < m → inside m (u ∷ v ∷ w ∷ []) ≡ true
inside_three m u v w a b c = rw (lt-ltb (position u) m a, lt-ltb (position v) m b, lt-ltb (position w) m c)

module _ (n : ℕ) (ks : List Edge) where
  four_unfolded : (f : Ring) → Proper n ks f → some folded (four n ks f) ≡ false
  four_unfolded _ (proper {x = x} {y = y} {z = z} t) =
      let i : ℕ = middle n ks (position y, position z) in
      let j : ℕ = middle n ks (position z, position x) in
      let k : ℕ = middle n ks (position x, position y) in
      let ij : i ≡ j → ⊥ = two_middles n ks (position y) (position z) (position x) t.bc t.ca t.ab.no_loop in
      let jk : j ≡ k → ⊥ = two_middles n ks (position z) (position x) (position y) t.ca t.ab t.bc.no_loop in
      let ki : k ≡ i → ⊥ = two_middles n ks (position x) (position y) (position z) t.ab t.bc t.ca.no_loop in
      let a : position x < n = t.ab.start_below in
      let b : position y < n = t.bc.start_below in
      let c : position z < n = t.ca.start_below in
      let li : n ≤ i = middle_above n ks (position y, position z) in
      let lj : n ≤ j = middle_above n ks (position z, position x) in
      let lk : n ≤ k = middle_above n ks (position x, position y) in
      rw (
        unfolded_three x (bare k) (bare j) (λ e. omega arith) (λ e. jk (sym e)) (λ e. omega arith),
        unfolded_three (bare i) z (bare j) (λ e. omega arith) (λ e. omega arith) (λ e. ij (sym e)),
        unfolded_three (bare i) (bare k) y (λ e. ki (sym e)) (λ e. omega arith) (λ e. omega arith),
        unfolded_three (bare i) (bare j) (bare k) ij jk ki,
      )

  four_inside : (f : Ring) → Proper n ks f → every (inside (n + length ks)) (four n ks f) ≡ true
  four_inside _ (proper {x = x} {y = y} {z = z} t) =
      let m : ℕ = n + length ks in
      let i : ℕ = middle n ks (position y, position z) in
      let j : ℕ = middle n ks (position z, position x) in
      let k : ℕ = middle n ks (position x, position y) in
      let a : position x < m = (let l : position x < n = t.ab.start_below in omega arith) in
      let b : position y < m = (let l : position y < n = t.bc.start_below in omega arith) in
      let c : position z < m = (let l : position z < n = t.ca.start_below in omega arith) in
      let li : i < m = middle_below n ks (position y, position z) t.bc.known in
      let lj : j < m = middle_below n ks (position z, position x) t.ca.known in
      let lk : k < m = middle_below n ks (position x, position y) t.ab.known in
      rw (
        inside_three m x (bare k) (bare j) a lk lj,
        inside_three m (bare i) z (bare j) li c lj,
        inside_three m (bare i) (bare k) y li lk b,
        inside_three m (bare i) (bare j) (bare k) li lj lk,
      )

-- no result face is folded where no input face is, all are triangles, and each index is below the new number of positions
pub smoothed_again : (n : ℕ) (fs : List Ring) → Smoothable n fs → Smoothable (smoothed_count n fs) (smoothed_faces n fs)
unfolding smoothed_faces
smoothed_again n fs s =
    let ks : List Edge = edges_by_use fs in
    let a : All (Proper n ks) fs = all_proper n fs s in
    record {
      triangles = every_each (four n ks) (λ f. eqb (length f) 3) (all_map (λ f h. refl) a);
      unfolded = none_each (four n ks) folded (all_map (four_unfolded n ks) a);
      within = every_each (four n ks) (inside (n + length ks)) (all_map (four_inside n ks) a);
    }
