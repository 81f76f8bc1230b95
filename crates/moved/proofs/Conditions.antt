-- What the rows of a mesh say of a position: how many neighbours it has, its hem neighbours, and so its condition. Assumes nothing.
use Rattle.std.proofs.Common.{◌≡◌, ℕ, ◌<◌, ◌≤◌, true, ltb, List, [], ◌∷◌, length, get_or, refl, arith, ltb-true, lt-ltb, ne_eqb}
use Rattle.lists.specs.Lists.{every}
use Rattle.lists.proofs.Bools.{and_left, and_right}
use Rattle.lists.proofs.Buckets.{table_at, length_table}
use Rattle.lists.proofs.Only.{every_only}
use Rattle.lists.proofs.Parts.{every_at}
use Rattle.mesh.specs.Limits.{entry_limit}
use Rattle.mesh.specs.Mesh.{Ring, missing}
use Rattle.verdicts.specs.Edges.{key}
use Rattle.smoothed.specs.Smoothed.{Smoothable}
use Rattle.smoothed.specs.Around.{Condition, condition_of, condition, neighbours, along_hem, single}
use Rattle.smoothed.specs.Columns.{degrees, hem_neighbours}
use Rattle.smoothed.proofs.All.{all_map, every_back}
use Rattle.smoothed.proofs.Inside.{neighbours_below}
use Rattle.moved.specs.Rows.{condition_at}

-- from a list of hem neighbours that are positions; none of these is the mark of a missing one
condition_by :
    (n d : ℕ) (hs : List ℕ) → n ≤ entry_limit → every (λ w. ltb w n) hs ≡ true
    → condition_at d (get_or hs 0 missing) (get_or hs 1 missing) ≡ condition_of d hs
unfolding condition_at
condition_by n d [] few h = refl
condition_by n d (x ∷ []) few h = refl
condition_by n d (x ∷ y ∷ hs) few h =
    let t : ltb y n ≡ true = and_left (ltb y n) _ (and_right (ltb x n) _ h) in
    let b : y < n = ltb-true y n t in
    rw (ne_eqb y missing (λ e. let z : y ≡ missing = e in omega arith))

module _ (fs : List Ring) (n : ℕ) where
  pub degrees_long : length (degrees fs n) ≡ n
  unfolding degrees
  degrees_long = length_table (λ v. length (neighbours fs v)) n

  pub hems_long : (i : ℕ) → length (hem_neighbours i fs n) ≡ n
  unfolding hem_neighbours
  hems_long i = length_table (λ v. get_or (along_hem fs v) i missing) n

  module _ (v : ℕ) (h : v < n) where
    pub degree_at : get_or (degrees fs n) v 0 ≡ length (neighbours fs v)
    unfolding degrees
    degree_at = table_at (λ v. length (neighbours fs v)) n v 0 h

    pub hem_at : (i : ℕ) → get_or (hem_neighbours i fs n) v 0 ≡ get_or (along_hem fs v) i missing
    unfolding hem_neighbours
    hem_at i = table_at (λ v. get_or (along_hem fs v) i missing) n v 0 h

  -- a position's condition, by the rows
  abbrev pub rowed : ℕ → Condition
  rowed v = condition_at (get_or (degrees fs n) v 0) (get_or (hem_neighbours 0 fs n) v 0) (get_or (hem_neighbours 1 fs n) v 0)

module _ (n : ℕ) (fs : List Ring) (s : Smoothable n fs) where
  hems_below : (v : ℕ) → every (λ w. ltb w n) (along_hem fs v) ≡ true
  unfolding along_hem
  hems_below v =
      every_only (λ w. single fs (key (v, w))) (λ w. ltb w n) (neighbours fs v)
      (every_back (λ w. ltb w n) (all_map (λ w b. lt-ltb w n b) (neighbours_below n fs s v)))

  pub hem_below : (v i : ℕ) → i < length (along_hem fs v) → get_or (along_hem fs v) i missing < n
  hem_below v i h = ltb-true _ n (every_at (λ w. ltb w n) missing (along_hem fs v) i (hems_below v) h)

  pub condition_is : n ≤ entry_limit → (v : ℕ) → v < n → rowed fs n v ≡ condition fs v
  unfolding condition
  condition_is few v h =
      rw (degree_at fs n v h, hem_at fs n v h 0, hem_at fs n v h 1)
      (condition_by n (length (neighbours fs v)) (along_hem fs v) few (hems_below v))
