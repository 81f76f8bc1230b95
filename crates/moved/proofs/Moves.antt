-- Of the rows of a mesh, old positions are moved as the rules say. Assumes nothing.
use Rattle.std.proofs.Common.{◌≡◌, ℕ, zero, suc, ◌+◌, ◌<◌, ◌≤◌, List, get_or, sym, refl, ap, ◌∙◌, arith, Float}
use lib.Ieee.{nan}
use Rattle.lists.specs.Lists.{each, span}
use Rattle.lists.proofs.Buckets.{start_at, each_span_cong}
use Rattle.mesh.specs.Limits.{entry_limit}
use Rattle.mesh.specs.Mesh.{Ring}
use Rattle.smoothed.specs.Smoothed.{Smoothable}
use Rattle.smoothed.specs.Around.{Condition, Corner, Boundary, Inner, condition}
use Rattle.smoothed.specs.Positions.{axes, coordinate, pull, moved_by_lem}
use Rattle.smoothed.specs.Columns.{degrees, hem_neighbours, pulls}
use Rattle.moved.specs.Axis.{bent, drawn}
use Rattle.moved.specs.Rows.{moved_as, moved_at, moved_list}
use Rattle.moved.proofs.Filling.{begins_at}
use Rattle.moved.proofs.Conditions.{degrees_long, degree_at, condition_is}

-- two rules that agree on each axis
pub axes_agree : (f g : ℕ → Float) → ((a : ℕ) → a < 3 → f a ≡ g a) → axes f ≡ axes g
axes_agree f g h =
    let x : f 0 ≡ g 0 = h 0 (omega arith) in
    let y : f 1 ≡ g 1 = h 1 (omega arith) in
    let z : f 2 ≡ g 2 = h 2 (omega arith) in
    rw (x, y, z)

axis : (f : ℕ → Float) (a : ℕ) → a < 3 → get_or (axes f) a nan ≡ f a
axis f zero h = refl
axis f (suc zero) h = refl
axis f (suc (suc zero)) h = refl
axis f (suc (suc (suc a))) h = absurd (let z : suc (suc (suc a)) < 3 = h in omega arith)

-- coordinate a of point v, of points that f gives
point_axis :
    (f : ℕ → ℕ → Float) (n v a : ℕ) → v < n → a < 3 → coordinate (each (λ v. axes (λ a. f a v)) (span 0 n)) a v ≡ f a v
point_axis f n v a h i =
    let points : ℕ → List Float = λ v. axes (λ a. f a v) in
    ap (λ (k : ℕ). get_or (each points (span 0 n)) (k + a) nan) (sym (begins_at f v))
    ∙ start_at points nan n v a h i
    ∙ axis (λ a. f a v) a i

module _ (n : ℕ) (fs : List Ring) (s : Smoothable n fs) (few : n ≤ entry_limit) (ps ones twos : List Float) where
  abbrev by_rows : ℕ → ℕ → Float
  by_rows = moved_at ps (degrees fs n) (hem_neighbours 0 fs n) (hem_neighbours 1 fs n) (pulls fs ps n) twos

  abbrev by_rule : ℕ → ℕ → Float
  by_rule a v = moved_by_lem fs ps ones twos (condition fs v) a v

  pull_at : (v a : ℕ) → v < n → a < 3 → coordinate (pulls fs ps n) a v ≡ pull fs ps a v
  unfolding pulls
  pull_at v a h i = point_axis (pull fs ps) n v a h i

  moves : (v a : ℕ) → v < n → a < 3 → by_rows a v ≡ by_rule a v
  unfolding moved_at bent drawn
  moves v a h i =
      ap (λ (c : Condition). moved_as ps (degrees fs n) (hem_neighbours 0 fs n) (hem_neighbours 1 fs n) (pulls fs ps n) twos c a v)
      (condition_is n fs s few v h)
      ∙ go (condition fs v)
    where
      go :
          (c : Condition) → moved_as ps (degrees fs n) (hem_neighbours 0 fs n) (hem_neighbours 1 fs n) (pulls fs ps n) twos c a v
          ≡ moved_by_lem fs ps ones twos c a v
      go Corner = refl
      go (Boundary x y) = refl
      go Inner = rw (degree_at fs n v h, pull_at v a h i)

  -- the list that the code writes is that of the rules
  pub moved_is :
      moved_list ps (degrees fs n) (hem_neighbours 0 fs n) (hem_neighbours 1 fs n) (pulls fs ps n) twos
      ≡ each (λ v. axes (λ a. moved_by_lem fs ps ones twos (condition fs v) a v)) (span 0 n)
  unfolding moved_list
  moved_is =
      ap (λ (m : ℕ). each (λ v. axes (λ a. by_rows a v)) (span 0 m)) (degrees_long fs n)
      ∙ each_span_cong (λ v. axes (λ a. by_rows a v)) (λ v. axes (λ a. by_rule a v)) 0 n
      (λ v l h. axes_agree (λ a. by_rows a v) (λ a. by_rule a v) (λ a i. moves v a (omega arith) i))
