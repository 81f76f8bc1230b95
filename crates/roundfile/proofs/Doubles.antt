-- Every coordinate that smoothing gives is an f64 where those of the mesh are: it is one of them, or a sum of two. Assumes nothing.
use mathlib.Core.Path.{◌≡◌, ◌∙◌}
use mathlib.Core.Bool.{true}
use mathlib.Core.List.{List, [], ◌∷◌}
use Prim.Native.Nat.{ℕ, zero, suc}
use lib.ListN.{get_or}
use lib.Ieee.{Float, nan, binary64, fits}
use lib.Dec.{T}
use lib.Ieee.Bits.{is_true}
use lib.Ieee.Fits.{nan-fits, add-fits, cond-fits}
use Rattle.lists.specs.Lists.{every, each, span}
use Rattle.lists.proofs.Bools.{and_left, and_right, and_both}
use Rattle.lists.proofs.Parts.{every_append}
use Rattle.mesh.specs.Mesh.{Ring}
use Rattle.verdicts.specs.Edges.{Edge}
use Rattle.written.specs.Said.{is_double}
use Rattle.smoothed.specs.Smoothed.{edges_by_use}
use Rattle.smoothed.specs.Around.{Condition, Corner, Boundary, Inner, condition, single}
use Rattle.smoothed.specs.Positions.{axes, moved_by_lem, middle_of, smoothed_positions}
use Rattle.opening.proofs.Kept.{every_each}

is_double_lem : (x : Float) → T (fits binary64 x) → is_double x ≡ true
is_double_lem x h = is_true (is_double x) h

at_double : (l : List Float) (k : ℕ) → every is_double l ≡ true → is_double (get_or l k nan) ≡ true
at_double [] k h = is_double_lem nan (nan-fits binary64)
at_double (x ∷ l) zero h = and_left (is_double x) (every is_double l) h
at_double (x ∷ l) (suc k) h = at_double l k (and_right (is_double x) (every is_double l) h)

axes_double : (f : ℕ → Float) → ((a : ℕ) → is_double (f a) ≡ true) → every is_double (axes f) ≡ true
axes_double f h = rw (h 0, h 1, h 2)

module _ (fs : List Ring) (ps ones twos : List Float) (d : every is_double ps ≡ true) where
  moved_double : (c : Condition) (a v : ℕ) → is_double (moved_by_lem fs ps ones twos c a v) ≡ true
  moved_double Corner a v = at_double ps _ d
  moved_double (Boundary x y) a v = is_double_lem _ (add-fits binary64 _ _)
  moved_double Inner a v = is_double_lem _ (add-fits binary64 _ _)

  middle_double : (a : ℕ) (k : Edge) → is_double (middle_of fs ps ones twos a k) ≡ true
  middle_double a k = is_double_lem _ (cond-fits binary64 (single fs k) _ _ (add-fits binary64 _ _) (add-fits binary64 _ _))

  pub positions_double : (n : ℕ) → every is_double (smoothed_positions fs ps ones twos n) ≡ true
  unfolding smoothed_positions
  positions_double n =
      let old : ℕ → List Float = λ v. axes (λ a. moved_by_lem fs ps ones twos (condition fs v) a v) in
      let new : Edge → List Float = λ k. axes (λ a. middle_of fs ps ones twos a k) in
      every_append is_double (each old (span 0 n)) (each new (edges_by_use fs))
      ∙ and_both (every is_double (each old (span 0 n))) (every is_double (each new (edges_by_use fs)))
      (every_each is_double old (λ v. axes_double (λ a. moved_by_lem fs ps ones twos (condition fs v) a v) (λ a. moved_double (condition fs v) a v)) (span 0 n))
      (every_each is_double new (λ k. axes_double (λ a. middle_of fs ps ones twos a k) (λ a. middle_double a k)) (edges_by_use fs))
