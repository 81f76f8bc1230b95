-- What is finite is so by the library too, and is no NaN; and what three finite lists say of each. Assumes nothing.
use mathlib.Core.Path.{◌≡◌, refl, sym}
use mathlib.Core.Bool.{true, not, ◌&&◌}
use mathlib.Core.List.{List}
use lib.Dec.{T}
use Rattle.std.specs.Float.{float_is_finite}
use lib.Ieee.{Float, nan, inf, fin, is_nan}
use Rattle.lists.specs.Lists.{every}
use Rattle.lists.proofs.Bools.{and_both, and_left, and_right, true_false}
use Rattle.floating.specs.Limits.{finite, all_finite}

-- ---- one number

-- what the library says of a number
pub finite_is : (x : Float) → float_is_finite x ≡ finite x
unfolding float_is_finite finite
finite_is nan = refl
finite_is (inf s) = refl
finite_is (fin s m e) = refl

pub no_nan : (x : Float) → finite x ≡ true → T (not (is_nan x))
unfolding finite is_nan
no_nan nan h = true_false (sym h)
no_nan (inf s) h = tt
no_nan (fin s m e) h = tt

-- ---- the three lists of a mesh

pub record Finite (p t n : List Float) : Type 0 where
  pub positions : every finite p ≡ true
  pub textures : every finite t ≡ true
  pub normals : every finite n ≡ true

pub finite_lists : (p t n : List Float) → all_finite p t n ≡ true → Finite p t n
unfolding all_finite
finite_lists p t n h =
    let others = and_right (every finite p) (every finite t && every finite n) h in
    record {
      positions = and_left (every finite p) (every finite t && every finite n) h;
      textures = and_left (every finite t) (every finite n) others;
      normals = and_right (every finite t) (every finite n) others;
    }

pub lists_finite : (p t n : List Float) → Finite p t n → all_finite p t n ≡ true
unfolding all_finite
lists_finite p t n f =
    and_both (every finite p) (every finite t && every finite n) f.positions (and_both (every finite t) (every finite n) f.textures f.normals)
