-- A signed number of 32 bits and 2^31 is a number from 0 below 2^32, and nothing is lost where it is widened, added to and cast.
-- Assumes nothing.
use mathlib.Core.Path.{◌≡◌, ap₂}
use lib.IntN.{ℤ}
use mir.Syntax.{w32}
use mir.Val.{SFits, of_z, to_z}
use mir.ValLaws.{to_z-of_z}
use Rattle.roots.specs.Distances.{apart_by}

module _ (a : ℤ) (f : SFits w32 a) where
  pub read : to_z w32 (of_z w32 a) ≡ a
  read = to_z-of_z w32 a f

-- the difference of two, as a call reads them
pub apart_read : (a b : ℤ) → SFits w32 a → SFits w32 b → apart_by (to_z w32 (of_z w32 a)) (to_z w32 (of_z w32 b)) ≡ apart_by a b
apart_read a b f g = ap₂ apart_by (read a f) (read b g)
