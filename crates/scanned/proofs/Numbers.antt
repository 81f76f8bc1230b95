-- What points earn, row by row. Assumes nothing.
use mathlib.Core.Path.{◌≡◌}
use mathlib.Core.Bool.{true, false}
use mathlib.Core.List.{List}
use Prim.Native.Nat.{ℕ, ◌≤◌, ◌<◌}
use lib.ListN.{length}
use borrow.Author.Tests.{lt-ltb, le-ltb}
use Rattle.lists.specs.Lists.{some}
use Rattle.lists.specs.FirstUses.{first_uses}
use Rattle.mesh.specs.Limits.{entry_limit}
use Rattle.scanned.specs.Scan.{not_finite, points_number}

module _ (ps : List ℕ) where
  -- 14, however many positions there are
  pub number_14 : some not_finite ps ≡ true → 14 ≡ points_number ps
  unfolding points_number
  number_14 e = rw e

  module _ (e : some not_finite ps ≡ false) where
    pub number_1 : entry_limit < length (first_uses ps) → 1 ≡ points_number ps
    unfolding points_number
    number_1 l = rw (e, lt-ltb entry_limit (length (first_uses ps)) l)

    pub number_0 : length (first_uses ps) ≤ entry_limit → 0 ≡ points_number ps
    unfolding points_number
    number_0 l = rw (e, le-ltb entry_limit (length (first_uses ps)) l)
