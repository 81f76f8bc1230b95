-- The search for a point that is not finite. Assumes nothing.
use mathlib.Core.Path.{◌≡◌, sym, ap, ◌∙◌}
use mathlib.Core.Bool.{Bool, true, false}
use mathlib.Core.List.{List}
use Prim.Native.Nat.{ℕ, ◌+◌, ◌≤◌, ◌<◌}
use native.Mathlib.Omega.{arith}
use lib.ListN.{length, get_or}
use Rattle.lists.specs.Lists.{some}
use Rattle.lists.proofs.Parts.{Searching, search_turns, search_finds, search_ends}
use Rattle.scanned.specs.Scan.{point_place, point_from, point_at, not_finite}
use Rattle.scanned.specs.Seen.{upto}
use Rattle.scanned.proofs.Prefixes.{upto_long, upto_at}

module _ (file : List ℕ) (u : ℕ) where
  -- none of the first k is
  abbrev pub Finding : ℕ → Type 0
  Finding k = Searching not_finite (upto (point_at file) u) k

  module _ (k i : ℕ) (b : Bool) (h : k < u) (e : i ≡ point_place k) (f : b ≡ not_finite (point_from file i)) where
    test : not_finite (get_or (upto (point_at file) u) k 0) ≡ b
    unfolding point_at
    test = ap not_finite (upto_at (point_at file) u k h ∙ ap (point_from file) (sym e)) ∙ sym f

    inside : k < length (upto (point_at file) u)
    inside = omega (arith, upto_long (point_at file) u)

    pub find_found : b ≡ true → true ≡ some not_finite (upto (point_at file) u)
    find_found g = search_finds not_finite 0 (upto (point_at file) u) k inside (test ∙ g)

    pub find_turns : b ≡ false → Finding k → Finding (k + 1)
    find_turns g s = search_turns not_finite 0 (upto (point_at file) u) k inside (test ∙ g) s

  pub find_ends : (k : ℕ) → u ≤ k → Finding k → false ≡ some not_finite (upto (point_at file) u)
  find_ends k h s = search_ends not_finite 0 (upto (point_at file) u) k (omega (arith, upto_long (point_at file) u)) s
