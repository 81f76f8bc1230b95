-- The steps of the code, and no rules of document 02: rows over places. A place is the number of a use: the uses of all edges are numbered
-- in the order of the faces, corner by corner. turning/specs/Rows.antt has the turning over such rows. Assumes nothing.
use Rattle.std.specs.Prelude.{◌≡◌, Bool, true, false, cond, List, [], ◌∷◌, ◌++◌, map, ℕ, zero, suc, ◌+◌, ◌-◌, ◌≤◌, ◌<◌, eqb, length, get_or, set, drop}
use Rattle.lists.specs.Lists.{span, sum}
use Rattle.lists.specs.Numbers.{next_of}
use Rattle.mesh.specs.Limits.{corner_limit}
use Rattle.uses.specs.Uses.{Ready, goes_on}
use Rattle.turning.specs.Rows.{place_from}

-- ---- the next use in the face

-- of the n places from `at` on, which are those of one face
unfoldable pub ring_row : ℕ → ℕ → List ℕ
ring_row at n = map (λ i. at + next_of i n) (span 0 n)

-- of all places from `at` on, which are those of faces of these sizes
unfoldable pub after_from : ℕ → List ℕ → List ℕ
after_from at [] = []
after_from at (n ∷ s) = ring_row at n ++ after_from (at + n) s

-- of all places
abbrev pub after_row : List ℕ → List ℕ
after_row s = after_from 0 s

-- ---- the place that has the same edge

-- of the use at place i of the order: the use before it, if that is one of the same edge; else the one behind it, if that is; else itself
abbrev pub twin_by : List ℕ → ℕ → Bool → Bool → ℕ
twin_by order i back on = cond back (get_or order (i - 1) 0) (cond on (get_or order (i + 1) 0) (get_or order i 0))

module _ (lowers highers order : List ℕ) where
  -- whether the use at place i of the order is followed by one of the same edge; whether it follows one
  unfoldable pub on_at : ℕ → Bool
  on_at i = goes_on lowers highers (get_or order i 0) (drop (i + 1) order)

  unfoldable pub back_at : ℕ → Bool
  back_at zero = false
  back_at (suc i) = on_at i

  unfoldable pub twin_at : ℕ → ℕ
  twin_at i = twin_by order i (back_at i) (on_at i)

  -- the row after the twins of the first n uses of the order are written to it
  unfoldable pub twinned : ℕ → List ℕ → List ℕ
  twinned zero t = t
  twinned (suc n) t = set (twinned n t) (get_or order n 0) (twin_at n)

-- ---- the hem edge that follows

-- whether u is the place of a hem edge: no other place has its edge
abbrev pub alone : List ℕ → ℕ → Bool
alone twins u = eqb (get_or twins u 0) u

module _ (after twins : List ℕ) where
  -- of the place of a hem edge: from the next use in its face on, until the place of a hem edge is reached. Any other place is its own
  unfoldable pub follow_of : ℕ → ℕ
  follow_of u = cond (alone twins u) (place_from after twins (length twins) (get_or after u 0)) u

  -- of all places
  abbrev pub follow_row : List ℕ
  follow_row = map follow_of (span 0 (length twins))

-- ---- what the functions rest on

-- a row of one number for each corner of faces of these sizes
pub record AfterRoom (s after : List ℕ) : Type 0 where
  pub few : length after ≤ corner_limit
  pub whole : sum s ≡ length after

-- the sorted uses, and a row of one number for each
pub record TwinRoom (lowers highers downs order twins : List ℕ) : Type 0 where
  pub ready : Ready lowers highers downs order
  pub room : length twins ≡ length lowers

-- the place of a use, and whether the one before it and the one behind it are of the same edge: then there is one
pub record Between (order : List ℕ) (i : ℕ) (back on : Bool) : Type 0 where
  pub inside : i < length order
  pub not_first : back ≡ true → 0 < i
  pub not_last : on ≡ true → i + 1 < length order

-- rows whose numbers are places
pub record Crossable (after twins : List ℕ) : Type 0 where
  pub few : length twins ≤ corner_limit
  pub long : length after ≡ length twins
  pub after_below : (u : ℕ) → u < length twins → get_or after u 0 < length twins
  pub twin_below : (u : ℕ) → u < length twins → get_or twins u 0 < length twins

-- and u one of them
pub record CrossableAt (after twins : List ℕ) (u : ℕ) : Type 0 where
  pub rows : Crossable after twins
  pub inside : u < length twins

-- and a further row for what follows
pub record FollowRoom (after twins follows : List ℕ) : Type 0 where
  pub rows : Crossable after twins
  pub room : length follows ≡ length twins

-- what is answered of a place is a place
pub record Found (n r is : ℕ) : Type 0 where
  pub found : r ≡ is
  pub inside : r < n
