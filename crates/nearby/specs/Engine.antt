-- What the code works on: the cells of a flat list, each as its place among the numbers from 0, and the tests on them. That these
-- are the rules' own tests is in proofs/Agree.antt. Assumes nothing.
use Rattle.std.specs.Prelude.{Bool, true, false, not, ◌&&◌, List, [], ◌∷◌, map, ◌++◌, ◌≡◌, ℕ, zero, suc, ◌+◌, ◌*◌, ◌-◌, ◌≤◌, ◌<◌, length, get_or, take, Float, Option, Some, None}
use Rattle.std.proofs.Math.Seq.{slice}
use Rattle.lists.specs.Lists.{has, joined}
use Rattle.lists.specs.Numbers.{count_below}
use Rattle.mesh.specs.Limits.{point_width, texel_width, entry_limit}
use Rattle.floating.specs.Points.{row}
use Rattle.floating.specs.Cells.{cell, place, place_most, besides}
use Rattle.floating.specs.Near.{below}
use Rattle.nearby.specs.Walk.{group_from, groups}

-- the cells of all coordinates
unfoldable pub cells_of : Float → List Float → List ℕ
cells_of t s = map (λ x. place (cell t x)) s

-- whether the cells of points i and j differ by at most 2 on every axis
unfoldable pub beside_at : ℕ → List ℕ → ℕ → ℕ → Bool
beside_at w cells i j = besides (row w cells i) (row w cells j)

-- whether they are near besides
unfoldable pub near_by : Float → ℕ → List Float → List ℕ → ℕ → ℕ → Bool
near_by t w s cells i j = beside_at w cells i j && below t (row w s i) (row w s j)

-- cells so small that two more do not leave their range
pub record Small (cells : List ℕ) : Type 0 where
  pub each : (k : ℕ) → k < length cells → get_or cells k 0 ≤ place_most

-- n points of width w, with their cells
pub record Points (w n : ℕ) (cells : List ℕ) : Type 0 where
  pub least : texel_width ≤ w
  pub most : w ≤ point_width
  pub few : n ≤ entry_limit
  pub long : w * n ≡ length cells
  pub small : Small cells

-- the same, with the coordinates
pub record Listed (w n : ℕ) (s : List Float) (cells : List ℕ) : Type 0 where
  pub points : Points w n cells
  pub same : length s ≡ length cells

-- of n points, the first c of `order` are taken, and `seen` has a flag for each
pub record Taken (n : ℕ) (order : List ℕ) (seen : List Bool) (c : ℕ) : Type 0 where
  pub order_room : n ≤ length order
  pub seen_room : n ≤ length seen
  pub counts : c ≡ count_below (λ k. get_or seen k false) n
  pub flags : (k : ℕ) → k < n → get_or seen k false ≡ has k (take c order)
  pub within : (k : ℕ) → k < c → get_or order k 0 < n

-- of the points from `low` to below `from`, r is one more than the highest that passes; 0 where none does
pub record Next (p : ℕ → Bool) (low from r : ℕ) : Type 0 where
  pub after : (k : ℕ) → low ≤ k → r ≤ k → k < from → p k ≡ false
  pub here : 0 < r → (low < r) × (r ≤ from) × (p (r - 1) ≡ true)

-- a point as one more than its number; 0 of none
abbrev pub behind : Option ℕ → ℕ
behind None = 0
behind (Some k) = k + 1

-- whether j is near i, by r, and not taken
unfoldable pub fresh : (ℕ → ℕ → Bool) → List Bool → ℕ → ℕ → Bool
fresh r seen i j = r i j && not (get_or seen j false)

-- what it leaves: `end` points are taken, those of the group behind those that were, and all up to `start`
pub record Walked (r : ℕ → ℕ → Bool) (n : ℕ) (order : List ℕ) (start done : ℕ) (order' : List ℕ) (seen' : List Bool) (end : ℕ) : Type 0 where
  pub taken : Taken n order' seen' end
  pub lowest : (k : ℕ) → k ≤ start → get_or seen' k false ≡ true
  pub list : take end order' ≡ take done order ++ group_from r n (take done order) start

-- ---- groups laid out one after the other in `order`: the place behind the last point of group k stands in `ends`

-- where group k begins
abbrev pub start_of : List ℕ → ℕ → ℕ
start_of ends zero = 0
start_of ends (suc k) = get_or ends k 0

abbrev pub group_at : List ℕ → List ℕ → ℕ → List ℕ
group_at order ends k = slice (start_of ends k) (get_or ends k 0) order

-- the first c groups
unfoldable pub laid_out : List ℕ → List ℕ → ℕ → List (List ℕ)
laid_out order ends zero = []
laid_out order ends (suc k) = laid_out order ends k ++ (group_at order ends k ∷ [])

-- c groups of n points: none is empty, a point of an earlier one is in no later one, and each point is in one
pub record Laid (n : ℕ) (order ends : List ℕ) (c : ℕ) : Type 0 where
  pub few : c ≤ n
  pub rising : (k : ℕ) → k < c → start_of ends k < get_or ends k 0
  pub upto : (k : ℕ) → k < c → get_or ends k 0 ≤ n
  pub within : (k : ℕ) → k < n → get_or order k 0 < n
  pub apart : (k j : ℕ) → k < c → has j (joined (laid_out order ends k)) ≡ true → has j (group_at order ends k) ≡ false
  pub all : (j : ℕ) → j < n → has j (joined (laid_out order ends c)) ≡ true

-- what laying out all groups asks, besides the points: room for a number each
pub record Roomy (n : ℕ) (order ends : List ℕ) : Type 0 where
  pub order_room : n ≤ length order
  pub ends_room : n ≤ length ends

-- and what it leaves: c groups, which are those of r
pub record Components (r : ℕ → ℕ → Bool) (n : ℕ) (order ends : List ℕ) (c : ℕ) : Type 0 where
  pub are : laid_out order ends c ≡ groups r n
  pub laid : Laid n order ends c
