-- The steps of the code, and no rules of document 01: how each use's join is written down. Assumes nothing.
use Rattle.std.specs.Prelude.{◌≡◌, cond, List, [], ◌∷◌, ℕ, ◌+◌, ◌*◌, ◌≤◌, ◌<◌, eqb, length, get_or}
use Rattle.lists.specs.Lists.{each, span}
use Rattle.mesh.specs.Limits.{corner_limit}
use Rattle.searching.specs.Joins.{join_numbers}

-- use u joins its face to the face of the first use of its key, unless it is that use
unfoldable pub join_at : List ℕ → List ℕ → ℕ → List ℕ
join_at faces firsts u = cond (eqb (get_or firsts u 0) u) [] (get_or faces u 0 ∷ get_or faces (get_or firsts u 0) 0 ∷ [])

unfoldable pub joins_by : List ℕ → List ℕ → ℕ → List ℕ
joins_by faces firsts u = each (join_at faces firsts) (span 0 u)

-- a face and a first use for each of no more uses than corners, and room for two numbers for each
pub record Joinable (faces firsts out : List ℕ) : Type 0 where
  pub few : length firsts ≤ corner_limit
  pub faces_long : length faces ≡ length firsts
  pub named : (u : ℕ) → u < length firsts → get_or firsts u 0 < length firsts
  pub room : 2 * length firsts ≤ length out

-- use u, and room for two numbers from m on
pub record JoinableAt (faces firsts : List ℕ) (u : ℕ) (out : List ℕ) (m : ℕ) : Type 0 where
  pub few : m ≤ join_numbers
  pub inside : u < length firsts
  pub faces_long : length faces ≡ length firsts
  pub named : get_or firsts u 0 < length firsts
  pub room : m + 2 ≤ length out
