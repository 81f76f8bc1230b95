-- What the measuring of hems rests on, and no rules of document 02. Assumes nothing.
use Rattle.std.specs.Prelude.{List, ℕ, ◌≤◌, ◌<◌, length, get_or, ℤ}
use Rattle.lists.specs.Lists.{sum}
use Rattle.mesh.specs.Limits.{corner_limit}
use Rattle.hemlist.specs.Working.{Placed}

-- hems as a flat list of positions and a list of their numbers of edges, not more than a mesh has corners; each position has its point; and
-- room for a length of each hem
pub record Measurable (flat edges : List ℕ) (cs : List ℤ) (out : List ℕ) : Type 0 where
  pub within : sum edges ≤ length flat
  pub few : length flat ≤ corner_limit
  pub few_hems : length edges ≤ corner_limit
  pub placed : (i : ℕ) → i < length flat → Placed cs (get_or flat i 0)
  pub room : length edges ≤ length out

-- the positions of one hem, not more than a mesh has corners, each with its point
pub record Walkable (wire : List ℕ) (cs : List ℤ) : Type 0 where
  pub few : length wire ≤ corner_limit
  pub placed : (i : ℕ) → i < length wire → Placed cs (get_or wire i 0)

-- no edge is longer: the whole root of three times 2,000,000 squared
abbrev pub longest_edge : ℕ
longest_edge = 3464101
