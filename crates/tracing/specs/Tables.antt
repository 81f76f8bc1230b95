-- The two tables that stand for what is left of the hem edges. In them a hem edge is its number, its place in the two lists of starts
-- and ends; a number that no hem edge has says 'none'. Assumes nothing.
use Rattle.std.specs.Prelude.{◌≡◌, List, [], ◌∷◌, ℕ, suc, ◌≤◌, ◌<◌, leb, length, get_or, replicate}
use Rattle.lists.specs.Lists.{keep_if}
use Rattle.mesh.specs.Limits.{largest, entry_limit, corner_limit}
use Rattle.edges.specs.Edges.{Edge}
use Rattle.tracing.specs.Hems.{pairs, EdgeLists}

-- The first table has for each position the number of the first edge that is left there. So what is left of edges that are numbered
-- from k on are those whose number is not below the first at their start.
abbrev pub left_from : List ℕ → ℕ → List Edge → List Edge
left_from firsts k [] = []
left_from firsts k (e ∷ h) = keep_if (leb (get_or firsts e.0 0) k) e (left_from firsts (suc k) h)

unfoldable pub left : List ℕ → List ℕ → List ℕ → List Edge
left starts ends firsts = left_from firsts 0 (pairs starts ends)

-- The second table has for each edge the next with the same start: x is the number of the next after k.
pub record Next (starts : List ℕ) (k x : ℕ) : Type 0 where
  pub later : k < x
  pub there : x < length starts → get_or starts x 0 ≡ get_or starts k 0
  pub least : (j : ℕ) → k < j → j < length starts → get_or starts j 0 ≡ get_or starts k 0 → x ≤ j

-- the tables fit the edges: what is first at a position starts there, and each edge that is left has its next
pub record Linked (starts nexts firsts : List ℕ) : Type 0 where
  pub room : length starts ≤ length nexts
  pub first : (s : ℕ) → s < length firsts → get_or firsts s 0 < length starts → get_or starts (get_or firsts s 0) 0 ≡ s
  pub next : (k : ℕ) → k < length starts → get_or firsts (get_or starts k 0) 0 ≤ k → Next starts k (get_or nexts k 0)

-- the hem edges and their tables, over no more positions than the limit
pub record Stands (starts ends nexts firsts : List ℕ) : Type 0 where
  pub low : length firsts ≤ entry_limit
  pub edges : EdgeLists starts ends (length firsts)
  pub linked : Linked starts nexts firsts

-- starts that the first table has
pub record Startable (starts firsts : List ℕ) : Type 0 where
  pub few : length starts ≤ corner_limit
  pub from : (k : ℕ) → k < length starts → get_or starts k 0 < length firsts

-- the tables before any edge is in them
abbrev pub nobody : ℕ
nobody = largest

unfoldable pub blank : ℕ → List ℕ
blank n = replicate n nobody

pub record BothBlank (nexts firsts : List ℕ) : Type 0 where
  pub nexts_is : nexts ≡ blank corner_limit
  pub firsts_is : firsts ≡ blank entry_limit
