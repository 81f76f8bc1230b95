-- What stands around each of n positions, by the rows that hold the edges: a row of lower ends, a row of higher ends, and a row that says
-- how many wings each edge has. proofs/Rules.antt says that this is what the rules of smoothing say. Assumes nothing.
use Rattle.std.specs.Prelude.{◌≡◌, List, map, ℕ, ◌≤◌, ◌<◌, length, get_or, eqb}
use Rattle.lists.specs.Lists.{only, span}
use Rattle.mesh.specs.Limits.{entry_limit, corner_limit}
use Rattle.mesh.specs.Mesh.{missing}
use Rattle.verdicts.specs.Edges.{Edge}
use Rattle.smoothed.specs.Around.{ends, across}

module _ (ls hs : List ℕ) where
  -- edge number e; the first m edges; those of them that have one wing
  abbrev pub edge_at : ℕ → Edge
  edge_at e = (get_or ls e 0, get_or hs e 0)

  unfoldable pub edges_to : ℕ → List Edge
  edges_to m = map edge_at (span 0 m)

  unfoldable pub hems_to : List ℕ → ℕ → List Edge
  hems_to ws m = map edge_at (only (λ e. eqb 1 (get_or ws e 0)) (span 0 m))

  -- all of them
  abbrev pub edges_in : List Edge
  edges_in = edges_to (length ls)

  abbrev pub hems_in : List ℕ → List Edge
  hems_in ws = hems_to ws (length ls)

-- the other ends of the edges at a position, in the order of the edges
unfoldable pub neighbours_in : List Edge → ℕ → List ℕ
neighbours_in es v = map (across v) (only (ends v) es)

-- for each position: how many neighbours it has; and its neighbour number i, or missing
unfoldable pub degrees_in : List Edge → ℕ → List ℕ
degrees_in es n = map (λ v. length (neighbours_in es v)) (span 0 n)

unfoldable pub chosen_in : ℕ → List Edge → ℕ → List ℕ
chosen_in i es n = map (λ v. get_or (neighbours_in es v) i missing) (span 0 n)

-- edges of n positions, lower end first
pub record EdgeRows (n : ℕ) (ls hs : List ℕ) : Type 0 where
  pub long : length hs ≡ length ls
  pub few : length ls ≤ corner_limit
  pub ordered : (e : ℕ) → e < length ls → get_or ls e 0 < get_or hs e 0
  pub below : (e : ℕ) → e < length ls → get_or hs e 0 < n

-- with the numbers of their wings, and two entries for each position
pub record HemRows (ls hs ws first second : List ℕ) : Type 0 where
  pub edges : EdgeRows (length first) ls hs
  pub wings_long : length ws ≡ length ls
  pub entries : length first ≤ entry_limit
  pub second_long : length second ≡ length first

-- the first and the second neighbour of each position along the edges with one wing
pub record HemsAre (n : ℕ) (es : List Edge) (first second : List ℕ) : Type 0 where
  pub first_is : first ≡ chosen_in 0 es n
  pub second_is : second ≡ chosen_in 1 es n
