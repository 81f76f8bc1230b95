-- The uses of edges, and no rules of document 01: the uses of all edges as three columns, and their order by edge. What an edge is
-- stands in mesh/specs/Edges.antt. Assumes nothing.
use Rattle.std.specs.Prelude.{◌≡◌, Bool, false, cond, List, [], ◌∷◌, map, ℕ, ◌/◌, ◌≤◌, ◌<◌, length, get_or, leb}
use Rattle.std.proofs.lemmas.List.Edits.{sets}
use Rattle.lists.specs.Lists.{span}
use Rattle.mesh.specs.Limits.{width, corner_limit}
use Rattle.mesh.specs.Mesh.{position, corners_in}
use Rattle.mesh.specs.Face.{Sound}
use Rattle.mesh.specs.Edges.{Edge, same, key, ring_edges, Edged}
use Rattle.sorting.specs.Digits.{digit, passed}

-- the columns: a use's lower position, its higher position, and 1 where it runs down, from the higher to the lower
abbrev pub lower_of : Edge → ℕ
lower_of e = (key e).0

abbrev pub higher_of : Edge → ℕ
higher_of e = (key e).1

abbrev pub down_of : Edge → ℕ
down_of e = cond (leb e.0 e.1) 0 1

pub record Columns (es : List Edge) (lowers highers downs : List ℕ) : Type 0 where
  pub lower : lowers ≡ map lower_of es
  pub higher : highers ≡ map higher_of es
  pub down : downs ≡ map down_of es

-- the columns after the uses `new` are written to them from `at` on
pub record Written (new : List Edge) (at : ℕ) (lowers highers downs lowers' highers' downs' : List ℕ) : Type 0 where
  pub lower : lowers' ≡ sets lowers at (map lower_of new)
  pub higher : highers' ≡ sets highers at (map higher_of new)
  pub down : downs' ≡ sets downs at (map down_of new)

-- columns with at least n places
pub record Columned (n : ℕ) (lowers highers downs : List ℕ) : Type 0 where
  pub lower : n ≤ length lowers
  pub higher : n ≤ length highers
  pub down : n ≤ length downs

-- sizes that add up to the corners, and room for a use of each
pub record UseRoom (cs s lowers highers downs : List ℕ) : Type 0 where
  pub sound : Sound cs s
  pub columned : Columned (length cs / width) lowers highers downs

-- rows of n places: the columns, and two for the order
pub record Rooms (n : ℕ) (lowers highers downs first order : List ℕ) : Type 0 where
  pub lower : length lowers ≡ n
  pub higher : length highers ≡ n
  pub down : length downs ≡ n
  pub earlier : length first ≡ n
  pub later : length order ≡ n

-- what it takes to gather the uses of a mesh with n positions
pub record Gatherable (cs s : List ℕ) (n : ℕ) (lowers highers downs first order : List ℕ) : Type 0 where
  pub edged : Edged cs s n
  pub rooms : Rooms (length cs / width) lowers highers downs first order

-- the edges of a face that is given as a part of the flat list of corners
unfoldable pub face_edges : List ℕ → List Edge
face_edges f = ring_edges (map position (corners_in f))

-- the uses sorted by higher, then by lower position
unfoldable pub in_order : ℕ → List ℕ → List ℕ → List ℕ
in_order n lowers highers = passed (digit n lowers ∷ digit n highers ∷ []) (span 0 (length lowers))

-- the columns of the uses es, and the uses in order
pub record Gathered (n : ℕ) (es : List Edge) (lowers highers downs order : List ℕ) : Type 0 where
  pub columns : Columns es lowers highers downs
  pub sorted : order ≡ in_order n lowers highers

-- the sorted uses, each of which the columns have
pub record Ready (lowers highers downs order : List ℕ) : Type 0 where
  pub few : length order ≤ corner_limit
  pub higher : length highers ≡ length lowers
  pub down : length downs ≡ length lowers
  pub known : (j : ℕ) → j < length order → get_or order j 0 < length lowers

-- and i the place of one of them
pub record ReadyAt (lowers highers downs order : List ℕ) (i : ℕ) : Type 0 where
  pub ready : Ready lowers highers downs order
  pub inside : i < length order

module _ (lowers highers : List ℕ) where
  -- the edge, without direction, that use u is a use of
  abbrev pub key_at : ℕ → Edge
  key_at u = (get_or lowers u 0, get_or highers u 0)

  -- whether the use after u is one of the same edge
  unfoldable pub goes_on : ℕ → List ℕ → Bool
  goes_on u [] = false
  goes_on u (v ∷ us) = same (key_at u) (key_at v)
