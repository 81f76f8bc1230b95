-- What the split of a row of places asks and tells. Assumes nothing.
use Rattle.std.specs.Prelude.{ℕ, suc, ◌+◌, ◌*◌, ◌%◌, ◌≤◌, ◌<◌, ◌≡◌, Bool, true, List, map, length, get_or, ltb, Option, MatchOption}
use Rattle.std.proofs.lemmas.List.Edits.{sets}
use Rattle.lists.specs.Lists.{every, joined, sum}
use Rattle.mesh.specs.Limits.{width, least_ring, ring_limit, corner_numbers}
use Rattle.mesh.specs.Mesh.{position, corner_at}
use Rattle.splitting.specs.Splitting.{mate_of, first_mated, split_by, pieces_by}

-- the position of the corner at a place of a face, whose corners lie in one list
unfoldable pub position_at_lem : List ℕ → ℕ → ℕ
position_at_lem face p = position (corner_at face p)

-- the face has a corner at place p
abbrev pub is_place : List ℕ → ℕ → Bool
is_place face p = ltb (width * p) (length face)

-- each number of the row is a place of the face
abbrev pub Places : List ℕ → List ℕ → Type 0
Places face row = every (is_place face) row ≡ true

-- the first place after i with i's key: where there is none, `mate_of` gives the number of places or more
abbrev pub Mate : (ℕ → ℕ) → List ℕ → ℕ → Option ℕ → Type 0
Mate key row i found = MatchOption found (length row ≤ mate_of (map key row) i) (λ j. (j ≡ mate_of (map key row) i) × (j < length row))

-- the search has found the places i and j in the row: i is the first that has a mate, and j its mate
pub record Found (key : ℕ → ℕ) (row : List ℕ) (i j : ℕ) : Type 0 where
  pub first : i ≡ first_mated (map key row)
  pub second : j ≡ mate_of (map key row) i
  pub ordered : i < j
  pub within : j < length row

-- each of the first k places has a place behind it with its key
pub record Repeats (key : ℕ → ℕ) (row : List ℕ) (k : ℕ) : Type 0 where
  pub within : (i : ℕ) → i < k → suc i < length row
  pub equal : (i : ℕ) → i < k → key (get_or row i 0) ≡ key (get_or row (suc i) 0)

-- there is room for the pieces of n places behind c places and f pieces: for each of the places, and for as many sizes as a third of
-- the places, rounded down
pub record Room (n : ℕ) (took lens : List ℕ) (c f : ℕ) : Type 0 where
  pub small : n ≤ ring_limit
  pub places : c + n ≤ length took
  pub sizes : least_ring * f + n < least_ring * (length lens + 1)

-- the pieces ps are written to two lists, places and sizes, behind c places and f pieces, and nothing else is; there are c' places
-- and f' pieces then
pub record Taken (ps : List (List ℕ)) (took took' lens lens' : List ℕ) (c f c' f' : ℕ) : Type 0 where
  pub places : took' ≡ sets took c (joined ps)
  pub sizes : lens' ≡ sets lens f (map length ps)
  pub more : c' ≡ c + sum (map length ps)
  pub most : f' ≡ f + length ps

-- the row of places is split: what its pieces take is written, and the row has all rings of the split then, one behind the other
pub record Parted (key : ℕ → ℕ) (row row' took took' lens lens' : List ℕ) (c f c' f' : ℕ) : Type 0 where
  pub rings : row' ≡ joined (split_by key row)
  pub taken : Taken (pieces_by key row) took took' lens lens' c f c' f'

-- the face has whole corners and one at each place, and there is room for these corners behind `at` numbers
pub record Copied (face places out : List ℕ) (at : ℕ) : Type 0 where
  pub whole : length face % width ≡ 0
  pub small : length face ≤ corner_numbers
  pub known : Places face places
  pub room : at + width * length places ≤ length out
