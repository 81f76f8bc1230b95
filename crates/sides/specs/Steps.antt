-- The steps of the code, and no rules: the uses of one face, by the flat list of corners. Assumes nothing.
use Rattle.std.specs.Prelude.{◌≡◌, List, [], ◌∷◌, map, ℕ, ◌+◌, ◌*◌, ◌≤◌, ◌<◌, length, get_or, set}
use Rattle.std.proofs.lemmas.List.Edits.{sets}
use Rattle.mesh.specs.Limits.{width, least_ring, corner_limit, corner_numbers}
use Rattle.verdicts.specs.Edges.{key}
use Rattle.smoothed.specs.Around.{Use}
use Rattle.sides.specs.Sides.{lower_of, higher_of, wing_of}

-- the position of corner j
abbrev pub position_at_lem : List ℕ → ℕ → ℕ
position_at_lem cs j = get_or cs (width * j) 0

-- the uses of a triangle of three positions, and of triangle k
abbrev pub uses_by : ℕ → ℕ → ℕ → List Use
uses_by a b c = (key (b, c), a) ∷ (key (c, a), b) ∷ (key (a, b), c) ∷ []

unfoldable pub uses_at : List ℕ → ℕ → List Use
uses_at cs k = uses_by (position_at_lem cs (least_ring * k)) (position_at_lem cs (least_ring * k + 1)) (position_at_lem cs (least_ring * k + 2))

-- triangle k is there, and room for its uses
pub record FaceRoom (cs : List ℕ) (k : ℕ) (lower higher wing : List ℕ) : Type 0 where
  pub few : length cs ≤ corner_numbers
  pub inside : width * (least_ring * k + least_ring) ≤ length cs
  pub lower_room : least_ring * k + least_ring ≤ length lower
  pub higher_long : length higher ≡ length lower
  pub wing_long : length wing ≡ length lower

-- its uses are written to the columns
pub record FaceSides (us : List Use) (at : ℕ) (lower higher wing lower' higher' wing' : List ℕ) : Type 0 where
  pub lower_is : lower' ≡ sets lower at (map lower_of us)
  pub higher_is : higher' ≡ sets higher at (map higher_of us)
  pub wing_is : wing' ≡ sets wing at (map wing_of us)

-- room for one use, and one use written
pub record UseRoom (at : ℕ) (lower higher wing : List ℕ) : Type 0 where
  pub inside : at < length lower
  pub few : at < corner_limit
  pub higher_long : length higher ≡ length lower
  pub wing_long : length wing ≡ length lower

pub record UseWritten (u : Use) (at : ℕ) (lower higher wing lower' higher' wing' : List ℕ) : Type 0 where
  pub lower_is : lower' ≡ set lower at (lower_of u)
  pub higher_is : higher' ≡ set higher at (higher_of u)
  pub wing_is : wing' ≡ set wing at (wing_of u)
