-- The steps of the code, and no rules: one point. Assumes nothing.
use Rattle.std.specs.Prelude.{◌≡◌, cond, List, ℕ, ◌+◌, ◌*◌, ◌≤◌, ◌<◌, eqb, length, Float}
use Rattle.std.proofs.lemmas.List.Edits.{sets}
use Rattle.mesh.specs.Limits.{corner_limit}
use Rattle.scanned.specs.Scan.{point_place, point_bytes, coordinates_of}

-- the point is there, and room for it where it is new
pub record NewRoom (file : List ℕ) (x number found : ℕ) (positions : List Float) : Type 0 where
  pub few : x < corner_limit
  pub inside : point_place x + point_bytes ≤ length file
  pub counted : found ≤ x
  pub room : number ≡ found → 3 * found + 3 ≤ length positions

-- it was put where it is new
pub record NewPut (p number found : ℕ) (before after : List Float) (r : ℕ) : Type 0 where
  pub is : after ≡ cond (eqb number found) (sets before (3 * found) (coordinates_of p)) before
  pub count : r ≡ cond (eqb number found) (found + 1) found
