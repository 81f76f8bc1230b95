-- What putting positions and corners asks. Assumes nothing.
use Rattle.std.specs.Prelude.{List, ℕ, ◌*◌, ◌≤◌, length, Float}
use Rattle.mesh.specs.Limits.{point_width, width, corner_limit}
use Rattle.scanned.specs.Scan.{point_at}
use Rattle.matching.specs.Steps.{ScanRows}
use Rattle.appearing.specs.Appearing.{Numbered}

-- points that are numbered, and room for so many positions
pub record PositionRoom (file numbers : List ℕ) (positions : List Float) : Type 0 where
  pub rows : ScanRows file (length numbers)
  pub found : ℕ
  pub numbered : Numbered (point_at file) (length numbers) numbers found
  pub room : point_width * found ≤ length positions

-- room for so many corners
pub record CornerRoom (numbers corners : List ℕ) : Type 0 where
  pub few : length numbers ≤ corner_limit
  pub room : width * length numbers ≤ length corners
