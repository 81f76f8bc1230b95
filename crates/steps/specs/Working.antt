-- What the reader's own lists and counts hold while it takes records, for the contracts of the steps and of the reader. Assumes nothing.
use Rattle.std.specs.Prelude.{ℕ, ◌*◌, ◌≤◌, ◌<◌, ◌≡◌, false, List, map, length, take}
use Rattle.lists.specs.Lists.{joined, each}
use Rattle.mesh.specs.Limits.{width, entry_limit, corner_limit, face_limit, point_numbers, texel_numbers, corner_numbers}
use Rattle.mesh.specs.Mesh.{Mesh}
use Rattle.grouping.specs.Push.{corner_count}
use Rattle.records.specs.declared.Record.{Record}
use Rattle.records.specs.declared.Record.TheVariants.{Position, Texture, Normal, Face, End, Refused}
use Rattle.records.specs.Records.{end_of, Placed}
use Rattle.steps.specs.declared.Progress.{Progress}
use Rattle.steps.specs.Taking.{Reader, take_record}

-- the cases of a record, in their order
abbrev pub case_of : Record → ℕ
case_of (Position p) = 0
case_of (Texture t) = 1
case_of (Normal p) = 2
case_of (Face a n m) = 3
case_of End = 4
case_of (Refused n) = 5

-- the counts are within the limits, and the place within the file
pub record Within (size : ℕ) (y : Progress) : Type 0 where
  pub positions : y.positions ≤ entry_limit
  pub textures : y.textures ≤ entry_limit
  pub normals : y.normals ≤ entry_limit
  pub corners : y.corners ≤ corner_limit
  pub faces : 3 * y.faces ≤ y.corners
  pub place : y.at ≤ size

-- the record r stands at the place of a reader that goes on
pub record Able (size : ℕ) (r : Record) (x : Progress) : Type 0 where
  pub within : Within size x
  pub unrefused : x.number ≡ 0
  pub unended : x.ended ≡ false
  pub fits : end_of x.at r ≤ size
  pub placed : Placed x.at r

-- a reader that is stopped with a number
abbrev pub stopped_with : Progress → ℕ → Progress
stopped_with x n = record {
  at = x.at;
  number = n;
  ended = x.ended;
  positions = x.positions;
  textures = x.textures;
  normals = x.normals;
  corners = x.corners;
  faces = x.faces;
}

-- the five lists are at the full limits
pub record Long (l : Mesh) : Type 0 where
  pub positions : length l.positions ≡ point_numbers
  pub textures : length l.textures ≡ texel_numbers
  pub normals : length l.normals ≡ point_numbers
  pub corners : length l.corners ≡ corner_numbers
  pub sizes : length l.sizes ≡ face_limit

-- the counts and the fronts of the five lists are what the reader z has drawn
pub record Holds (z : Reader) (y : Progress) (l : Mesh) : Type 0 where
  pub place : y.at ≡ z.at
  pub refusal : y.number ≡ z.number
  pub end : y.ended ≡ z.ended
  pub positions : take (3 * y.positions) l.positions ≡ z.drawn.positions
  pub textures : take (2 * y.textures) l.textures ≡ z.drawn.textures
  pub normals : take (3 * y.normals) l.normals ≡ z.drawn.normals
  pub corners : take (width * y.corners) l.corners ≡ each joined z.drawn.faces
  pub sizes : take y.faces l.sizes ≡ map length z.drawn.faces
  pub counted : y.corners ≡ corner_count z.drawn.faces

-- what a step asks: a reader that goes on, and its lists
pub record Ready (size : ℕ) (x : Progress) (l : Mesh) : Type 0 where
  pub within : Within size x
  pub unrefused : x.number ≡ 0
  pub unended : x.ended ≡ false
  pub long : Long l

-- and what it leaves: the record r was taken, from x and the lists before to y and the lists afterwards
pub record Stepped (file : List ℕ) (r : Record) (x y : Progress) (before afterwards : Mesh) : Type 0 where
  pub within : Within (length file) y
  pub moved : y.number ≡ 0 → y.ended ≡ false → x.at < y.at
  pub taken : (z : Reader) → Holds z x before → Holds (take_record file z r) y afterwards
