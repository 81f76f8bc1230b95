-- What reading a scan comes to, for whoever goes on with its mesh; what the mesh has to do with the file; and the format both ways.
-- Proved in proofs/. Assumes nothing.
use Rattle.std.specs.Prelude.{◌≡◌, true, List, [], ◌∷◌, ℕ, ◌+◌, ◌*◌, ◌/◌, ◌≤◌, ◌<◌, length, get_or, take, Float}
use Rattle.lists.specs.Lists.{every, each}
use Rattle.lists.specs.FirstUses.{first_uses}
use Rattle.mesh.specs.Limits.{point_width, width, least_ring, face_limit}
use Rattle.mesh.specs.Mesh.{Mesh, missing, position_count}
use Rattle.mesh.specs.Table.{Lent, mesh_number}
use Rattle.floating.specs.Limits.{finite}
use Rattle.floating.specs.Points.{row}
use Rattle.little.specs.Little.{word, Bytes}
use Rattle.scanned.specs.Scan.{header_bytes, coordinate_bytes, scan_count, point_place, point_at, points_in, plain, widened, coordinates_of, scan_mesh, length_number, points_number, scan_number}
use Rattle.scanned.specs.Format.{Triangle, Formed, no_triangle, file_of, points_of, triangles_in}

-- a file is read: it is as long as its count asks, and its points earn nothing
pub record Read (file : List ℕ) : Type 0 where
  pub lengthy : length_number file ≡ 0
  pub pointed : points_number (points_in file) ≡ 0

abbrev pub NumberSaysRead : Type 0
NumberSaysRead = (rooms : List Lent) (file : List ℕ) → scan_number rooms file ≡ 0 → Read file

-- its mesh is accepted, and every coordinate is finite
abbrev pub ReadIsAccepted : Type 0
ReadIsAccepted = (file : List ℕ) → Read file → mesh_number (scan_mesh file) ≡ 0

abbrev pub ReadIsFinite : Type 0
ReadIsFinite = (file : List ℕ) → Read file → every finite (scan_mesh file).positions ≡ true

-- the coordinates of position i, and the position of corner k
abbrev pub position_at_lem : Mesh → ℕ → List Float
position_at_lem m i = row point_width m.positions i

abbrev pub index_at : Mesh → ℕ → ℕ
index_at m k = get_or m.corners (width * k) 0

-- its positions are pairwise different
abbrev pub PositionsDiffer : Type 0
PositionsDiffer =
    (file : List ℕ) → Bytes file → Read file → (i j : ℕ) → i < position_count (scan_mesh file) → j < position_count (scan_mesh file)
    → position_at_lem (scan_mesh file) i ≡ position_at_lem (scan_mesh file) j → i ≡ j

-- every position is used
abbrev pub PositionsUsed : Type 0
PositionsUsed =
    (file : List ℕ) (i : ℕ) → i < position_count (scan_mesh file)
    → (k : ℕ) × (k < length (scan_mesh file).corners / width) × (index_at (scan_mesh file) k ≡ i)

-- corner k has the coordinates of point k of the file, no texture, no normal and no mark; positions are numbered by first appearance, so that its
-- number is no larger than how many different points stand before it
pub record CornerIsPoint (file : List ℕ) (k : ℕ) : Type 0 where
  pub position : position_at_lem (scan_mesh file) (index_at (scan_mesh file) k) ≡ coordinates_of (point_at file k)
  pub texture : get_or (scan_mesh file).corners (width * k + 1) 0 ≡ missing
  pub normal : get_or (scan_mesh file).corners (width * k + 2) 0 ≡ missing
  pub mark : get_or (scan_mesh file).corners (width * k + 3) 0 ≡ 0
  pub first : index_at (scan_mesh file) k ≤ length (first_uses (take k (points_in file)))

abbrev pub CornersArePoints : Type 0
CornersArePoints = (file : List ℕ) (k : ℕ) → k < least_ring * scan_count file → CornerIsPoint file k

-- the coordinates of a point are the f32 that stand in the file, a negative zero read as zero, and nothing is lost
abbrev pub PointsAreWidened : Type 0
PointsAreWidened =
    (file : List ℕ) → Bytes file → (k : ℕ)
    → coordinates_of (point_at file k)
    ≡ widened (plain (word file (point_place k)))
    ∷ widened (plain (word file (point_place k + coordinate_bytes)))
    ∷ widened (plain (word file (point_place k + 2 * coordinate_bytes)))
    ∷ []

-- two files that differ only in the header, in normals, in two-byte fields or in the sign of zeros
pub record Likewise (s t : List ℕ) : Type 0 where
  pub long : length s ≡ length t
  pub count : scan_count s ≡ scan_count t
  pub first : (k : ℕ) → k < least_ring * scan_count s → plain (word s (point_place k)) ≡ plain (word t (point_place k))
  pub second : (k : ℕ) → k < least_ring * scan_count s → plain (word s (point_place k + coordinate_bytes)) ≡ plain (word t (point_place k + coordinate_bytes))
  pub third :
      (k : ℕ) → k < least_ring * scan_count s → plain (word s (point_place k + 2 * coordinate_bytes)) ≡ plain (word t (point_place k + 2 * coordinate_bytes))

-- give the same mesh and the same number
abbrev pub LikewiseRead : Type 0
LikewiseRead = (s t : List ℕ) → Likewise s t → (scan_mesh s ≡ scan_mesh t) × ((rooms : List Lent) → scan_number rooms s ≡ scan_number rooms t)

-- a file of triangles is read as their points, whatever the header, the normals and the two-byte fields are
pub record Points (file : List ℕ) (ts : List Triangle) : Type 0 where
  pub lengthy : length_number file ≡ 0
  pub points : points_in file ≡ each points_of ts

abbrev pub AllFormed : List Triangle → Type 0
AllFormed ts = (k : ℕ) → k < length ts → Formed (get_or ts k no_triangle)

abbrev pub WrittenIsRead : Type 0
WrittenIsRead =
    (header : List ℕ) (ts : List Triangle) → length header ≡ header_bytes → AllFormed ts → length ts ≤ face_limit → Points (file_of header ts) ts

-- and a file that is as long as its count asks is the file of its header and its triangles
pub record Written (file : List ℕ) : Type 0 where
  pub header_long : length (take header_bytes file) ≡ header_bytes
  pub formed : AllFormed (triangles_in file)
  pub few : length (triangles_in file) ≤ face_limit
  pub is : file ≡ file_of (take header_bytes file) (triangles_in file)

abbrev pub ReadIsWritten : Type 0
ReadIsWritten = (file : List ℕ) → Bytes file → length_number file ≡ 0 → Written file
