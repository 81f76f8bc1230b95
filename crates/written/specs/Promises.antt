-- What is promised of the file of a mesh, and of a mesh that is written and read again (document 02, CR 1): 'Reading what was written gives the same mesh, bit for bit,
-- and writing what was read from a written file gives the same bytes.' No coordinate is excepted: the writer turns down what is not finite
-- (CR 2). Proved in proofs/. Assumes nothing.
use Rattle.std.specs.Prelude.{ℕ, ◌+◌, ◌*◌, ◌≤◌, ◌≡◌, true, false, List, [], ◌++◌, length, take, drop, Float}
use Rattle.mesh.specs.Limits.{width, largest}
use Rattle.mesh.specs.Mesh.{Mesh, mesh_of, mark, corner_at}
use Rattle.mesh.specs.Table.{mesh_number, Lent, short}
use Rattle.floating.specs.Limits.{finite}
use Rattle.floating.specs.Promises.{Doubles}
use Rattle.little.specs.Little.{Bytes}
use Rattle.records.specs.Lengths.{coordinate_length}
use Rattle.records.specs.Records.{coordinate, record_from}
use Rattle.reading.specs.declared.MeshRead.{MeshRead}
use Rattle.reading.specs.Reading.{reading_number, panel_mesh, room_of}
use Rattle.reading.specs.Answer.{PanelRead}
use Rattle.written.specs.declared.Saved.{Saved}
use Rattle.written.specs.Pieces.{Piece, finite_mesh, coordinate_bytes, record_of, file_of, file_length, file_limit}
use Rattle.written.specs.Answer.{PanelWritten}
use Rattle.written.specs.Said.{is_coordinate, sayable, answer_at}

-- ---- the file of a mesh that is accepted

-- the file has as many bytes as its length says
abbrev pub FileIsLong : Type 0
FileIsLong = (m : Mesh) → mesh_number m ≡ 0 → length (file_of m) ≡ file_length m

-- and never more than the largest file
abbrev pub FileFits : Type 0
FileFits = (m : Mesh) → mesh_number m ≡ 0 → file_length m ≤ file_limit

-- ---- one coordinate, anywhere in a file: the bytes of a finite f64 are read as that f64, and what is read as a finite one has just the bytes
-- ---- that stand there. So finite coordinates and their patterns of bits go one to one, and none is lost either way

pub record CoordinateReopens : Type 0 where
  pub written :
      (s : List ℕ) (i : ℕ) (x : Float) (r : List ℕ) → is_coordinate x ≡ true → drop i s ≡ coordinate_bytes x ++ r → coordinate s i ≡ x
  pub read :
      (s : List ℕ) (i : ℕ) → Bytes s → i + coordinate_length ≤ length s → finite (coordinate s i) ≡ true
      → drop i s ≡ coordinate_bytes (coordinate s i) ++ drop (i + coordinate_length) s

-- ---- one record, over all kinds: written anywhere in a file, it is read back there; of a face its place, its count and whether it has a
-- ---- mark, and its corners come back with the mesh

abbrev pub RecordReopens : Type 0
RecordReopens = (s : List ℕ) (at : ℕ) (p : Piece) (r : List ℕ) → sayable p ≡ true → drop at s ≡ record_of p ++ r → record_from s at ≡ answer_at at p

-- ---- a mesh, of the rules

-- the coordinates of a mesh are f64, and its marks are numbers of 32 bits, as those of every lent list are; every other number of a corner is
-- bounded where the mesh is accepted
pub record DoubleMesh (m : Mesh) : Type 0 where
  pub positions : Doubles m.positions
  pub textures : Doubles m.textures
  pub normals : Doubles m.normals
  pub marks : (k : ℕ) → mark (corner_at m.corners k) ≤ largest

-- the file of m is read without refusal, into m itself; so writing what was read gives the same bytes
pub record Reopens (m : Mesh) : Type 0 where
  pub number : (rooms : List Lent) → short rooms ≡ false → reading_number rooms (file_of m) ≡ 0
  pub mesh : panel_mesh (file_of m) ≡ m
  pub bytes : file_of (panel_mesh (file_of m)) ≡ file_of m

-- this holds of every accepted mesh whose coordinates are finite: of every mesh, that is, that the writer takes
abbrev pub MeshReopens : Type 0
MeshReopens = (m : Mesh) → mesh_number m ≡ 0 → DoubleMesh m → finite_mesh m ≡ true → Reopens m

-- and of the mesh of every file of bytes that is read, wherever the file is from
abbrev pub FileReopens : Type 0
FileReopens = (file : List ℕ) → Bytes file → reading_number [] file ≡ 0 → Reopens (panel_mesh file)

-- ---- a mesh, of the calls

-- the mesh that a reader has handed over: the fronts of the five lists, as long as its counts say
abbrev pub handed : MeshRead → Mesh → Mesh
handed answer lists =
    mesh_of
    (take (3 * answer.positions) lists.positions)
    (take (2 * answer.textures) lists.textures)
    (take (3 * answer.normals) lists.normals)
    (take (width * answer.corners) lists.corners)
    (take answer.faces lists.sizes)

-- `saving::write_panel` has answered 0, and `panelfile::read_panel` was given the bytes that it wrote and room at the full limits
pub record Reopening (m : Mesh) (out out' : List ℕ) (saved : Saved) (lists lists' : Mesh) (answer : MeshRead) : Type 0 where
  pub doubles : DoubleMesh m
  pub written : PanelWritten m out out' saved
  pub done : saved.number ≡ 0
  pub read : PanelRead (take saved.length out') lists lists' answer
  pub room : short (room_of lists) ≡ false

-- then the reader answers 0 and hands the same five lists over
pub record HandedBack (m : Mesh) (lists' : Mesh) (answer : MeshRead) : Type 0 where
  pub number : answer.number ≡ 0
  pub mesh : handed answer lists' ≡ m

-- what is asked of the two calls can be had, of every accepted mesh with finite coordinates, a buffer that is long enough and lists with room
abbrev pub CanReopen : Type 0
CanReopen =
    (m : Mesh) (out : List ℕ) (lists : Mesh) → mesh_number m ≡ 0 → DoubleMesh m → finite_mesh m ≡ true
    → file_length m ≤ length out → short (room_of lists) ≡ false
    → (out' : List ℕ) × (saved : Saved) × (lists' : Mesh) × (answer : MeshRead) × Reopening m out out' saved lists lists' answer

abbrev pub CallsReopen : Type 0
CallsReopen =
    (m : Mesh) (out out' : List ℕ) (saved : Saved) (lists lists' : Mesh) (answer : MeshRead)
    → Reopening m out out' saved lists lists' answer
    → HandedBack m lists' answer

-- and writing these again, to a buffer that is as long as the file, gives the same bytes
pub record SameBytes (out' : List ℕ) (saved : Saved) (again' : List ℕ) (resaved : Saved) : Type 0 where
  pub number : resaved.number ≡ 0
  pub long : resaved.length ≡ saved.length
  pub bytes : take resaved.length again' ≡ take saved.length out'

abbrev pub CallsWriteAgain : Type 0
CallsWriteAgain =
    (m : Mesh) (out out' : List ℕ) (saved : Saved) (lists lists' : Mesh) (answer : MeshRead) (again again' : List ℕ) (resaved : Saved)
    → Reopening m out out' saved lists lists' answer
    → PanelWritten (handed answer lists') again again' resaved
    → saved.length ≤ length again
    → SameBytes out' saved again' resaved
