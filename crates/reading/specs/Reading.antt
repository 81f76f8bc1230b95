-- The reader of the panel file (added): record by record, then what follows the end record. What one record comes to stands in steps'
-- specs/Taking.antt, and is passed on here. Assumes nothing.
use Rattle.std.specs.Prelude.{ℕ, zero, suc, Bool, true, false, not, ◌&&◌, List, [], ◌∷◌, map, length, ltb, eqb}
use Rattle.lists.specs.Lists.{some, joined, each}
use Rattle.mesh.specs.Limits.{face_limit, point_numbers, texel_numbers, corner_numbers}
use Rattle.mesh.specs.Mesh.{Mesh, mesh_of}
use Rattle.mesh.specs.Table.{when, first_of, astray_at, Lent, lent, short}
use Rattle.grouping.specs.Push.{pushed}
use Rattle.records.specs.Records.{record_from}
pub use Rattle.steps.specs.Taking.{Drawn, nothing, Reader, reader, limited, with_position, with_texture, with_normal, with_face, take_face}
unfoldable pub use Rattle.steps.specs.Taking.{take_record}

-- the reading goes on until a refusal or the end record
abbrev pub going : Reader → Bool
going x = not x.ended && eqb x.number 0

-- record by record; the first argument bounds their number: one more than the bytes is enough
unfoldable pub read_from : ℕ → List ℕ → Reader → Reader
read_from zero s x = x
read_from (suc f) s x = elim (going x) [ true ↦ read_from f s (take_record s x (record_from s x.at)) | false ↦ x ]

unfoldable pub read_all : List ℕ → Reader
read_all s = read_from (suc (length s)) s (reader 0 0 false nothing)

-- the mesh that was drawn: faces are grouped as `push` does
unfoldable pub mesh_drawn : Drawn → Mesh
mesh_drawn d = mesh_of d.positions d.textures d.normals (each joined (pushed d.faces)) (map length (pushed d.faces))

-- then 13, bytes follow the end record; then 5, over the corners of all faces that are kept
unfoldable pub finish : List ℕ → Reader → ℕ
finish s x =
    first_of (x.number ∷ when (ltb x.at (length s)) 13 ∷ when (some (astray_at (mesh_drawn x.drawn)) (joined x.drawn.faces)) 5 ∷ [])

-- 9 first: room must be at the full limits
unfoldable pub full_room : ℕ → ℕ → ℕ → ℕ → ℕ → List Lent
full_room p t n c s =
    lent p point_numbers ∷ lent t texel_numbers ∷ lent n point_numbers ∷ lent c corner_numbers ∷ lent s face_limit ∷ []

-- the five lent lists, as they are lent
abbrev pub room_of : Mesh → List Lent
room_of m = full_room (length m.positions) (length m.textures) (length m.normals) (length m.corners) (length m.sizes)

unfoldable pub reading_number : List Lent → List ℕ → ℕ
reading_number rooms s = first_of (when (short rooms) 9 ∷ finish s (read_all s) ∷ [])

-- the mesh of a file
unfoldable pub panel_mesh : List ℕ → Mesh
panel_mesh s = mesh_drawn (read_all s).drawn
