-- Document 02, CR 6: 'Old files are read unchanged; an old reader answers a new file with 12 at the first kind 5.' CR 11: 'other faces keep kinds
-- 4 and 5 and get marks of 0.' Both are stated of a reader by its last kind: 4 before CR 6, 5 before CR 11. Proved in proofs/. Assumes nothing.
use Rattle.std.specs.Prelude.{ℕ, zero, suc, ◌+◌, ◌-◌, ◌≤◌, ◌≡◌, Bool, true, false, ◌&&◌, List, [], ◌∷◌, ◌++◌, map, length, ltb, leb}
use Rattle.lists.specs.Lists.{some, joined, each}
use Rattle.little.specs.Little.{half}
use Rattle.mesh.specs.Mesh.{Mesh, mesh_of, Corner, Ring}
use Rattle.mesh.specs.Table.{Lent, short}
use Rattle.records.specs.Lengths.{header_length}
use Rattle.records.specs.Records.{record_from}
use Rattle.reading.specs.Reading.{Reader, reader, nothing, going, take_record, reading_number, panel_mesh}
use Rattle.oldfiles.specs.Before as before

-- the places at which the reader looks for a record, from a reader on; the first argument bounds their number
unfoldable pub places_from : ℕ → List ℕ → Reader → List ℕ
places_from zero s x = []
places_from (suc f) s x = elim (going x) [ true ↦ x.at ∷ places_from f s (take_record s x (record_from s x.at)) | false ↦ [] ]

-- all of them, from the beginning of a file to its end record or its refusal
unfoldable pub record_places : List ℕ → List ℕ
record_places s = places_from (suc (length s)) s (reader 0 0 false nothing)

-- a record of a kind that came after the last one, up to 6, stands at a place: its header is whole, and says so
abbrev pub later_at : ℕ → List ℕ → ℕ → Bool
later_at last_kind s at = leb header_length (length s - at) && (ltb last_kind (half s (at + 2)) && leb (half s (at + 2)) 6)

-- the reader meets one
abbrev pub meets_later : ℕ → List ℕ → Bool
meets_later last_kind s = some (later_at last_kind s) (record_places s)

-- a corner of three numbers with a mark of 0, and a face of them
abbrev pub with_mark0 : Corner → Corner
with_mark0 c = c ++ 0 ∷ []

abbrev pub with_marks0 : Ring → Ring
with_marks0 f = map with_mark0 f

-- the number is what it was, and the mesh, with 0 behind every corner
abbrev pub mesh_now : ℕ → List ℕ → Mesh
mesh_now last_kind s =
    let m = before.panel_mesh last_kind s in
    mesh_of m.positions m.textures m.normals (each joined (map with_marks0 (before.faces_kept last_kind s))) m.sizes

pub record ReadAsBefore (last_kind : ℕ) (s : List ℕ) : Type 0 where
  pub number : (rooms : List Lent) → reading_number rooms s ≡ before.reading_number last_kind rooms s
  pub mesh : panel_mesh s ≡ mesh_now last_kind s

-- the corners of the mesh as it was are those of the faces that were kept
abbrev pub MeshWas : Type 0
MeshWas = (last_kind : ℕ) (s : List ℕ) → (before.panel_mesh last_kind s).corners ≡ each joined (before.faces_kept last_kind s)

-- a file in which the reader meets no record of kind 6 reads exactly as before CR 11, taken or refused; one without kinds 5 and 6 as before CR 6
abbrev pub WithoutKind6 : Type 0
WithoutKind6 = (s : List ℕ) → meets_later 5 s ≡ false → ReadAsBefore 5 s

abbrev pub WithoutKind5 : Type 0
WithoutKind5 = (s : List ℕ) → meets_later 4 s ≡ false → ReadAsBefore 4 s

-- of a file in which it meets one the old reader says 12, where it has room
abbrev pub OldReaderStops : Type 0
OldReaderStops =
    (last_kind : ℕ) (s : List ℕ) (rooms : List Lent) → 4 ≤ last_kind → last_kind ≤ 5 → short rooms ≡ false → meets_later last_kind s ≡ true
    → before.reading_number last_kind rooms s ≡ 12

-- so every file that was taken before is taken now, into the same mesh
abbrev pub TakenStaysTaken : Type 0
TakenStaysTaken = (last_kind : ℕ) (s : List ℕ) → 4 ≤ last_kind → last_kind ≤ 5 → before.reading_number last_kind [] s ≡ 0 → ReadAsBefore last_kind s
