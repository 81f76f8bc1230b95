-- The records of a file by the flat lists of its mesh, for whoever goes through these: positions, texture points and normals by one rule over
-- the width, and faces. Assumes nothing.
use Rattle.std.specs.Prelude.{ℕ, zero, suc, ◌*◌, List, [], ◌∷◌, ◌++◌, length, take, drop, Float}
use Rattle.lists.specs.Lists.{each}
use Rattle.mesh.specs.Mesh.{Ring}
use Rattle.written.specs.Pieces.{coordinate_bytes, a_face, header_of, record_of}

-- the record of an entry with these coordinates
unfoldable pub entry_record : ℕ → List Float → List ℕ
entry_record kind l = header_of (8 * length l) kind ++ each coordinate_bytes l

-- the first n entries of a flat list, w coordinates each
abbrev pub first_rows : ℕ → ℕ → List Float → List (List Float)
first_rows w zero s = []
first_rows w (suc n) s = take w s ∷ first_rows w n (drop w s)

-- the record of a face
unfoldable pub face_record : Ring → List ℕ
face_record f = record_of (a_face f)
