-- What the writer's inner functions store, for their contracts. Assumes nothing.
use Rattle.std.specs.Prelude.{ℕ, ◌+◌, ◌*◌, ◌/◌, ◌%◌, ◌≤◌, ◌<◌, ◌≡◌, Bool, true, false, List, length, get_or, Float}
use Rattle.std.proofs.lemmas.List.Edits.{sets}
use Rattle.lists.specs.Lists.{each, every}
use Rattle.mesh.specs.Limits.{width, ring_limit}
use Rattle.mesh.specs.Mesh.{corners_in, rings}
use Rattle.mesh.specs.Face.{Sound}
use Rattle.floating.specs.Limits.{finite}
use Rattle.written.specs.Pieces.{wide, count_bytes, coordinate_bytes, index_width}
use Rattle.written.specs.Parts.{entry_record, first_rows, face_record}

-- the bytes are stored from a place on, and r is the place behind them
pub record Stored (bytes o o' : List ℕ) (at r : ℕ) : Type 0 where
  pub file : o' ≡ sets o at bytes
  pub place : r ≡ at + length bytes

-- there is room for them
abbrev pub Fits : List ℕ → List ℕ → ℕ → Type 0
Fits bytes o at = at + length bytes ≤ length o

-- ---- positions, texture points and normals: one rule over the width

-- finite coordinates, an entry, and n entries, with room for their bytes
pub record Coordinates (l : List Float) (o : List ℕ) (at : ℕ) : Type 0 where
  pub are_finite : every finite l ≡ true
  pub fits : Fits (each coordinate_bytes l) o at

pub record AnEntry (kind : ℕ) (l : List Float) (o : List ℕ) (at : ℕ) : Type 0 where
  pub are_finite : every finite l ≡ true
  pub small : length l ≤ 3
  pub fits : Fits (entry_record kind l) o at

pub record Entries (w kind : ℕ) (s : List Float) (o : List ℕ) (at : ℕ) : Type 0 where
  pub are_finite : every finite s ≡ true
  pub some : 0 < w
  pub small : w ≤ 3
  pub fits : Fits (each (entry_record kind) (first_rows w (length s / w) s)) o at

-- ---- faces

-- how many numbers of each corner are said
abbrev pub said_width : Bool → ℕ
said_width true = width
said_width false = index_width

-- a count, corners, a face, and faces, of no more corners than a face may have, with room for their bytes
pub record ACount (marked : Bool) (n : ℕ) (o : List ℕ) (at : ℕ) : Type 0 where
  pub small : n ≤ ring_limit
  pub fits : Fits (count_bytes (wide marked n) n) o at

pub record AFace (part o : List ℕ) (at : ℕ) : Type 0 where
  pub whole : length part % width ≡ 0
  pub small : length part ≤ width * ring_limit
  pub fits : Fits (face_record (corners_in part)) o at

pub record Faces (cs s o : List ℕ) (at : ℕ) : Type 0 where
  pub sound : Sound cs s
  pub small : (k : ℕ) → k < length s → get_or s k 0 ≤ ring_limit
  pub fits : Fits (each face_record (rings s cs)) o at
