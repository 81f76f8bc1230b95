-- The corners of face k, as a part of the flat list of corners. Assumes nothing.
use Rattle.std.specs.Prelude.{◌≡◌, ℕ, ◌*◌, ◌<◌, ◌≤◌, Bool, true, false, ◌&&◌, List, [], length, take, drop, ◌==◌, nat_lt, slice_index}
use Rattle.lists.specs.Lists.{sum}
use Rattle.mesh.specs.Limits.{width, face_limit, corner_numbers}
use Rattle.mesh.specs.Mesh.{Mesh}
use Rattle.mesh.specs.Table.{shape_number}

-- how many corners stand before face k
abbrev pub offset_of : List ℕ → ℕ → ℕ
offset_of s k = sum (take k s)

-- the corners of face k, behind those of the faces before it
unfoldable pub face_of : List ℕ → List ℕ → ℕ → List ℕ
face_of cs s k = take (width * slice_index s k) (drop (width * offset_of s k) cs)

abbrev pub list_if : Bool → List ℕ → List ℕ
list_if true l = l
list_if false l = []

-- the part is empty where k is no face or the lists earn 1 to 4
unfoldable pub face_part : Mesh → ℕ → List ℕ
face_part m k = list_if (nat_lt k (length m.sizes) && shape_number m == 0) (face_of m.corners m.sizes k)

-- sizes that add up to the corners: what taking a face's part rests on
pub record Sound (cs s : List ℕ) : Type 0 where
  pub few : length s ≤ face_limit
  pub fits : length cs ≤ corner_numbers
  pub adds : width * sum s ≡ length cs

-- face k, before which `at` corners stand
pub record Here (cs s : List ℕ) (k at : ℕ) : Type 0 where
  pub sound : Sound cs s
  pub is_face : k < length s
  pub offset : at ≡ offset_of s k
