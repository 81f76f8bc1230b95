-- The steps of the code, and no rules of document 01: the uses of edge keys as columns of numbers, one number for each use, in
-- the order of the faces and of their edges. specs/Keys.antt has the rules. Assumes nothing.
use Rattle.std.specs.Prelude.{◌≡◌, Bool, cond, List, map, ℕ, zero, suc, ◌+◌, ◌*◌, ◌/◌, ◌%◌, ◌≤◌, ◌<◌, eqb, length, get_or}
use Rattle.lists.specs.Numbers.{next_of}
use Rattle.mesh.specs.Limits.{width, entry_limit, corner_numbers}
use Rattle.mesh.specs.Mesh.{Corner, Ring, missing, corner_at}
use Rattle.mesh.specs.Face.{Sound}
use Rattle.columns.specs.Keys.{Use, face_keys, uses_from}

-- corners whose positions are below 2,048, and whose normals are missing or below 2,048
pub record Keyable (cs s : List ℕ) : Type 0 where
  pub sound : Sound cs s
  pub position : (k : ℕ) → k < length cs / width → get_or cs (width * k) 0 < entry_limit
  pub normal : (k : ℕ) → k < length cs / width → (get_or cs (width * k + 2) 0 ≡ missing → ⊥) → get_or cs (width * k + 2) 0 < entry_limit

-- a normal index as a digit: missing is 0, and any other is one more than its index
unfoldable pub normal_digit : ℕ → ℕ
normal_digit n = cond (eqb n missing) 0 (n + 1)

-- the columns: 0 the lower position, 1 the higher, 2 and 3 the normals there, 4 the face
unfoldable pub chosen : ℕ → ℕ → ℕ → ℕ → ℕ → ℕ → ℕ
chosen zero lower higher n m face = lower
chosen (suc zero) lower higher n m face = higher
chosen (suc (suc zero)) lower higher n m face = n
chosen (suc (suc (suc zero))) lower higher n m face = m
chosen (suc (suc (suc (suc which)))) lower higher n m face = face

abbrev pub entry_of : ℕ → Use → ℕ
entry_of which u = chosen which u.1.0 u.1.1 (normal_digit u.1.2) (normal_digit u.1.3) u.0

unfoldable pub column : Bool → ℕ → List Ring → List ℕ
column normals which fs = map (entry_of which) (uses_from normals 0 fs)

-- the edge from corner j of a face, a part of the list of corners, to the one behind it
unfoldable pub edge_at : List ℕ → ℕ → Corner × Corner
edge_at part j = (corner_at part j, corner_at part (next_of j (length part / width)))

-- the uses of face k
abbrev pub face_uses : Bool → ℕ → Ring → List Use
face_uses normals k f = map (λ key. (k, key)) (face_keys normals f)

-- whole corners, and corner j one of them
pub record AtCorner (part : List ℕ) (j : ℕ) : Type 0 where
  pub whole : length part % width ≡ 0
  pub few : length part ≤ corner_numbers
  pub inside : j < length part / width

-- whole corners, and room for one number for each from `at` on
pub record FaceRoom (part out : List ℕ) (at : ℕ) : Type 0 where
  pub whole : length part % width ≡ 0
  pub few : length part ≤ corner_numbers
  pub room : at + length part / width ≤ length out

-- sizes that add up to the corners, and room for one number for each corner
pub record ColumnRoom (cs s out : List ℕ) : Type 0 where
  pub sound : Sound cs s
  pub room : length out ≡ length cs / width

-- the same for the four digits of the keys
pub record DigitRoom (cs s lower higher n m : List ℕ) : Type 0 where
  pub sound : Sound cs s
  pub lower_long : length lower ≡ length cs / width
  pub higher_long : length higher ≡ length cs / width
  pub n_long : length n ≡ length cs / width
  pub m_long : length m ≡ length cs / width

pub record Digits (normals : Bool) (fs : List Ring) (lower higher n m : List ℕ) : Type 0 where
  pub lower_is : lower ≡ column normals 0 fs
  pub higher_is : higher ≡ column normals 1 fs
  pub n_is : n ≡ column normals 2 fs
  pub m_is : m ≡ column normals 3 fs

-- room for one number for each use
pub record FirstRoom (cs s firsts : List ℕ) : Type 0 where
  pub keyable : Keyable cs s
  pub room : length firsts ≡ length cs / width

-- and rows beside it, of one number for each use
pub record KeyRows (cs s lower higher n m order firsts : List ℕ) : Type 0 where
  pub keyable : Keyable cs s
  pub lower_long : length lower ≡ length cs / width
  pub higher_long : length higher ≡ length cs / width
  pub n_long : length n ≡ length cs / width
  pub m_long : length m ≡ length cs / width
  pub order_long : length order ≡ length cs / width
  pub firsts_long : length firsts ≡ length cs / width
