-- The table of numbers returned, as document 01 has it: rows 1 to 5, which every call on a mesh looks at, the room of row 9, and
-- what a call leaves behind by its number. Assumes nothing.
use Rattle.std.specs.Prelude.{ℕ, zero, suc, ◌*◌, ◌%◌, Bool, true, false, not, ◌&&◌, ◌||◌, ltb, List, [], ◌∷◌, map, length, ◌==◌, nat_le, nat_lt}
use Rattle.lists.specs.Lists.{some, sum}
use Rattle.mesh.specs.Limits.{point_width, texel_width, width, least_ring, ring_limit, entry_limit, corner_limit, face_limit}
use Rattle.mesh.specs.Mesh.{Mesh, Corner, position, texture, normal, missing, corners_in, position_count, texture_count, normal_count}

-- a row of the table: its number where its rule says so, else 0
abbrev pub when : Bool → ℕ → ℕ
when true n = n
when false n = 0

-- calls check in ascending order of number: the first number that is given, or 0
abbrev pub first_of : List ℕ → ℕ
first_of [] = 0
first_of (zero ∷ ns) = first_of ns
first_of (suc n ∷ ns) = suc n

-- 1: a list holds more numbers than limit times width, or there are more face sizes than the limit
unfoldable pub over_limits : Mesh → Bool
over_limits m =
    nat_lt (entry_limit * point_width) (length m.positions)
    || nat_lt (entry_limit * texel_width) (length m.textures)
    || nat_lt (entry_limit * point_width) (length m.normals)
    || nat_lt (corner_limit * width) (length m.corners)
    || nat_lt face_limit (length m.sizes)

-- 2: a list's length is no multiple of its width, or the sizes don't add up to the corners
unfoldable pub uneven : Mesh → Bool
uneven m =
    not (length m.positions % point_width == 0)
    || not (length m.textures % texel_width == 0)
    || not (length m.normals % point_width == 0)
    || not (length m.corners % width == 0)
    || not (width * sum m.sizes == length m.corners)

-- 3: a face size lies outside the limits
abbrev pub outside : ℕ → Bool
outside n = nat_lt n least_ring || nat_lt ring_limit n

unfoldable pub misfit : Mesh → Bool
misfit m = some outside m.sizes

-- triangles first, then quadrangles, then larger faces
abbrev pub kind_by : Bool → Bool → ℕ
kind_by true quadrangle = 0
kind_by false true = 1
kind_by false false = 2

abbrev pub kind : ℕ → ℕ
kind n = kind_by (nat_le n 3) (nat_le n 4)

-- whether some number is followed by a smaller one
abbrev pub falls : List ℕ → Bool
falls [] = false
falls (a ∷ []) = false
falls (a ∷ b ∷ l) = nat_lt b a || falls (b ∷ l)

-- 4: sizes aren't grouped as above
unfoldable pub ungrouped : Mesh → Bool
ungrouped m = falls (map kind m.sizes)

-- 5: a position index, or a texture or normal index that isn't missing, is not below its list's count
abbrev pub beyond : ℕ → ℕ → Bool
beyond count i = nat_le count i

abbrev pub beyond_unless_missing : ℕ → ℕ → Bool
beyond_unless_missing count i = not (i == missing) && beyond count i

abbrev pub astray_by : ℕ → ℕ → ℕ → ℕ → ℕ → ℕ → Bool
astray_by p t n position texture normal =
    beyond p position || beyond_unless_missing t texture || beyond_unless_missing n normal

abbrev pub astray_at : Mesh → Corner → Bool
astray_at m c =
    astray_by (position_count m) (texture_count m) (normal_count m) (position c) (texture c) (normal c)

unfoldable pub astray : Mesh → Bool
astray m = some (astray_at m) (corners_in m.corners)

-- rows 1 to 4 in their order, the first of them that is given, and the first of all five
abbrev pub shape_rows : Mesh → List ℕ
shape_rows m = when (over_limits m) 1 ∷ when (uneven m) 2 ∷ when (misfit m) 3 ∷ when (ungrouped m) 4 ∷ []

unfoldable pub shape_number : Mesh → ℕ
shape_number m = first_of (shape_rows m)

unfoldable pub mesh_number : Mesh → ℕ
mesh_number m = first_of (shape_number m ∷ when (astray m) 5 ∷ [])

-- 9: a lent result list is shorter than its stated room
pub record Lent : Type 0 where
  pub room : ℕ
  pub stated : ℕ

abbrev pub lent : ℕ → ℕ → Lent
lent room stated = record { room = room; stated = stated }

unfoldable pub short : List Lent → Bool
short ls = some (λ (l : Lent). ltb l.room l.stated) ls

-- every number but 0 comes with no writing to any list, and each count answered beside it is 0: what there is after a call
-- that answered a number is the new where that is 0, and the old where it is not
module _ {A : Type 0} where
  abbrev pub after : ℕ → A → A → A
  after zero new old = new
  after (suc n) new old = old
