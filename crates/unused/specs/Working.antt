-- What the functions of the crates oneindex and compaction hand to one another; a caller needs none of it. Assumes nothing.
use Rattle.std.specs.Prelude.{ℕ, ◌*◌, ◌%◌, ◌≤◌, ◌<◌, ◌≡◌, false, List, [], ◌∷◌, map, length, get_or, Float}
use Rattle.std.proofs.lemmas.List.Edits.{sets}
use Rattle.lists.specs.Lists.{some, joined}
use Rattle.mesh.specs.Limits.{point_width, texel_width, width, entry_limit}
use Rattle.mesh.specs.Mesh.{Corner, mark, corners_in}
use Rattle.mesh.specs.Table.{beyond_unless_missing}
use Rattle.unused.specs.Compaction.{uses_of, renumber, entries, Result, Compacted}

-- column q of the corners: the positions for 0, the texture points for 1, the normals for 2
abbrev pub column : ℕ → List ℕ → List ℕ
column q cs = map (λ (c : Corner). get_or c q 0) (corners_in cs)

-- a list of entries of width w, into which column q of the corners points
pub record Pointed (attrs : List Float) (w : ℕ) (cs : List ℕ) (q : ℕ) : Type 0 where
  pub least : texel_width ≤ w
  pub most : w ≤ point_width
  pub is_column : q < width
  pub count : ℕ
  pub whole : count * w ≡ length attrs
  pub few : count ≤ entry_limit
  pub within : some (beyond_unless_missing count) (column q cs) ≡ false

-- a corner with its three indices renumbered, each by its column, and its mark
abbrev pub new_corner : List ℕ → Corner → Corner
new_corner cs c =
    renumber (uses_of (column 0 cs)) (get_or c 0 0)
    ∷ renumber (uses_of (column 1 cs)) (get_or c 1 0)
    ∷ renumber (uses_of (column 2 cs)) (get_or c 2 0)
    ∷ mark c
    ∷ []

-- what the loop over the corners rests on
pub record Ready (p t n : List Float) (cs : List ℕ) (before : Result) : Type 0 where
  pub positions : Pointed p point_width cs 0
  pub textures : Pointed t texel_width cs 1
  pub normals : Pointed n point_width cs 2
  pub whole : length cs % width ≡ 0
  pub corner_room : length cs ≤ length before.corners
  pub position_room : length p ≤ length before.positions
  pub texture_room : length t ≤ length before.textures
  pub normal_room : length n ≤ length before.normals

-- and what it gives
pub record Done (p t n : List Float) (cs : List ℕ) (before afterwards : Result) (answer : Compacted) : Type 0 where
  pub number : answer.number ≡ 0
  pub position_count_is : answer.positions ≡ length (uses_of (column 0 cs))
  pub texture_count_is : answer.textures ≡ length (uses_of (column 1 cs))
  pub normal_count_is : answer.normals ≡ length (uses_of (column 2 cs))
  pub corners : afterwards.corners ≡ sets before.corners 0 (joined (map (new_corner cs) (corners_in cs)))
  pub positions : afterwards.positions ≡ sets before.positions 0 (entries point_width p (uses_of (column 0 cs)))
  pub textures : afterwards.textures ≡ sets before.textures 0 (entries texel_width t (uses_of (column 1 cs)))
  pub normals : afterwards.normals ≡ sets before.normals 0 (entries point_width n (uses_of (column 2 cs)))

-- a refusal: its number, and counts of 0
pub record Refused (answer : Compacted) (number : ℕ) : Type 0 where
  pub is : answer.number ≡ number
  pub positions : answer.positions ≡ 0
  pub textures : answer.textures ≡ 0
  pub normals : answer.normals ≡ 0
