-- Compacting a mesh whose corners were renumbered already. m is compacted, then something is done to its faces that leaves corners of
-- them only; u is what the same does to m without compaction. Compacting both gives the same mesh. Assumes nothing.
use mathlib.Core.Path.{◌≡◌, refl, sym, ap, ap₂, ◌∙◌}
use mathlib.Core.Bool.{Bool, true}
use mathlib.Core.List.{List, [], ◌∷◌, map, map-map}
use Prim.Native.Nat.{ℕ, ◌<◌}
use lib.ListN.{length, get_or}
use lib.Ieee.{Float}
use Rattle.lists.specs.Lists.{every, has, joined}
use Rattle.lists.proofs.Mapping.{map_same, every_map, every_all}
use Rattle.lists.proofs.Others.{every_has}
use Rattle.mesh.specs.Limits.{point_width, texel_width}
use Rattle.mesh.specs.Mesh.{Mesh, mesh_of, Corner, Ring, mark, corners_in}
use Rattle.mesh.specs.Table.{mesh_number}
use Rattle.unused.specs.Compaction.{uses_of, renumber, entries, used_positions, used_textures, used_normals, renumbered, compacted}
use Rattle.unused.specs.Working.{column, Pointed}
use Rattle.unused.proofs.Accepting.{pointed_positions, pointed_textures, pointed_normals}
use Rattle.unused.proofs.Columns.{used_small, its_number}
use Rattle.anyorder.proofs.Columns.{number_left, entries_left}

-- ---- the numbers that corners have in a column

module _ (col : Corner → ℕ) where
  -- whether a corner's number stands in the column of l
  abbrev pub number_in : Ring → Corner → Bool
  number_in l c = has (col c) (map col l)

  pub numbers_in : (l : Ring) → every (number_in l) l ≡ true
  numbers_in l = every_all (number_in l) [] l (its_number col l)

  numbers_within : (l k : Ring) → every (number_in l) k ≡ true → (i : ℕ) → has i (map col k) ≡ true → has i (map col l) ≡ true
  numbers_within l k e i h = every_has (λ x. has x (map col l)) i (map col k) (every_map col (λ x. has x (map col l)) k ∙ e) h

-- ---- the three meshes

pub record Recompacted (m u v : Mesh) : Type 0 where
  -- u has m's lists of positions, texture points and normals, v those of m compacted
  pub positions : u.positions ≡ m.positions
  pub textures : u.textures ≡ m.textures
  pub normals : u.normals ≡ m.normals
  pub new_positions : v.positions ≡ (compacted m).positions
  pub new_textures : v.textures ≡ (compacted m).textures
  pub new_normals : v.normals ≡ (compacted m).normals
  -- each corner of u is one of m's: what each of those passes, each of these passes
  pub among : (p : Corner → Bool) → every p (corners_in m.corners) ≡ true → every p (corners_in u.corners) ≡ true
  -- v has u's corners, renumbered as m's are, and u's sizes
  pub renumbers : corners_in v.corners ≡ map (renumbered m) (corners_in u.corners)
  pub sizes : v.sizes ≡ u.sizes

module _ (m : Mesh) (u v : Mesh) (r : Recompacted m u v) where
  -- ---- one column, q, into which the renumbering of a corner puts the new number

  module _ {attrs : List Float} {w q : ℕ} (p : Pointed attrs w m.corners q)
      (e : (c : Corner) → get_or (renumbered m c) q 0 ≡ renumber (uses_of (column q m.corners)) (get_or c q 0)) where
    abbrev col : Corner → ℕ
    col c = get_or c q 0

    abbrev new : ℕ → ℕ
    new i = renumber (uses_of (column q m.corners)) i

    column_within : (i : ℕ) → has i (column q u.corners) ≡ true → has i (column q m.corners) ≡ true
    column_within =
        numbers_within col (corners_in m.corners) (corners_in u.corners)
        (r.among (number_in col (corners_in m.corners)) (numbers_in col (corners_in m.corners)))

    column_new : column q v.corners ≡ map (renumber (uses_of (column q m.corners))) (column q u.corners)
    column_new =
        ap (map col) r.renumbers
        ∙ map-map col (renumbered m) (corners_in u.corners)
        ∙ map_same (λ c. get_or (renumbered m c) q 0) (λ c. new (get_or c q 0)) [] (corners_in u.corners) (λ k h. e (get_or (corners_in u.corners) k []))
        ∙ sym (map-map (renumber (uses_of (column q m.corners))) col (corners_in u.corners))

    number_once :
        (k : ℕ) → k < length (corners_in u.corners)
        → renumber (uses_of (column q v.corners)) (get_or (renumbered m (get_or (corners_in u.corners) k [])) q 0)
        ≡ renumber (uses_of (column q u.corners)) (get_or (get_or (corners_in u.corners) k []) q 0)
    number_once k h =
        let c = get_or (corners_in u.corners) k [] in
        ap₂ (λ (l : List ℕ) (i : ℕ). renumber (uses_of l) i) column_new (e c)
        ∙ number_left (column q m.corners) (column q u.corners) (used_small p) column_within (get_or c q 0)
        (its_number col (corners_in u.corners) k h)

    entries_once :
        entries w (entries w attrs (uses_of (column q m.corners))) (uses_of (column q v.corners))
        ≡ entries w attrs (uses_of (column q u.corners))
    entries_once =
        ap (λ (l : List ℕ). entries w (entries w attrs (uses_of (column q m.corners))) (uses_of l)) column_new
        ∙ entries_left (column q m.corners) (column q u.corners) (used_small p) column_within attrs w p.count p.whole p.within

  -- ---- the three columns

  module _ (z : mesh_number m ≡ 0) where
    corner_once :
        (k : ℕ) → k < length (corners_in u.corners)
        → renumbered v (renumbered m (get_or (corners_in u.corners) k [])) ≡ renumbered u (get_or (corners_in u.corners) k [])
    unfolding renumbered used_positions used_textures used_normals
    corner_once k h =
        let p = number_once (pointed_positions m z) (λ c. refl) k h in
        let t = number_once (pointed_textures m z) (λ c. refl) k h in
        let n = number_once (pointed_normals m z) (λ c. refl) k h in
        λ i. p i ∷ t i ∷ n i ∷ mark (get_or (corners_in u.corners) k []) ∷ []

    corners_once : map (renumbered v) (corners_in v.corners) ≡ map (renumbered u) (corners_in u.corners)
    corners_once =
        ap (map (renumbered v)) r.renumbers
        ∙ map-map (renumbered v) (renumbered m) (corners_in u.corners)
        ∙ map_same (λ c. renumbered v (renumbered m c)) (renumbered u) [] (corners_in u.corners) corner_once

    pub compacted_both : compacted v ≡ compacted u
    unfolding compacted renumbered used_positions used_textures used_normals
    compacted_both =
        let p : entries point_width v.positions (used_positions v) ≡ entries point_width u.positions (used_positions u) =
        ap (λ (l : List Float). entries point_width l (used_positions v)) r.new_positions
        ∙ entries_once (pointed_positions m z) (λ c. refl)
        ∙ ap (λ (l : List Float). entries point_width l (used_positions u)) (sym r.positions) in
        let t : entries texel_width v.textures (used_textures v) ≡ entries texel_width u.textures (used_textures u) =
        ap (λ (l : List Float). entries texel_width l (used_textures v)) r.new_textures
        ∙ entries_once (pointed_textures m z) (λ c. refl)
        ∙ ap (λ (l : List Float). entries texel_width l (used_textures u)) (sym r.textures) in
        let n : entries point_width v.normals (used_normals v) ≡ entries point_width u.normals (used_normals u) =
        ap (λ (l : List Float). entries point_width l (used_normals v)) r.new_normals
        ∙ entries_once (pointed_normals m z) (λ c. refl)
        ∙ ap (λ (l : List Float). entries point_width l (used_normals u)) (sym r.normals) in
        λ i. mesh_of (p i) (t i) (n i) (joined (corners_once i)) (r.sizes i)
