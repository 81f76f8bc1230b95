-- What the conditions are for. Example 4 of document 01 is Irregular: with its last two faces exchanged it has the same faces,
-- but not the same directions of hem edges, nor the same house wires. A mesh with two faces that have no corner is refused: each
-- would be the other begun elsewhere, and they stand in two panels. Two triangles with one normal and with two have the same positions:
-- under the normals setting they are one panel and two. Assumes nothing.
use mathlib.Core.Path.{◌≡◌, refl, sym, ap, ◌∙◌}
use mathlib.Core.Bool.{Bool, true, false}
use mathlib.Core.List.{List, []}
use Prim.Native.Nat.{ℕ, ◌<◌}
use native.Mathlib.Omega.{arith}
use lib.ListN.{length, get_or}
use Rattle.lists.specs.Lists.{some, together}
use Rattle.lists.proofs.Counting.{clash}
use Rattle.mesh.specs.Mesh.{Mesh, faces}
use Rattle.mesh.specs.Table.{over_limits, uneven, misfit, ungrouped, astray, shape_number, mesh_number}
use Rattle.edges.specs.Edges.{edges_of, same, key, Irregular, verdict, hems}
use Rattle.turning.specs.Turning.{turn_from, onward_in, onward, trail, trails_in, house_wires, house_wires_of}
use Rattle.keys.specs.Keys.{key_of}
use Rattle.searching.specs.Search.{search_from, panels_from}
use Rattle.panels.specs.Panels.{panels}
use Rattle.order.specs.Same.{Turned, Same, face, swap}
use Rattle.order.specs.Demand.{by_position}
use Rattle.order.specs.Pairs.{thrice_used, exchanged, empties, smooth, creased}
use Rattle.order.proofs.Turning.{turned_refl}
use Rattle.order.proofs.Matched.{same_refl}

-- ---- unless the verdict is Irregular

pub both_accepted : (mesh_number thrice_used ≡ 0) × (mesh_number exchanged ≡ 0)
unfolding mesh_number shape_number over_limits uneven misfit ungrouped astray
both_accepted = (refl, refl)

pub exchanged_same : Same (faces thrice_used) (faces exchanged)
unfolding faces
exchanged_same = face (turned_refl _) swap

pub both_irregular : (verdict (edges_of (faces thrice_used)) ≡ Irregular) × (verdict (edges_of (faces exchanged)) ≡ Irregular)
unfolding faces verdict key
both_irregular = (refl, refl)

-- 0 to 1 is among the hem edges of the one, and not of the other, where it is 1 to 0
pub hem_of_the_one : some (same (0, 1)) (hems (edges_of (faces thrice_used))) ≡ true
unfolding faces hems key
hem_of_the_one = refl

pub hem_of_the_other :
    (some (same (0, 1)) (hems (edges_of (faces exchanged))) ≡ false) × (some (same (1, 0)) (hems (edges_of (faces exchanged))) ≡ true)
unfolding faces hems key
hem_of_the_other = (refl, refl)

-- so it is not true that directions are kept whatever the verdict
pub directions_not_kept :
    ((m n : Mesh) → mesh_number m ≡ 0 → mesh_number n ≡ 0 → Same (faces m) (faces n)
    → hems (edges_of (faces m)) ≡ hems (edges_of (faces n))) → ⊥
directions_not_kept kept =
    let e : hems (edges_of (faces thrice_used)) ≡ hems (edges_of (faces exchanged)) =
    kept thrice_used exchanged both_accepted.0 both_accepted.1 exchanged_same in
    clash (sym (ap (some (same (0, 1))) e) ∙ hem_of_the_one) hem_of_the_other.0

-- ---- where it is Oriented or Closed

-- the second position of the first wire
abbrev second : List (List ℕ) → ℕ
second ws = get_or (get_or ws 0 []) 1 0

-- the first house wire of the one goes from 0 to 1, that of the other from 0 to 3
pub wires_of_both : (second (house_wires_of (faces thrice_used)) ≡ 1) × (second (house_wires_of (faces exchanged)) ≡ 3)
unfolding faces hems key house_wires trails_in trail onward onward_in turn_from
wires_of_both = (refl, refl)

-- so it is not true that the house wires are the same whatever the verdict
pub wires_not_kept :
    ((m n : Mesh) → mesh_number m ≡ 0 → mesh_number n ≡ 0 → Same (faces m) (faces n) → house_wires_of (faces m) ≡ house_wires_of (faces n)) → ⊥
wires_not_kept kept =
    let e : second (house_wires_of (faces thrice_used)) ≡ second (house_wires_of (faces exchanged)) =
    ap second (kept thrice_used exchanged both_accepted.0 both_accepted.1 exchanged_same) in
    omega (arith, wires_of_both)

-- ---- two accepted meshes

pub empties_refused : mesh_number empties ≡ 3
unfolding mesh_number shape_number over_limits uneven misfit ungrouped astray
empties_refused = refl

-- each of the two faces is alone in its panel, and together with itself
pub empties_apart :
    (together 0 1 (panels false (faces empties)) ≡ false) × (together 0 0 (panels false (faces empties)) ≡ true)
unfolding faces panels panels_from search_from key_of
empties_apart = (refl, refl)

-- so it is not true of meshes that are refused that any of equal faces may be taken for each other
pub panels_not_kept :
    ((m n : Mesh) → Same (faces m) (faces n)
    → (normals : Bool) (a b c d : ℕ) → a < length (faces m) → c < length (faces n)
    → Turned (get_or (faces m) a []) (get_or (faces n) c [])
    → Turned (get_or (faces m) b []) (get_or (faces n) d [])
    → together a b (panels normals (faces m)) ≡ together c d (panels normals (faces n))) → ⊥
unfolding faces
panels_not_kept kept =
    clash
    (kept empties empties (same_refl (faces empties)) false 0 1 0 0 (omega arith) (omega arith) (turned_refl []) (turned_refl [])
    ∙ empties_apart.1)
    empties_apart.0

-- ---- without the normals setting, where only the positions are the same

pub normals_accepted : (mesh_number smooth ≡ 0) × (mesh_number creased ≡ 0)
unfolding mesh_number shape_number over_limits uneven misfit ungrouped astray
normals_accepted = (refl, refl)

pub same_by_position : Same (by_position (faces smooth)) (by_position (faces creased))
unfolding faces
same_by_position = same_refl (by_position (faces smooth))

pub panels_by_normals : (length (panels true (faces smooth)) ≡ 1) × (length (panels true (faces creased)) ≡ 2)
unfolding faces panels panels_from search_from key_of
panels_by_normals = (refl, refl)

-- so it is not true that the positions decide the panels under the normals setting
pub normals_needed :
    ((m n : Mesh) → mesh_number m ≡ 0 → mesh_number n ≡ 0 → Same (by_position (faces m)) (by_position (faces n))
    → length (panels true (faces m)) ≡ length (panels true (faces n))) → ⊥
normals_needed kept =
    let e : length (panels true (faces smooth)) ≡ length (panels true (faces creased)) =
    kept smooth creased normals_accepted.0 normals_accepted.1 same_by_position in
    omega (arith, panels_by_normals)
