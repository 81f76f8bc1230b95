-- The check of a mesh looks at no mark. Assumes nothing.
use mathlib.Core.Path.{◌≡◌, ap, ◌∙◌, fun_ext}
use mathlib.Core.Bool.{Bool}
use mathlib.Core.List.{[], ◌∷◌}
use Prim.Native.Nat.{ℕ}
use Rattle.lists.specs.Lists.{some}
use Rattle.lists.proofs.Alike.{some_map}
use Rattle.mesh.specs.Mesh.{Mesh, Corner, corners_in}
use Rattle.mesh.specs.Table.{first_of, when, over_limits, uneven, misfit, ungrouped, astray_at, astray, shape_number, mesh_number}
use Rattle.marks.specs.Marks.{remarked, remarked_mesh}
use Rattle.marks.proofs.Remarked.{position_kept, texture_kept, normal_kept, length_remarked, corners_remarked}

module _ (g : ℕ → ℕ) (m : Mesh) where
  pub limits_remarked : over_limits (remarked_mesh g m) ≡ over_limits m
  unfolding over_limits remarked_mesh
  limits_remarked = rw (length_remarked g m.corners)

  uneven_remarked : uneven (remarked_mesh g m) ≡ uneven m
  unfolding uneven remarked_mesh
  uneven_remarked = rw (length_remarked g m.corners)

  astray_at_lem : (c : Corner) → astray_at (remarked_mesh g m) (remarked g c) ≡ astray_at m c
  unfolding remarked_mesh
  astray_at_lem c = rw (position_kept g c, texture_kept g c, normal_kept g c)

  astray_remarked : astray (remarked_mesh g m) ≡ astray m
  unfolding astray remarked_mesh
  astray_remarked =
      ap (some (astray_at (remarked_mesh g m))) (corners_remarked g m.corners)
      ∙ some_map (astray_at (remarked_mesh g m)) (remarked g) (corners_in m.corners)
      ∙ ap (λ (p : Corner → Bool). some p (corners_in m.corners)) (fun_ext astray_at_lem)

  pub shape_remarked : shape_number (remarked_mesh g m) ≡ shape_number m
  unfolding shape_number misfit ungrouped remarked_mesh
  shape_remarked = λ i. first_of (when (limits_remarked i) 1 ∷ when (uneven_remarked i) 2 ∷ when (misfit m) 3 ∷ when (ungrouped m) 4 ∷ [])

  pub number_remarked : mesh_number (remarked_mesh g m) ≡ mesh_number m
  unfolding mesh_number
  number_remarked = λ i. first_of (shape_remarked i ∷ when (astray_remarked i) 5 ∷ [])
