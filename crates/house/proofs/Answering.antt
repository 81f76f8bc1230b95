-- The numbers of the call, row by row. Assumes nothing.
use mathlib.Core.Path.{◌≡◌, refl, ◌∙◌}
use mathlib.Core.Bool.{Bool, true, false}
use mathlib.Core.List.{[], ◌∷◌}
use Prim.Native.Nat.{ℕ, ◌≤◌, ◌<◌}
use Rattle.mesh.specs.Mesh.{Mesh}
use Rattle.mesh.specs.Table.{mesh_number, when, first_of}
use Rattle.mesh.proofs.After.{two_roomy, first_short, second_short}
use Rattle.mesh.proofs.Numbers.{first_is, first_on, row_given, row_passed}
use Rattle.tracing.specs.Answers.{corner_count}
use Rattle.house.specs.Answers.{house_short, unwired, house_number}

only_row : (b : Bool) → first_of (when b 10 ∷ []) ≡ when b 10
only_row true = refl
only_row false = refl

module _ (m : Mesh) (flat lengths : ℕ) where
  pub house_mesh : (mesh_number m ≡ 0 → ⊥) → house_number m flat lengths ≡ mesh_number m
  unfolding house_number
  house_mesh h = first_is (mesh_number m) (when (house_short m flat lengths) 9 ∷ when (unwired m) 10 ∷ []) h

  module _ (z : mesh_number m ≡ 0) where
    past_mesh : house_number m flat lengths ≡ first_of (when (house_short m flat lengths) 9 ∷ when (unwired m) 10 ∷ [])
    unfolding house_number
    past_mesh = first_on (mesh_number m) (when (house_short m flat lengths) 9 ∷ when (unwired m) 10 ∷ []) z

    house_short_lem : house_short m flat lengths ≡ true → house_number m flat lengths ≡ 9
    house_short_lem q = past_mesh ∙ row_given (house_short m flat lengths) 8 (when (unwired m) 10 ∷ []) q

    pub house_flat_short : flat < corner_count m.corners → house_number m flat lengths ≡ 9
    house_flat_short h = house_short_lem (first_short flat (corner_count m.corners) lengths (corner_count m.corners) h)

    pub house_lengths_short : corner_count m.corners ≤ flat → lengths < corner_count m.corners → house_number m flat lengths ≡ 9
    house_lengths_short k h = house_short_lem (second_short flat (corner_count m.corners) lengths (corner_count m.corners) k h)

    module _ (k : corner_count m.corners ≤ flat) (h : corner_count m.corners ≤ lengths) where
      past_room : house_number m flat lengths ≡ first_of (when (unwired m) 10 ∷ [])
      past_room =
          past_mesh
          ∙ row_passed (house_short m flat lengths) 8 (when (unwired m) 10 ∷ []) (two_roomy flat (corner_count m.corners) lengths (corner_count m.corners) k h)

      pub house_verdict : house_number m flat lengths ≡ when (unwired m) 10
      house_verdict = past_room ∙ only_row (unwired m)
