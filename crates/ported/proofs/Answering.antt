-- The numbers of the call, row by row. Assumes nothing.
use mathlib.Core.Path.{◌≡◌, ◌∙◌}
use mathlib.Core.Bool.{true}
use mathlib.Core.List.{[], ◌∷◌}
use Prim.Native.Nat.{ℕ, ◌*◌, ◌≤◌, ◌<◌}
use Rattle.mesh.specs.Mesh.{Mesh}
use Rattle.mesh.specs.Table.{mesh_number, when}
use Rattle.mesh.proofs.After.{two_roomy, first_short, second_short}
use Rattle.mesh.proofs.Numbers.{first_is, first_on, row_given, row_passed}
use Rattle.tracing.specs.Answers.{corner_count}
use Rattle.ported.specs.Answers.{ported_short, ported_number}

module _ (m : Mesh) (flat lengths : ℕ) where
  pub ported_mesh : (mesh_number m ≡ 0 → ⊥) → ported_number m flat lengths ≡ mesh_number m
  unfolding ported_number
  ported_mesh h = first_is (mesh_number m) (when (ported_short m flat lengths) 9 ∷ []) h

  module _ (z : mesh_number m ≡ 0) where
    short_row : ported_short m flat lengths ≡ true → ported_number m flat lengths ≡ 9
    unfolding ported_number
    short_row q = first_on (mesh_number m) (when (ported_short m flat lengths) 9 ∷ []) z ∙ row_given (ported_short m flat lengths) 8 [] q

    pub ported_flat_short : flat < 2 * corner_count m.corners → ported_number m flat lengths ≡ 9
    ported_flat_short h = short_row (first_short flat (2 * corner_count m.corners) lengths (corner_count m.corners) h)

    pub ported_lengths_short : 2 * corner_count m.corners ≤ flat → lengths < corner_count m.corners → ported_number m flat lengths ≡ 9
    ported_lengths_short k h = short_row (second_short flat (2 * corner_count m.corners) lengths (corner_count m.corners) k h)

    pub ported_done : 2 * corner_count m.corners ≤ flat → corner_count m.corners ≤ lengths → ported_number m flat lengths ≡ 0
    unfolding ported_number
    ported_done k h =
        first_on (mesh_number m) (when (ported_short m flat lengths) 9 ∷ []) z
        ∙ row_passed (ported_short m flat lengths) 8 [] (two_roomy flat (2 * corner_count m.corners) lengths (corner_count m.corners) k h)
