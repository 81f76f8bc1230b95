-- The number that smoothing returns by what is given alone, before anything is counted: the rows of smoothed's specs/Refusals.antt up to
-- 17, and of 17 what concerns the lists. Assumes nothing.
use Rattle.std.specs.Prelude.{◌||◌, List, [], ◌∷◌, ℕ, Float}
use Rattle.mesh.specs.Mesh.{Mesh}
use Rattle.mesh.specs.Table.{when, first_of, mesh_number}
use Rattle.smoothed.specs.Refusals.{boundless_position, other_face, folded_or_idle, unoriented, unfit_list}

unfoldable pub early_number : Mesh → List Float → List Float → ℕ
early_number m ones twos =
    first_of
    (mesh_number m
    ∷ when (boundless_position m) 7
    ∷ when (other_face m) 15
    ∷ when (folded_or_idle m) 16
    ∷ when (unoriented m) 10
    ∷ when (unfit_list ones || unfit_list twos) 17
    ∷ [])
