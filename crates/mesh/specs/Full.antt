-- Lists at the full limits: what a function lends where it cannot know how large a mesh will be. Assumes nothing.
use Rattle.std.specs.Prelude.{◌≡◌, ℕ, List, length, Float}
use Rattle.mesh.specs.Limits.{face_limit, point_numbers, texel_numbers, corner_numbers}

-- the five lists of a mesh: positions, texture points, normals, corners and sizes
pub record AtLimits (p t n : List Float) (c s : List ℕ) : Type 0 where
  pub positions : length p ≡ point_numbers
  pub textures : length t ≡ texel_numbers
  pub normals : length n ≡ point_numbers
  pub corners : length c ≡ corner_numbers
  pub sizes : length s ≡ face_limit

-- its faces alone: corners and sizes
pub record FacesAtLimits (c s : List ℕ) : Type 0 where
  pub corners : length c ≡ corner_numbers
  pub sizes : length s ≡ face_limit
