-- The call of smoothing, as document 02, 'CR 4', has it: what it answers, and what the lent lists hold before and after it. The rules and the
-- number stand in crate smoothed. Assumes nothing.
use Rattle.std.specs.Prelude.{◌≡◌, List, ◌/◌, length, Float}
use Rattle.std.proofs.lemmas.List.Edits.{sets}
use Rattle.mesh.specs.Limits.{width}
use Rattle.mesh.specs.Mesh.{Mesh, position_count}
use Rattle.mesh.specs.Table.{after}
use Rattle.smoothed.specs.Refusals.{Result, result_of, smoothing_number}
use Rattle.smoothing.specs.declared.Smoothed.{Smoothed}

-- a mesh and the two lists of cosines are given. On 0 the positions, corners and sizes of the smoothed mesh stand from the lists' beginning on,
-- room past them is unchanged, and their counts are answered; on any other number nothing is written, and each count is 0
pub record Smoothing (m : Mesh) (ones twos : List Float) (before afterwards : Result) (answer : Smoothed) : Type 0 where
  pub number : answer.number ≡ smoothing_number m ones twos before
  pub position_count_is : answer.positions ≡ after answer.number (position_count (result_of m ones twos)) 0
  pub corner_count_is : answer.corners ≡ after answer.number (length (result_of m ones twos).corners / width) 0
  pub face_count : answer.faces ≡ after answer.number (length (result_of m ones twos).sizes) 0
  pub positions :
      afterwards.positions ≡ after answer.number (sets before.positions 0 (result_of m ones twos).positions) before.positions
  pub corners : afterwards.corners ≡ after answer.number (sets before.corners 0 (result_of m ones twos).corners) before.corners
  pub sizes : afterwards.sizes ≡ after answer.number (sets before.sizes 0 (result_of m ones twos).sizes) before.sizes
