-- The test of what removal leaves is equality; a ring that falls to four corners keeps the ring's rule, and the triangles that folded
-- faces leave go before a quadrangle with their numbers, both by computation. Assumes nothing.
use mathlib.Core.Path.{refl}
use mathlib.Core.List.{[], ◌∷◌}
use lib.Dec.{T}
use Rattle.lists.specs.Numbers.{seek}
use Rattle.grouping.specs.Push.{pushed}
use Rattle.grouping.specs.Tags.{pushed_beside}
use Rattle.splitting.specs.Splitting.{mate_of, first_mated, folded_by, split_by_in, split_by, pieces_by}
use Rattle.folding.specs.Folding.{triangle_pieces, fold_of, quadrangle_pieces, pieces}
use Rattle.removal.specs.Origins.{numbered, origins_of}
use Rattle.removal.specs.Folded.{removed}
use Rattle.lists.proofs.Same.{rings_equal}
use Rattle.removal.specs.Examples.{leaves, LeavesIs, fallen_to_four, DrawnFaces}

pub falls_to_four : T fallen_to_four
unfolding leaves removed pushed pieces pieces_by split_by split_by_in folded_by first_mated mate_of seek
falls_to_four = tt

pub drawn_faces : DrawnFaces
unfolding origins_of numbered pushed_beside pieces pieces_by split_by split_by_in folded_by first_mated mate_of quadrangle_pieces fold_of triangle_pieces seek
drawn_faces = refl

pub leaves_is : LeavesIs
unfolding leaves
leaves_is f fs = rings_equal (removed (f ∷ [])) fs
