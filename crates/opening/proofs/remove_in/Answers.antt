-- `remove_in` meets its contract: what the removal leaves stands at the front of the lent lists, and what compaction leaves of that mesh too
-- (`Unfolding`). Assumes nothing.
use Rattle.opening.proofs.Unfolding.{faces_stand, unfolded_corners, unfolded_sizes, unfolded_ready, cleaned_kept}
use native.Mathlib.Omega.{arith}
use Rattle.opening.proofs.remove_in.Goals as goal

pub remove_within-left-requires : goal.remove_within-left-requires
remove_within-left-requires c =
    faces_stand c.requires

pub overflow_mul-k : goal.overflow_mul-k
overflow_mul-k c =
    omega (arith, (unfolded_corners c.requires c.remove_within-left.ensures).within)

pub slice_bounds-compact-end : goal.slice_bounds-compact-end
slice_bounds-compact-end c =
    (unfolded_sizes c.requires c.remove_within-left.ensures).within

pub slice_bounds-compact-end-2 : goal.slice_bounds-compact-end-2
slice_bounds-compact-end-2 c =
    (unfolded_sizes c.requires c.remove_within-left.ensures).long

pub slice_bounds-compact-end-3 : goal.slice_bounds-compact-end-3
slice_bounds-compact-end-3 c =
    (unfolded_corners c.requires c.remove_within-left.ensures).within

pub slice_bounds-compact-end-4 : goal.slice_bounds-compact-end-4
slice_bounds-compact-end-4 c =
    (unfolded_corners c.requires c.remove_within-left.ensures).long

pub compact-requires : goal.compact-requires
compact-requires c =
    unfolded_ready c.requires c.remove_within-left.ensures _ c.unfolded-1.given

pub returns : goal.returns
returns c =
    cleaned_kept c.requires c.remove_within-left.ensures c.compact.ensures
