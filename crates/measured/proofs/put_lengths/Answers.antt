-- `measured::put_lengths` meets its contract: the lengths of the first k hems are put, `from` is where hem k starts, and k rises to all of
-- them. Assumes nothing.
use native.Mathlib.Omega.{arith}
use Rattle.measured.proofs.Measuring.{hem_within, hem_walkable, measure_turns, measure_ends}
use Rattle.measured.proofs.put_lengths.Goals as goal

pub overflow_add-end : goal.overflow_add-end
overflow_add-end c =
    omega (arith, hem_within _ _ _ _ c.requires _ _ _ (omega arith) c.loop-k.invariant, c.well_formed.0)

pub offset_bounds-flat-from : goal.offset_bounds-flat-from
offset_bounds-flat-from c =
    omega (arith, hem_within _ _ _ _ c.requires _ _ _ (omega arith) c.loop-k.invariant, c.well_formed.0)

pub slice_bounds-hem_length-end : goal.slice_bounds-hem_length-end
slice_bounds-hem_length-end c =
    omega (arith, hem_within _ _ _ _ c.requires _ _ _ (omega arith) c.loop-k.invariant)

pub hem_length-requires : goal.hem_length-requires
hem_length-requires c =
    hem_walkable _ _ _ _ c.requires _ _ _ (omega arith) c.loop-k.invariant

pub loop-k-preserved : goal.loop-k-preserved
loop-k-preserved c =
    measure_turns _ _ _ _ c.requires _ _ _ (omega arith) c.loop-k.invariant _ _ (omega arith) (c.hem_length.ensures)

pub returns : goal.returns
returns c = measure_ends _ _ _ _ _ _ _ (omega arith) c.loop-k.invariant
