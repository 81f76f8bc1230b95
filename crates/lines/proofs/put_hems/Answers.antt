-- `lines::put_hems` meets its contract: the lines of the first wires are put, and `from` is where the next one starts. Assumes nothing.
use mathlib.Core.Path.{refl}
use Rattle.lists.proofs.Listing.{written_long}
use Rattle.lines.proofs.Wiring.{hemming_within, hemming_room, hemming_turns, hemming_ends}
use native.Mathlib.Omega.{arith}
use Rattle.lines.proofs.put_hems.Goals as goal

pub overflow_add-end : goal.overflow_add-end
overflow_add-end c = omega (arith, hemming_within _ _ _ _ _ _ _ _ c.loop-n-test.true c.requires c.loop-n.invariant, c.well_formed.0)

pub offset_bounds-flat-from : goal.offset_bounds-flat-from
offset_bounds-flat-from c = omega (arith, hemming_within _ _ _ _ _ _ _ _ c.loop-n-test.true c.requires c.loop-n.invariant, c.well_formed.0)

pub slice_bounds-put_hem-end : goal.slice_bounds-put_hem-end
slice_bounds-put_hem-end c = hemming_within _ _ _ _ _ _ _ _ c.loop-n-test.true c.requires c.loop-n.invariant

pub put_hem-to-requires : goal.put_hem-to-requires
put_hem-to-requires c = hemming_room _ _ _ _ _ _ _ _ c.loop-n-test.true c.requires c.loop-n.invariant

pub loop-n-preserved : goal.loop-n-preserved
loop-n-preserved c = hemming_turns _ _ _ _ _ _ _ _ _ _ _ c.loop-n-test.true refl c.loop-n.invariant c.put_hem-to.ensures

pub shape_of-out : goal.shape_of-out
shape_of-out c = written_long _ _ _ _ _ c.loop-n.invariant.listing.put

pub returns : goal.returns
returns c = hemming_ends _ _ _ _ _ _ _ _ c.loop-n-test.false c.loop-n.invariant
