-- `hemlines::put_hems` meets its contract: the lines of the first k hems are put, and k rises to all of them (`Listed`). Assumes nothing.
use Rattle.hemlines.proofs.Listed.{hemming_room, hemming_turns, hemming_ends}
use Rattle.std.proofs.Common.{arith}
use Rattle.hemlines.proofs.put_hems.Goals as goal

pub put_hem-to-requires : goal.put_hem-to-requires
put_hem-to-requires c =
    hemming_room _ _ _ _ _ _ _ _ _ _ (omega arith) c.from.ensures c.from-in-loop-k.ensures c.loop-k.invariant c.requires

pub loop-k-preserved : goal.loop-k-preserved
loop-k-preserved c =
    hemming_turns _ _ _ _ _ _ _ _ _ _ (omega arith) c.from.ensures c.from-in-loop-k.ensures c.loop-k.invariant _ _
    c.put_hem-to.ensures

pub returns : goal.returns
returns c = hemming_ends _ _ _ _ _ _ _ _ (omega arith) c.loop-k.invariant
