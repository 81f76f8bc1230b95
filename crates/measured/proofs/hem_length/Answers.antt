-- `measured::hem_length` meets its contract: the lengths of the first i edges are added up, and i rises to all of them. Assumes nothing.
use Rattle.std.proofs.Common.{refl}
use native.Mathlib.Omega.{arith}
use Rattle.measured.proofs.Walking.{walk_fits, walk_turns, walk_ends}
use Rattle.measured.proofs.hem_length.Goals as goal

pub overflow_add-long : goal.overflow_add-long
overflow_add-long c =
    record { fits = walk_fits _ _ _ _ _ _ _ _ (omega arith) c.next_of.ensures.0 c.next_of.ensures.1 refl refl c.requires c.edge_length-long.ensures c.loop-i.invariant }

pub loop-i-preserved : goal.loop-i-preserved
loop-i-preserved c =
    walk_turns _ _ _ _ _ _ _ _ (omega arith) c.next_of.ensures.0 c.next_of.ensures.1 refl refl c.requires c.edge_length-long.ensures c.loop-i.invariant

pub returns : goal.returns
returns c = walk_ends _ _ _ _ (omega arith) c.loop-i.invariant
