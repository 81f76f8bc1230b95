-- `ofpanel::put_hem_ends` meets its contract: the ends of the first k hems are written, and hem k starts at `from`. Assumes nothing.
use Prim.Native.Nat.{◌-◌}
use lib.ListN.{length}
use Rattle.ofpanel.proofs.Entries.{Ending, ending_begins, ending_within, ending_place, ending_wire, ending_turns, ending_ends}
use native.Mathlib.Omega.{arith}
use Rattle.ofpanel.proofs.put_hem_ends.Goals as goal

pub loop-k-init : goal.loop-k-init
loop-k-init c =
    ending_begins _ _ _ _ c.requires

pub overflow_add-end : goal.overflow_add-end
overflow_add-end c =
    let within = ending_within _ _ _ _ c.requires _ _ _ (omega arith) c.loop-k.invariant in
    omega (arith, within, c.well_formed.0)

pub offset_bounds-flat-from : goal.offset_bounds-flat-from
offset_bounds-flat-from c =
    let within = ending_within _ _ _ _ c.requires _ _ _ (omega arith) c.loop-k.invariant in
    omega (arith, within, c.well_formed.0)

pub slice_bounds-hem_end-end : goal.slice_bounds-hem_end-end
slice_bounds-hem_end-end c =
    let within = ending_within _ _ _ _ c.requires _ _ _ (omega arith) c.loop-k.invariant in
    omega (arith, within)

pub hem_end-requires : goal.hem_end-requires
hem_end-requires c =
    (ending_wire _ _ _ _ c.requires _ _ _ (omega arith) c.loop-k.invariant)

pub bounds-out-k : goal.bounds-out-k
bounds-out-k c =
    ending_place _ _ _ _ c.requires _ _ _ (omega arith) c.loop-k.invariant

pub loop-k-preserved : goal.loop-k-preserved
loop-k-preserved c =
    ending_turns _ _ _ _ c.requires _ _ _ (omega arith) c.loop-k.invariant _ _ (omega (arith)) (c.hem_end.ensures)

pub returns : goal.returns
returns c =
    ending_ends _ _ _ _ c.requires _ _ _ (omega arith) c.loop-k.invariant
