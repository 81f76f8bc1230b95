-- `ofpanel::put_hem_ends` meets its contract: the ends of the first k hems are written, and hem k starts at `from`. Assumes nothing.
use Prim.Native.Nat.{◌-◌}
use lib.ListN.{length}
use Rattle.ofpanel.proofs.Entries.{Ending, ending_begins, ending_within, ending_place, ending_wire, ending_turns, ending_ends}
use native.Mathlib.Omega.{arith}
use Rattle.ofpanel.proofs.put_hem_ends.Given as goal

abbrev pub invariant-loop-k : goal.invariant-loop-k
invariant-loop-k l = Ending l.flat l.edges l.which l.initial.out l.out l.from l.k
