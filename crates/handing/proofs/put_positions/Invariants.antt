-- `handing::put_positions` meets its contract: one point more at a time. Assumes nothing.
use lib.ListN.{length}
use Rattle.scanned.specs.Scan.{point_at}
use Rattle.handing.proofs.Putting.{Putting}
use Rattle.handing.proofs.put_positions.Given as goal

abbrev pub invariant-loop-x : goal.invariant-loop-x
invariant-loop-x l = Putting (point_at l.file) (length l.numbers) l.initial.positions l.positions l.x l.found
