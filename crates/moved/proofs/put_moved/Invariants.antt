-- `moved::put_moved` meets its contract, by the laws of `Filling`. Assumes nothing.
use Rattle.std.proofs.Common.{length}
use Rattle.moved.specs.Rows.{moved_at}
use Rattle.moved.proofs.Filling.{Filling}
use Rattle.moved.proofs.put_moved.Given as goal

abbrev pub invariant-loop-v : goal.invariant-loop-v
invariant-loop-v l =
    Filling (moved_at l.positions l.degrees l.first l.second l.pulls l.twos) l.initial.out l.out 0 (length l.degrees) l.v
