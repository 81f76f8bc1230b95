-- `moved::put_middles` meets its contract, by the laws of `Filling`. Assumes nothing.
use Rattle.std.proofs.Common.{length}
use Rattle.moved.specs.Rows.{middle_at}
use Rattle.moved.proofs.Filling.{Filling}
use Rattle.moved.proofs.put_middles.Given as goal

abbrev pub invariant-loop-e : goal.invariant-loop-e
invariant-loop-e l =
    Filling (middle_at l.positions l.lowers l.highers l.firsts l.seconds l.wings l.degrees l.second l.ones) l.initial.out l.out l.at (length l.lowers) l.e
