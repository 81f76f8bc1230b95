-- The loop of `lists::put`. Assumes nothing.
use Rattle.lists.proofs.Writing.{Copying}
use Rattle.lists.proofs.put.Given as goal

-- The part's first i numbers are copied to place `at`.
abbrev pub invariant-loop-i : goal.invariant-loop-i
invariant-loop-i g l = Copying l.part l.initial.out l.out l.at l.i
