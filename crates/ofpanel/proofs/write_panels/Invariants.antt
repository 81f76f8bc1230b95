-- `ofpanel::write_panels` meets its contract: the panels of the first k hems are written. Assumes nothing.
use Prim.Native.Nat.{◌-◌}
use lib.ListN.{length}
use Rattle.lists.proofs.Writing.{Copying}
use Rattle.ofpanel.specs.Steps.{panels_by}
use Rattle.ofpanel.proofs.Whole.{write_turns, write_ends, face_below}
use native.Mathlib.Omega.{arith}
use Rattle.ofpanel.proofs.write_panels.Given as goal

abbrev pub invariant-loop-k : goal.invariant-loop-k
invariant-loop-k l = Copying (panels_by l.firsts l.faces l.labels) l.initial.out l.out 0 l.k
