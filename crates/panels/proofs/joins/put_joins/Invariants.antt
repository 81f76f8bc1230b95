-- After u uses their joins are written, at most two numbers for each. Assumes nothing.
use Rattle.panels.proofs.Recording.{Recording}
use Rattle.panels.proofs.joins.put_joins.Given as goal

abbrev pub invariant-loop-u : goal.invariant-loop-u
invariant-loop-u l = Recording l.faces l.firsts l.initial.out l.out l.m l.u
