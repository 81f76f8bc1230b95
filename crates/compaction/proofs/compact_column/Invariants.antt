-- The corners before corner k are read. Assumes nothing.
use Rattle.compaction.proofs.Loop.{Going}
use Rattle.compaction.proofs.compact_column.Given as goal

abbrev pub invariant-loop-k : goal.invariant-loop-k
invariant-loop-k l = Going l.attrs l.w l.corners l.q l.initial.fresh l.fresh l.initial.out l.out l.old2new l.used l.k
