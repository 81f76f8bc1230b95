-- What compaction keeps, put together. Assumes nothing.
use Rattle.unused.specs.Compaction.{renumber, used_positions, compacted}
use Rattle.renumbered.specs.Compacted.{CompactionKeeps}
use Rattle.renumbered.proofs.Points.{points_same}
use Rattle.renumbered.proofs.Compacting.{compaction_points}
use Rattle.renumbered.proofs.Renumbered.{compaction_keeps}
use Rattle.renumbered.proofs.Normals.{compaction_keeps_panels}

pub compaction_keeps_all : CompactionKeeps
compaction_keeps_all m z = record {
  one_verdict = (compaction_keeps m z).one_verdict;
  same_hems = (compaction_keeps m z).same_hems;
  same_wires = (compaction_keeps m z).same_wires;
  same_points = λ v. points_same (renumber (used_positions m)) m (compacted m) v (compaction_points m z) ((compaction_keeps m z).same_wires v);
  same_panels = compaction_keeps_panels m z;
}
