-- Its three columns, one after the other, written over the corners as they were, are the compacted mesh. Assumes nothing.
use Rattle.compaction.proofs.Loop.{columns_done}
use Rattle.compaction.proofs.compact.Goals as goal

pub returns : goal.returns
returns c =
    columns_done c.requires c.put.ensures c.compact_column-p.ensures c.compact_column-t.ensures c.compact_column-n.ensures
