-- `saving::bytes::put_entries` meets its contract: the records of the first entries are stored. Assumes nothing.
use Rattle.saving.proofs.Entries.{an_entry, entries_turn, entries_end}
use Rattle.saving.proofs.bytes.put_entries.Goals as goal

pub put_entry-to-requires : goal.put_entry-to-requires
put_entry-to-requires g c = an_entry _ _ _ _ _ _ _ _ _ c.as_chunks.ensures.front c.loop-entry-test.true _ c.entry-item.is c.requires c.loop-entry.invariant

pub loop-entry-preserved : goal.loop-entry-preserved
loop-entry-preserved g c =
    entries_turn _ _ _ _ _ _ _ _ _ c.as_chunks.ensures.front c.loop-entry-test.true _ c.entry-item.is c.requires c.loop-entry.invariant _ _ c.put_entry-to.ensures

pub returns : goal.returns
returns g c = entries_end _ _ _ _ _ _ _ _ _ c.as_chunks.ensures.front c.loop-entry-test.false c.loop-entry.invariant
