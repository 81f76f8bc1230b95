-- The records of the first entries are stored.
use Rattle.std.proofs.Common.{length, ◌/◌}
use Rattle.written.specs.Parts.{entry_record, first_rows}
use Rattle.saving.proofs.Listing.{Putting}
use Rattle.saving.proofs.bytes.put_entries.Given as goal

abbrev pub invariant-loop-entry : goal.invariant-loop-entry
invariant-loop-entry g l = Putting (entry_record l.kind) (first_rows g.row.W (length l.s / g.row.W) l.s) l.initial.out l.out l.at l.to l.entry-index
