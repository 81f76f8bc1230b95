-- The entries are sorted by face, and then all is ready for the panels. Assumes nothing.
use Rattle.connected.proofs.Rows.{entries_ready, panels_ready}
use Rattle.searching.proofs.part_in.Goals as goal

pub sort_ends-requires : goal.sort_ends-requires
sort_ends-requires c =
    entries_ready _ _ _ _ c.requires.divisible c.args.entries.now _ _ c.requires.entries_long c.count_up.ensures c.requires.order_long

pub list_panels-requires : goal.list_panels-requires
list_panels-requires c =
    panels_ready _ _ _ _ c.requires.divisible c.args.entries.now _ _ _ _ _ _ c.requires.entries_long c.count_up.ensures c.requires.order_long
    c.sort_ends.ensures c.sort_ends.auto.ends c.requires.unseen c.requires.stack_long
