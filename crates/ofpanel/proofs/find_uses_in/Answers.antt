-- `ofpanel::find_uses_in` meets its contract: both columns, then the marks of the sort. Assumes nothing.
use Rattle.ofpanel.proofs.Entries.{lower_room, higher_room, rows_ready, found_done}
use Rattle.ofpanel.proofs.find_uses_in.Goals as goal

pub put_entries-requires : goal.put_entries-requires
put_entries-requires c =
    lower_room _ _ _ _ _ _ _ _ _ c.requires

pub put_entries-requires-2 : goal.put_entries-requires-2
put_entries-requires-2 c =
    higher_room _ _ _ _ _ _ _ _ _ c.requires

pub put_firsts-requires : goal.put_firsts-requires
put_firsts-requires c =
    rows_ready _ _ _ _ _ _ _ _ _ c.requires _ _ c.put_entries.ensures c.put_entries-2.ensures

pub returns : goal.returns
returns c =
    found_done _ _ _ _ _ _ _ _ _ c.requires _ _ c.put_entries.ensures c.put_entries-2.ensures _ c.put_firsts.ensures
