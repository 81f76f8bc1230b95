-- `lines::put_wires` meets its contract: with 0 a line for each wire, with another number the one line. Assumes nothing.
use Rattle.lists.proofs.Listing.{room_as, written_as}
use Rattle.lines.proofs.Wiring.{hem_lines_lem, refused_lines}
use Rattle.lines.proofs.put_wires.Goals as goal

pub put_refused_hems-requires : goal.put_refused_hems-requires
put_refused_hems-requires c = room_as (refused_lines _ _ _ c.if-number-eq0.false) c.requires.room

pub returns-then-number-eq0 : goal.returns-then-number-eq0
returns-then-number-eq0 c = written_as (hem_lines_lem _ _ _ c.if-number-eq0.true) c.put_hems.ensures

pub returns-else-number-eq0 : goal.returns-else-number-eq0
returns-else-number-eq0 c = written_as (refused_lines _ _ _ c.if-number-eq0.false) c.put_refused_hems.ensures
