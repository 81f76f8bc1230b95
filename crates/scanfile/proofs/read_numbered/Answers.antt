-- `scanfile::read_numbered` meets its contract: numbers, then the mesh. Assumes nothing.
use Rattle.scanfile.proofs.Reading.{too_many, all_read}
use Rattle.scanfile.proofs.read_numbered.Goals as goal

pub returns-then-found-gt-ENTRIES : goal.returns-then-found-gt-ENTRIES
returns-then-found-gt-ENTRIES c =
    too_many _ _ _ _ _ c.requires _ _ c.number_points-found.ensures c.if-found-gt-ENTRIES.true _ c.refused.ensures

pub returns : goal.returns
returns c =
    all_read _ _ _ _ _ c.requires _ _ c.number_points-found.ensures c.if-found-gt-ENTRIES.false _ _ _
    c.put_positions.ensures c.put_corners.ensures c.fill_tags.ensures
