-- columns, then marks, then the pass over the uses
use Rattle.numbering.proofs.Whole.{work_ready, mark_ready, all_numbered}
use Rattle.numbering.proofs.number_edges.Goals as goal

pub mark_firsts-requires : goal.mark_firsts-requires
mark_firsts-requires c = mark_ready _ _ _ _ _ (work_ready _ _ c.requires) _ _ _ c.put_sides.ensures

pub returns : goal.returns
returns c =
    all_numbered _ _ _ _ _ (work_ready _ _ c.requires) _ _ _ c.put_sides.ensures _ c.mark_firsts.ensures _ _ c.number_uses.ensures
