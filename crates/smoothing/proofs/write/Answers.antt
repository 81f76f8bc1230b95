-- each step asks what is there, by the laws of proofs/Writing.antt
use Rattle.std.proofs.Common.{sym}
use Rattle.smoothing.proofs.Writing.{entries_few, entries_long, hems_ask, pulls_ask, moved_asks, middles_ask, both_written, faces_ask, faces_written}
use Rattle.smoothing.proofs.write.Goals as goal

pub slice_bounds-first-end : goal.slice_bounds-first-end
slice_bounds-first-end c = entries_few _ _ _ _ _ _ _ _ c.requires

pub slice_bounds-first-end-2 : goal.slice_bounds-first-end-2
slice_bounds-first-end-2 c = sym (entries_long _ _ _ _ _ _ _ _ c.requires)

pub slice_bounds-second-end : goal.slice_bounds-second-end
slice_bounds-second-end c = entries_few _ _ _ _ _ _ _ _ c.requires

pub slice_bounds-second-end-2 : goal.slice_bounds-second-end-2
slice_bounds-second-end-2 c = sym (entries_long _ _ _ _ _ _ _ _ c.requires)

pub put_hems-requires : goal.put_hems-requires
put_hems-requires c = hems_ask _ _ _ _ _ _ _ _ c.requires

pub put_pulls-requires : goal.put_pulls-requires
put_pulls-requires c = pulls_ask _ _ _ _ _ _ _ _ c.requires _

pub put_moved-requires : goal.put_moved-requires
put_moved-requires c = moved_asks _ _ _ _ _ _ _ _ c.requires _ _ _ c.put_hems.ensures c.put_pulls.ensures

pub put_middles-requires : goal.put_middles-requires
put_middles-requires c = middles_ask _ _ _ _ _ _ _ _ c.requires _ _ _ c.put_hems.ensures c.put_pulls.ensures _ c.put_moved.ensures

pub put_faces-requires : goal.put_faces-requires
put_faces-requires c = faces_ask _ _ _ _ _ _ _ _ c.requires

pub returns : goal.returns
returns c = record {
  positions_are = both_written _ _ _ _ _ _ _ _ c.requires _ _ _ c.put_hems.ensures c.put_pulls.ensures _ _ c.put_moved.ensures c.put_middles.ensures;
  corners_are = faces_written _ _ _ _ _ _ _ _ c.requires _ c.put_faces.ensures;
}
