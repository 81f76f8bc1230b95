-- After the entries before p, a look through what is left leads where the whole leads. Assumes nothing.
use Rattle.std.proofs.Common.{get_or, arith}
use Rattle.connected.proofs.Walking.{relisted, other_below, look_turns}
use Rattle.searching.proofs.search.look.Goals as goal

pub visit-marks-requires : goal.visit-marks-requires
visit-marks-requires c =
    let inside = c.requires.entries c.loop-p.p (omega (arith, c.requires.within)) in
    record {
      listing = relisted _ _ _ _ _ _ c.loop-p.invariant.listing;
      face =
          let below = other_below _ c.args.joins.now (get_or c.args.order.now c.loop-p.p 0) c.requires.whole c.requires.below (omega (arith, inside)) in
          omega (arith, c.other_end-x.ensures, below, c.loop-p.invariant.listing.seen_long);
    }

pub loop-p-preserved : goal.loop-p-preserved
loop-p-preserved c =
    look_turns _ _ _ _ _ _ _ _ _ _ _ _ _ _ c.loop-p.invariant _ _ _ _ _ _ c.loop-p-test.true c.requires.within
    c.other_end-x.ensures c.visit-marks.ensures c.visit-marks.auto.flat
