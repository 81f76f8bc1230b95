-- Each pop leaves a search that leads to the same panel. The measure is the faces on the stack
-- and those not listed, and falls by one. Assumes nothing.
use Rattle.connected.proofs.Walking.{restepped}
use Rattle.connected.proofs.Popping.{seek_begins, seek_falls, seek_turns, search_finds}
use Rattle.searching.proofs.search.search.Goals as goal

pub loop-marks-init : goal.loop-marks-init
loop-marks-init c =
    seek_begins _ _ _ _ _ _ _ (restepped _ _ _ _ _ _ _ _ _ _ c.requires.listing.seen_long c.visit-marks.ensures).listing

pub loop-marks-smaller : goal.loop-marks-smaller
loop-marks-smaller c =
    seek_falls _ _ _ c.requires.adjacent _ _ _ _ _ _ _ _ c.loop-marks.invariant c.loop-marks-test.true _ _ _ _ _ c.pop-marks.ensures

pub loop-marks-preserved : goal.loop-marks-preserved
loop-marks-preserved c =
    seek_turns _ _ _ c.requires.adjacent _ _ _ _ _ _ _ _ c.loop-marks.invariant c.loop-marks-test.true _ _ _ _ _ c.pop-marks.ensures c.pop-marks.auto.flat

pub returns : goal.returns
returns c =
    search_finds _ _ _ _ _ c.args.stack.now _ _ _ _ _ _ _ _ _ _ c.requires.new
    (restepped _ _ _ _ _ _ _ _ _ _ c.requires.listing.seen_long c.visit-marks.ensures) c.loop-marks.invariant c.loop-marks-test.false
