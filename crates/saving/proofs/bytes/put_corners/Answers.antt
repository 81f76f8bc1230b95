-- `saving::bytes::put_corners` meets its contract: what is said of the first corners is stored. Assumes nothing.
use Rattle.saving.proofs.Cornering.{words_fit, corners_turn}
use Rattle.saving.proofs.bytes.put_corners.Goals as goal

pub put_words-to-requires : goal.put_words-to-requires
put_words-to-requires c =
    words_fit _ _ _ _ _ _ _ c.loop-corner-test.true _ c.said_width-numbers.ensures (c.told-corners _ c.loop-corner-test.true) c.loop-corner.invariant c.requires

pub loop-corner-preserved : goal.loop-corner-preserved
loop-corner-preserved c =
    corners_turn _ _ _ _ _ _ _ c.loop-corner-test.true _ c.said_width-numbers.ensures (c.told-corners _ c.loop-corner-test.true) c.loop-corner.invariant _ _ c.put_words-to.ensures
