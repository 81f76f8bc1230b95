-- `fourfold::put_faces` meets its contract: face after face is written behind the last. Assumes nothing.
use Rattle.fourfold.proofs.Fours.{folding_room, folding_turns, folding_ends}
use Rattle.fourfold.proofs.put_faces.Goals as goal

pub put_four-requires : goal.put_four-requires
put_four-requires c =
    folding_room _ _ _ _ c.requires _ _ c.loop-k-test.true c.loop-k.invariant

pub loop-k-preserved : goal.loop-k-preserved
loop-k-preserved c =
    folding_turns _ _ _ _ c.requires _ _ _ c.loop-k-test.true c.loop-k.invariant c.put_four.ensures

pub returns : goal.returns
returns c =
    folding_ends _ _ _ _ c.requires _ _ c.loop-k-test.false c.loop-k.invariant
