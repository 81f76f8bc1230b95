-- `records::any_mark` meets its contract: a search that has found no mark among the first k corners. Assumes nothing.
use Rattle.records.proofs.Ringing.{mark_found, mark_passed, no_mark}
use Rattle.records.proofs.any_mark.Goals as goal

pub returns-then-word-ne0 : goal.returns-then-word-ne0
returns-then-word-ne0 c = mark_found _ _ _ _ _ c.loop-k-test.true c.word.ensures c.if-word-ne0.true

pub loop-k-preserved : goal.loop-k-preserved
loop-k-preserved c = mark_passed _ _ _ _ _ c.loop-k-test.true c.word.ensures c.if-word-ne0.false c.loop-k.invariant

pub returns : goal.returns
returns c = no_mark _ _ _ _ c.loop-k-test.false c.loop-k.invariant
