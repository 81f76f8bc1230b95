-- After u uses their joins are written, at most two numbers for each. Assumes nothing.
use Rattle.std.proofs.Common.{arith}
use Rattle.panels.proofs.Recording.{record_begins, record_turns, record_ends}
use Rattle.panels.proofs.joins.put_joins.Goals as goal

pub loop-u-init : goal.loop-u-init
loop-u-init c = record_begins _ _ _

pub put_join-m-requires : goal.put_join-m-requires
put_join-m-requires c = record {
  few = omega (arith, c.loop-u.invariant.few, c.requires.few, c.loop-u-test.true);
  inside = c.loop-u-test.true;
  faces_long = c.requires.faces_long;
  named = c.requires.named _ c.loop-u-test.true;
  room = omega (arith, c.loop-u.invariant.few, c.loop-u.invariant.long, c.requires.room, c.loop-u-test.true);
}

pub loop-u-preserved : goal.loop-u-preserved
loop-u-preserved c = record_turns _ _ _ _ _ _ _ _ c.loop-u-test.true c.put_join-m.ensures c.loop-u.invariant

pub returns : goal.returns
returns c = record_ends _ _ _ _ _ _ c.loop-u-test.false c.loop-u.invariant
