-- The place j is the first with i's key, or there is none. Assumes nothing.
use Rattle.std.proofs.Common.{◌∙◌, arith}
use Rattle.lists.proofs.Seeking.{seek_turns, seek_finds, seek_ends}
use Rattle.places.specs.Working.{position_at_lem}
use Rattle.places.proofs.Seeking.{mate_sought, keys_equal, keys_unequal}
use Rattle.places.proofs.mate_at.Goals as goal

pub returns-then-p-position_at : goal.returns-then-p-position_at
returns-then-p-position_at c =
    let same = keys_equal _ _ _ _ c.position_at-p.ensures c.position_at.ensures c.if-p-position_at.true in
    (seek_finds _ _ _ _ (omega arith) same c.loop-j.invariant ∙ mate_sought (position_at_lem c.args.face.now) c.args.row.now c.args.i (omega arith), omega arith)

pub loop-j-preserved : goal.loop-j-preserved
loop-j-preserved c =
    let other = keys_unequal _ _ _ _ c.position_at-p.ensures c.position_at.ensures c.if-p-position_at.false in
    seek_turns _ _ _ _ (omega arith) other c.loop-j.invariant

pub returns : goal.returns
returns c =
    let none = seek_ends _ _ _ _ (omega arith) c.loop-j.invariant ∙ mate_sought (position_at_lem c.args.face.now) c.args.row.now c.args.i (omega arith) in
    omega (arith, none)
