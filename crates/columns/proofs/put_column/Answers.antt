-- After k faces the numbers of their uses are written, and `at` corners are passed.
-- Assumes nothing.
use Rattle.std.proofs.Common.{arith}
use Rattle.columns.proofs.Using.{fill_turns, fill_ends, fill_room}
use Rattle.columns.proofs.put_column.Goals as goal

pub put_face-requires : goal.put_face-requires
put_face-requires c =
    fill_room _ _ _ _ _ _ _ _ _ c.requires.sound c.loop-k-test.true c.face_at-part.ensures c.requires.room c.loop-k.invariant

pub overflow_add-at : goal.overflow_add-at
overflow_add-at c =
    omega
    (arith, fill_room _ _ _ _ _ _ _ _ _ c.requires.sound c.loop-k-test.true c.face_at-part.ensures c.requires.room c.loop-k.invariant, c.loop-k.invariant.long, c.requires.room, c.requires.sound.fits)

pub loop-k-preserved : goal.loop-k-preserved
loop-k-preserved c =
    fill_turns _ _ _ _ _ _ _ _ _ _ c.requires.sound c.loop-k-test.true c.face_at-part.ensures c.put_face.ensures c.loop-k.invariant

pub returns : goal.returns
returns c = fill_ends _ _ _ _ _ _ _ _ c.requires.sound c.loop-k-test.false c.requires.room c.loop-k.invariant
