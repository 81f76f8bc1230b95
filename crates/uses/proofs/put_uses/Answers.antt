-- One face more, to the last. Assumes nothing.
use Rattle.std.proofs.Common.{arith, refl}
use Rattle.uses.proofs.Facing.{face_within, face_turns, face_room}
use Rattle.uses.proofs.put_uses.Goals as goal

pub put_face-requires : goal.put_face-requires
put_face-requires c =
    face_room c.args.corners.now c.args.sizes.now _ _ _ _ _ _ c.loop-k.at c.loop-k.k _ c.requires.sound c.loop-k-test.true c.face_at-face.ensures
    c.requires.columned c.loop-k.invariant

pub overflow_add-at : goal.overflow_add-at
overflow_add-at c =
    omega (
      arith,
      face_within c.args.corners.now c.args.sizes.now _ _ _ _ _ _ c.loop-k.at c.loop-k.k c.requires.sound c.loop-k-test.true c.loop-k.invariant,
      c.requires.sound.fits,
    )

pub loop-k-preserved : goal.loop-k-preserved
loop-k-preserved c =
    face_turns c.args.corners.now c.args.sizes.now _ _ _ _ _ _ _ _ _ _ c.loop-k.k _ _ c.requires.sound c.loop-k-test.true refl c.face_at-face.ensures
    c.put_face.ensures c.loop-k.invariant
