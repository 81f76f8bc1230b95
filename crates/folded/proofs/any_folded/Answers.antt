-- The face is looked at: it is folded, or none so far is. Assumes nothing.
use Rattle.std.proofs.Common.{arith}
use Rattle.mesh.proofs.Walking.{walk_fits}
use Rattle.folded.proofs.Looking.{looking_face, looking_turns, looking_finds, looking_ends}
use Rattle.folded.proofs.any_folded.Goals as goal

pub is_folded-requires : goal.is_folded-requires
is_folded-requires c = looking_face _ _ _ _ c.requires (omega arith) c.face_at-face.ensures

pub returns-then-is_folded : goal.returns-then-is_folded
returns-then-is_folded c = looking_finds _ _ _ c.loop-k.k _ (omega arith) c.face_at-face.ensures c.is_folded.ensures c.if-is_folded.true

pub overflow_add-from : goal.overflow_add-from
overflow_add-from c = omega (arith, walk_fits _ _ _ _ c.requires.sound (omega arith) c.loop-k.invariant.walk, c.requires.sound.fits)

pub loop-k-preserved : goal.loop-k-preserved
loop-k-preserved c =
    looking_turns _ _ _ _ _ _ (omega arith) c.face_at-face.ensures c.is_folded.ensures c.if-is_folded.false c.loop-k.invariant

pub returns : goal.returns
returns c = looking_ends _ _ _ _ (omega arith) c.loop-k.invariant
