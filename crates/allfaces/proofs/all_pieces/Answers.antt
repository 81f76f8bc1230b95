-- The pieces of the next face and their numbers are written, and there is room for them. Assumes nothing.
use Rattle.std.proofs.Common.{◌∙◌, zero-add, arith}
use Rattle.mesh.proofs.Walking.{walk_fits}
use Rattle.allfaces.proofs.Passing.{removing_begins, removing_room, removing_turns, removing_all}
use Rattle.allfaces.proofs.Telling.{telling_begins, telling_turns, going_room, going_ends}
use Rattle.allfaces.proofs.all_pieces.Goals as goal

pub loop-k-init : goal.loop-k-init
loop-k-init c = record { pieces = removing_begins _ _ _ _; numbers = telling_begins _ _ _ _ }

pub face_pieces-to-requires : goal.face_pieces-to-requires
face_pieces-to-requires c =
    removing_room _ _ _ _ _ _ _ _ _ _ _ _ (omega arith) c.face_at-face.ensures c.requires.ready c.loop-k.invariant.pieces

pub fill_tags-requires : goal.fill_tags-requires
fill_tags-requires c =
    let put = c.face_pieces-to in
    going_room _ _ _ _ _ _ _ _ _ _ c.loop-k.tags _ _ _ _ _ _ (omega arith) c.face_at-face.ensures c.requires.ready c.loop-k.invariant.pieces put.ensures put.auto.out
    put.auto.lens
    c.loop-k.invariant.numbers.long

pub overflow_add-from : goal.overflow_add-from
overflow_add-from c =
    let sound = c.requires.ready.fit.sound in
    omega (arith, walk_fits _ _ _ _ sound (omega arith) c.loop-k.invariant.pieces.walk, sound.fits)

pub loop-k-preserved : goal.loop-k-preserved
loop-k-preserved c =
    let go = c.loop-k.invariant in
    let face = c.face_at-face.ensures in
    let put = c.face_pieces-to in
    record {
      pieces = removing_turns _ _ _ _ _ _ _ _ _ _ _ _ _ _ _ _ (omega arith) face c.requires.ready go.pieces put.ensures put.auto.out put.auto.lens;
      numbers = telling_turns _ _ _ _ _ _ _ _ _ _ (omega arith) face (go.pieces.placed.most ∙ zero-add _) put.ensures.most go.numbers c.fill_tags.ensures;
    }

pub returns-clause-few_corners : goal.returns-clause-few_corners
returns-clause-few_corners c =
    let go = c.loop-k.invariant.pieces in
    omega (arith, removing_all _ _ _ _ _ _ _ _ _ _ c.requires.ready.fit.sound (omega arith) go, go.corners)

pub returns-clause-few_faces : goal.returns-clause-few_faces
returns-clause-few_faces c =
    let go = c.loop-k.invariant.pieces in
    omega (arith, removing_all _ _ _ _ _ _ _ _ _ _ c.requires.ready.fit.sound (omega arith) go, go.faces)

pub returns-clause-left : goal.returns-clause-left
returns-clause-left c = going_ends _ _ _ _ _ _ _ _ _ _ _ _ _ (omega arith) c.loop-k.invariant
