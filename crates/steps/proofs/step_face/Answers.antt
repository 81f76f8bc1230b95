-- `steps::step_face` meets its contract: a face is dropped, stops at the limit or is drawn. Assumes nothing.
use Rattle.steps.proofs.Rings.{face_dropped, face_over, face_taken}
use Rattle.steps.proofs.step_face.Goals as goal

pub returns-then-m-lt3 : goal.returns-then-m-lt3
returns-then-m-lt3 c = λ p t n. rw c.corner_place-next.ensures (face_dropped _ _ _ _ _ _ c.requires.able c.if-m-lt3.true)

pub returns-then-more-gt-CORNERS : goal.returns-then-more-gt-CORNERS
returns-then-more-gt-CORNERS c =
    λ p t n. rw c.stopped.ensures (face_over _ _ _ _ _ _ c.requires.able c.if-m-lt3.false c.if-more-gt-CORNERS.true)

pub returns : goal.returns
returns c =
    λ p t n.
    rw (c.corner_place-next.ensures, c.put_ring.ensures)
    (face_taken _ _ _ _ _ _ c.requires.able c.if-m-lt3.false c.if-more-gt-CORNERS.false c.requires.corners c.requires.sizes)
