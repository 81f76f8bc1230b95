-- `steps::step` meets its contract: case by case, what is drawn or where it stops. Assumes nothing.
use Rattle.steps.proofs.Known.{able, face_at, end_at, refusal_at, position_stop, position_step, texture_stop, texture_step, normal_stop, normal_step}
use Rattle.steps.proofs.step.Goals as goal

pub returns-then-x-ge-ENTRIES : goal.returns-then-x-ge-ENTRIES
returns-then-x-ge-ENTRIES c = position_stop _ _ _ c.requires _ c.in-Position.ensures c.if-x-ge-ENTRIES.true _ c.stopped.ensures

pub returns-else-x-ge-ENTRIES : goal.returns-else-x-ge-ENTRIES
returns-else-x-ge-ENTRIES c = position_step _ _ _ c.requires _ c.in-Position.ensures c.if-x-ge-ENTRIES.false _ c.put_point.ensures

pub returns-then-x-ge-ENTRIES-2 : goal.returns-then-x-ge-ENTRIES-2
returns-then-x-ge-ENTRIES-2 c =
    texture_stop _ _ _ c.requires _ c.in-Texture.ensures c.if-x-ge-ENTRIES-2.true _ c.stopped-then-x-ge-ENTRIES-2.ensures

pub returns-else-x-ge-ENTRIES-2 : goal.returns-else-x-ge-ENTRIES-2
returns-else-x-ge-ENTRIES-2 c = texture_step _ _ _ c.requires _ c.in-Texture.ensures c.if-x-ge-ENTRIES-2.false _ c.put.ensures

pub returns-then-x-ge-ENTRIES-3 : goal.returns-then-x-ge-ENTRIES-3
returns-then-x-ge-ENTRIES-3 c =
    normal_stop _ _ _ c.requires _ c.in-Normal.ensures c.if-x-ge-ENTRIES-3.true _ c.stopped-then-x-ge-ENTRIES-3.ensures

pub returns-else-x-ge-ENTRIES-3 : goal.returns-else-x-ge-ENTRIES-3
returns-else-x-ge-ENTRIES-3 c = normal_step _ _ _ c.requires _ c.in-Normal.ensures c.if-x-ge-ENTRIES-3.false _ c.put_point-in-Normal.ensures

pub step_face-requires-clause-able : goal.step_face-requires-clause-able
step_face-requires-clause-able c = able _ _ _ c.requires _ c.in-Face.ensures

pub returns-in-Face : goal.returns-in-Face
returns-in-Face c = face_at _ _ _ c.requires _ _ _ _ _ c.in-Face.ensures (c.step_face.ensures _ _ _)

pub returns-in-End : goal.returns-in-End
returns-in-End c = end_at _ _ _ c.requires c.in-End.ensures

pub returns-in-Refused : goal.returns-in-Refused
returns-in-Refused c = refusal_at _ _ _ c.requires _ _ c.in-Refused.ensures c.stopped-in-Refused.ensures
