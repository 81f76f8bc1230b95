-- After j corners the first j numbers of the face's column are written. Assumes nothing.
use Rattle.columns.proofs.Using.{face_turns, face_ends}
use Rattle.columns.proofs.put_face.Goals as goal

pub loop-j-preserved : goal.loop-j-preserved
loop-j-preserved c =
    face_turns c.args.normals c.args.which c.args.face c.args.part.now _ _ _ _ _ c.loop-j-test.true c.edge_entry.ensures
    c.loop-j.invariant

pub returns : goal.returns
returns c =
    face_ends c.args.normals c.args.which c.args.face c.args.part.now _ _ _ _ c.loop-j-test.false c.loop-j.invariant
