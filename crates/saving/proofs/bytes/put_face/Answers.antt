-- `saving::bytes::put_face` meets its contract: a header, the count and the corners. Assumes nothing.
use Rattle.saving.proofs.Faces.{header_fits, count_fits, corners_fit, face_stored}
use Rattle.saving.proofs.bytes.put_face.Goals as goal

pub put_header-a-requires : goal.put_header-a-requires
put_header-a-requires c = header_fits _ _ _ c.requires _ c.as_chunks.ensures.front

pub put_count-b-requires : goal.put_count-b-requires
put_count-b-requires c =
    count_fits c.args.part.now _ _ c.requires _ c.as_chunks.ensures.front _ c.any_mark-marked.ensures _ _ c.body_length-length.ensures c.face_kind.ensures
    _ _ c.put_header-a.ensures

pub put_corners-requires : goal.put_corners-requires
put_corners-requires c =
    corners_fit c.args.part.now _ _ c.requires _ c.as_chunks.ensures.front _ c.any_mark-marked.ensures _ _ c.body_length-length.ensures c.face_kind.ensures
    _ _ c.put_header-a.ensures _ _ c.put_count-b.ensures

pub returns : goal.returns
returns c =
    face_stored c.args.part.now _ _ c.requires _ c.as_chunks.ensures.front _ c.any_mark-marked.ensures _ _ c.body_length-length.ensures c.face_kind.ensures
    _ _ c.put_header-a.ensures _ _ c.put_count-b.ensures _ _ c.put_corners.ensures
