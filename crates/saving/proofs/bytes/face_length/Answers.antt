-- `saving::bytes::face_length` meets its contract: a header, and the body that its corners make. Assumes nothing.
use mathlib.Core.Path.{ap, ◌∙◌}
use Rattle.mesh.proofs.Corners.{first_chunks-corners_in}
use Rattle.records.specs.Records.{any_mark}
use Rattle.saving.proofs.Cornering.{face_is}
use Rattle.saving.proofs.bytes.face_length.Goals as goal

pub returns : goal.returns
returns c =
    let e = c.as_chunks.ensures.front ∙ first_chunks-corners_in c.args.part.now in
    face_is c.args.part.now _ _ (c.any_mark.ensures ∙ ap any_mark e) (rw c.as_chunks.ensures.front_len at c.body_length.ensures)
