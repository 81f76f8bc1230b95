-- `mesh::face` meets its contract: no face, no shape, or the part that the sizes before k lead to. Assumes nothing.
use Rattle.std.proofs.Common.{sym, ◌∙◌, arith}
use Rattle.mesh.proofs.Numbers.{shaped}
use Rattle.mesh.proofs.Accepted.{sound}
use Rattle.mesh.proofs.Refusals.{refused_not_0, done_0}
use Rattle.mesh.proofs.Faces.{no_face, no_shape, a_face}
use Rattle.mesh.proofs.face.Goals.{then-sizes-k-via-then-sizes-k, then-sizes-k-via-else-sizes-k+then-is_err}
use Rattle.mesh.proofs.face.Goals as goal

pub returns-then-sizes-k : goal.returns-then-sizes-k
returns-then-sizes-k c =
    elim c.then-sizes-k.branch [
      | then-sizes-k-via-then-sizes-k w ↦ no_face _ _ w.if-sizes-k.true
      | then-sizes-k-via-else-sizes-k+then-is_err w ↦ no_shape _ _ w.if-sizes-k.false (λ e. refused_not_0 w.shape.result (sym w.is_err.ensures.value ∙ w.if-is_err.true) (w.shape.ensures ∙ e))
    ]

pub offset-requires : goal.offset-requires
offset-requires c =
    let shape = sym c.shape.ensures ∙ done_0 c.shape.result (sym c.is_err.ensures.value ∙ c.if-is_err.false) in
    (omega arith, (sound _ (shaped _ shape)).few)

pub face_at-requires : goal.face_at-requires
face_at-requires c =
    let shape = sym c.shape.ensures ∙ done_0 c.shape.result (sym c.is_err.ensures.value ∙ c.if-is_err.false) in
    record { sound = sound _ (shaped _ shape); is_face = c.if-sizes-k.false; offset = c.offset.ensures.0 }

pub returns : goal.returns
returns c =
    let shape = sym c.shape.ensures ∙ done_0 c.shape.result (sym c.is_err.ensures.value ∙ c.if-is_err.false) in
    c.face_at.ensures ∙ a_face _ _ c.if-sizes-k.false shape
