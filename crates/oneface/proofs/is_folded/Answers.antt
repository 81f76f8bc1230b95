-- A quadrangle is folded where the decision on it is not that it stays. Assumes nothing.
use Rattle.std.proofs.Common.{sym, ap, ◌∙◌, not, arith}
use Rattle.folding.proofs.Pieces.{changes}
use Rattle.oneface.proofs.OneFace.{quad_tells, changed}
use Rattle.oneface.proofs.is_folded.Goals as goal
use Rattle.oneface.proofs.is_folded.Goals.{in-Stays, in_default-matches}

pub returns-after-matches : goal.returns-after-matches
returns-after-matches c =
    let tells = quad_tells c.args.face.now c.corners_of-in-4.result _ (omega arith) c.corners_of-in-4.ensures c.degenerate_quadrangle.ensures in
    elim c.match-matches.branch [
      | in-Stays w ↦ ap not w.matches-is ∙ sym (ap changes w.in-Stays.is) ∙ tells
      | in_default-matches w ↦ ap not w.matches-is ∙ changed _ w.in_default-matches.not-Stays ∙ tells
    ]
