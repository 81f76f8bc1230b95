-- `smoothing::late_number` meets its contract, row by row. Assumes nothing.
use Rattle.std.proofs.Common.{sym, ◌∙◌}
use Rattle.smoothing.proofs.Rows.{late_17, late_1, late_positions, late_corners, late_sizes, late_0}
use Rattle.smoothing.proofs.late_number.Goals as goal
use Rattle.smoothing.proofs.late_number.Goals.{then-newpositions-degrees-via-then-newpositions-degrees}
use Rattle.smoothing.proofs.late_number.Goals.{then-newpositions-degrees-via-else-newpositions-degrees+then-newcorners-corners}
use Rattle.smoothing.proofs.late_number.Goals.{then-newpositions-degrees-via-else-newpositions-degrees+else-newcorners-corners+then-newsizes-faces}

pub returns-then-crowded : goal.returns-then-crowded
returns-then-crowded c = late_17 _ _ _ _ _ _ (sym c.crowded.ensures ∙ c.if-crowded.true)

pub returns-then-faces-gt-MOST_FACES : goal.returns-then-faces-gt-MOST_FACES
returns-then-faces-gt-MOST_FACES c = late_1 _ _ _ _ _ _ (sym c.crowded.ensures ∙ c.if-crowded.false) c.if-faces-gt-MOST_FACES.true

pub returns-then-newpositions-degrees : goal.returns-then-newpositions-degrees
returns-then-newpositions-degrees c =
    let uncrowded = sym c.crowded.ensures ∙ c.if-crowded.false in
    elim c.then-newpositions-degrees.branch [
      | then-newpositions-degrees-via-then-newpositions-degrees w ↦ late_positions _ _ _ _ _ _ uncrowded c.if-faces-gt-MOST_FACES.false w.if-newpositions-degrees.true
      | then-newpositions-degrees-via-else-newpositions-degrees+then-newcorners-corners w ↦
          late_corners _ _ _ _ _ _ uncrowded c.if-faces-gt-MOST_FACES.false w.if-newpositions-degrees.false w.if-newcorners-corners.true
      | then-newpositions-degrees-via-else-newpositions-degrees+else-newcorners-corners+then-newsizes-faces w ↦
          late_sizes _ _ _ _ _ _ uncrowded c.if-faces-gt-MOST_FACES.false w.if-newpositions-degrees.false w.if-newcorners-corners.false w.if-newsizes-faces.true
    ]

pub returns : goal.returns
returns c =
    late_0 _ _ _ _ _ _ (sym c.crowded.ensures ∙ c.if-crowded.false) c.if-faces-gt-MOST_FACES.false
    c.if-newpositions-degrees.false c.if-newcorners-corners.false c.if-newsizes-faces.false
