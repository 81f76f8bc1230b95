-- A mesh that was cleaned is accepted: each of the two steps leaves an accepted mesh. And its corners have the marks that the removal left
-- them. Assumes nothing.
use mathlib.Core.Path.{ap, ◌∙◌}
use mathlib.Core.List.{map, map-map}
use Rattle.mesh.specs.Mesh.{Ring, mark, faces}
use Rattle.removal.specs.Folded.{removed, unfolded_mesh}
use Rattle.removal.proofs.Accepted.{removed_accepted, faces_unfolded}
use Rattle.unused.specs.Compaction.{renumbered}
use Rattle.unused.proofs.Laws.{accepted_compacted, faces_compacted}
use Rattle.cleaning.specs.Cleaning.{cleaned}
use Rattle.cleaning.specs.Promises.{CleanedIsAccepted, MarksStay}

pub cleaned_accepted : CleanedIsAccepted
unfolding cleaned
cleaned_accepted m ok = accepted_compacted (unfolded_mesh m) (removed_accepted m ok)

pub marks_stay : MarksStay
unfolding cleaned renumbered
marks_stay m ok =
    let new = renumbered (unfolded_mesh m) in
    ap (map (map mark)) (faces_compacted (unfolded_mesh m) (removed_accepted m ok) ∙ ap (map (map new)) (faces_unfolded m))
    ∙ map-map (map mark) (map new) (removed (faces m))
    ∙ (λ i. map (λ (f : Ring). map-map mark new f i) (removed (faces m)))
