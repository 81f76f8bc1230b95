-- One corner more. Assumes nothing.
use Rattle.std.proofs.Common.{ap, ◌∙◌, arith}
use Rattle.std.proofs.lemmas.List.Edits.{sets}
use Rattle.places.proofs.Filling.{place_turns}
use Rattle.places.proofs.put_places.Goals as goal

pub loop-k-preserved : goal.loop-k-preserved
loop-k-preserved c =
    place_turns c.args.face.now _ _ _ _ _ _ (omega arith) (c.put_corner.ensures ∙ ap (sets _ _) c.corner_at.ensures) c.loop-k.invariant
