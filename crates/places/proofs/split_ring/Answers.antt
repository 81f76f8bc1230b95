-- The row holds the face's places when it is split. Assumes nothing.
use Rattle.std.proofs.Common.{length, ap, ◌∙◌}
use Rattle.lists.specs.Lists.{every}
use Rattle.places.specs.Working.{is_place}
use Rattle.places.proofs.Corners.{places_span}
use Rattle.places.proofs.split_ring.Goals as goal

pub split_places-requires-clause-places : goal.split_places-requires-clause-places
split_places-requires-clause-places c =
    ap (every (is_place c.args.face.now)) c.count_up.ensures ∙ places_span c.args.face.now (length c.args.row.now) c.requires.face_len
