-- The pieces of all faces and their numbers fit the three lists, whose fronts are those again; grouped, they are what is left and its origins.
-- Assumes nothing.
use Rattle.allfaces.proofs.Scratch.{blank, pieces_sound, pieces_corners, pieces_sizes}
use Rattle.allfaces.proofs.Telling.{one_each, numbers_room, left_grouped}
use Rattle.allfaces.proofs.remove_larger.Goals as goal

pub push_tags-requires : goal.push_tags-requires
push_tags-requires c =
    let pre = c.requires.ready in
    let put = c.all_pieces-at.ensures.left in
    (one_each _ _ _ _ _ _ _ _ _ _ _ _ _ _ pre blank blank put, numbers_room _ _ _ _ _ _ _ _ _ _ _ _ _ _ pre blank blank put)

pub push_all-requires : goal.push_all-requires
push_all-requires c =
    let pre = c.requires.ready in
    let put = c.all_pieces-at.ensures.left.placed in (
      pieces_sound _ _ _ _ _ _ _ _ _ _ _ pre blank put,
      (pieces_corners _ _ _ _ _ _ _ _ _ _ _ pre blank put, pieces_sizes _ _ _ _ _ _ _ _ _ _ _ pre blank put),
    )

pub returns : goal.returns
returns c =
    left_grouped _ _ _ _ _ _ _ _ _ _ _ _ _ _ c.requires.ready blank blank c.all_pieces-at.ensures.left _ _ _ _ _ _ c.push_tags.ensures c.push_all.ensures
