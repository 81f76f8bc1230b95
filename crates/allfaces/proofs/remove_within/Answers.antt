-- The pieces of all faces fit the three lists, whose fronts are those again; grouped, they are what is left, and fit where the faces stood
-- (`Scratch`). Assumes nothing.
use Rattle.allfaces.proofs.Scratch.{pieces_sound, pieces_corners, pieces_sizes, pieces_grouped, back_ready}
use Rattle.allfaces.proofs.remove_within.Goals as goal

pub push_all-requires : goal.push_all-requires
push_all-requires c =
    let pre = c.requires in
    let put = c.all_pieces-at.ensures.left.placed in (
      pieces_sound _ _ _ _ _ _ _ _ _ _ _ (back_ready pre) pre.room put,
      (pieces_corners _ _ _ _ _ _ _ _ _ _ _ (back_ready pre) pre.room put, pieces_sizes _ _ _ _ _ _ _ _ _ _ _ (back_ready pre) pre.room put),
    )

pub returns : goal.returns
returns c =
    rw (pieces_grouped _ _ _ _ _ _ _ _ _ _ _ (back_ready c.requires) c.requires.room c.all_pieces-at.ensures.left.placed) c.push_all.ensures
