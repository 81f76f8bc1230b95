-- The columns are those of the mesh's edges, and the passes by higher and by lower position sort them. Assumes nothing.
use Rattle.uses.proofs.Gathering.{uses_digits, uses_gathered}
use Rattle.uses.proofs.gather.Goals as goal

pub sort_by_two-requires : goal.sort_by_two-requires
sort_by_two-requires c =
    uses_digits c.args.corners.now c.args.sizes.now _ c.requires.edged _ _ _ _ _ _ _ _ c.requires.rooms c.put_uses.ensures _ c.count_up.ensures

pub returns : goal.returns
returns c =
    uses_gathered c.args.corners.now c.args.sizes.now _ c.requires.edged _ _ _ _ _ _ _ _ c.requires.rooms c.put_uses.ensures _ c.count_up.ensures _
    c.sort_by_two.ensures
