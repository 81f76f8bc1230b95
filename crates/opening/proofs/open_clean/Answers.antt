-- `open_clean` meets its contract: a refused file is answered by its number, any other is the mesh at the front of the lists, which is
-- then cleaned (`Reading`). Assumes nothing.
use mathlib.Core.Path.{refl}
use Rattle.opening.proofs.Reading.{read_standing, opened_left, still_full}
use Rattle.opening.proofs.open_clean.Goals as goal

-- the lists after the drawing, with the faces that they had before it and with those that were drawn

pub clean-requires : goal.clean-requires
clean-requires c =
    read_standing
    (still_full c.requires c.positions-1.given c.textures-1.given c.normals-1.given refl refl)
    (still_full c.requires c.positions-1.given c.textures-1.given c.normals-1.given c.corners-1.given
    c.sizes-1.given)
    c.draw-panel.ensures c.if-panel-ne0.false

pub returns : goal.returns
returns c =
    opened_left
    (still_full c.requires c.positions-1.given c.textures-1.given c.normals-1.given refl refl)
    (still_full c.requires c.positions-1.given c.textures-1.given c.normals-1.given c.corners-1.given
    c.sizes-1.given)
    c.draw-panel.ensures c.if-panel-ne0.false c.clean.ensures
