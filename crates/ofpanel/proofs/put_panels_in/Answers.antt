-- `ofpanel::put_panels_in` meets its contract: the first entries, the faces of uses and the panels of faces give the panels of the hems.
-- Assumes nothing.
use Rattle.ofpanel.proofs.Whole.{find_room, write_room, panels_done}
use Rattle.ofpanel.proofs.put_panels_in.Goals as goal

pub find_uses-requires : goal.find_uses-requires
find_uses-requires c =
    find_room _ _ _ _ _ _ c.requires.panelled _ c.requires.firsts_long

pub put_faces-requires : goal.put_faces-requires
put_faces-requires c =
    record { sound = c.requires.panelled.keyable.sound; room = c.requires.faces_long }

pub put_labels-requires : goal.put_labels-requires
put_labels-requires c =
    record { keyable = c.requires.panelled.keyable; room = c.requires.labels_long }

pub write_panels-requires : goal.write_panels-requires
write_panels-requires c =
    write_room _ _ _ _ _ _ c.requires.panelled c.args.firsts.now c.requires.firsts_long _ c.find_uses.ensures _ _ c.put_faces.ensures
    c.put_labels.ensures

pub returns : goal.returns
returns c =
    panels_done _ _ _ _ _ _ c.requires.panelled c.args.firsts.now c.requires.firsts_long _ c.find_uses.ensures _ _ c.put_faces.ensures
    c.put_labels.ensures _ c.write_panels.ensures
