-- `saving::put_mesh` meets its contract: five parts, one behind the other. Assumes nothing.
use Rattle.saving.proofs.Saving.{ready_positions, ready_textures, ready_normals, ready_faces, ready_end, all_stored}
use Rattle.saving.proofs.put_mesh.Goals as goal

pub put_entries-a-requires : goal.put_entries-a-requires
put_entries-a-requires c = ready_positions _ _ c.requires

pub put_entries-b-requires : goal.put_entries-b-requires
put_entries-b-requires c =
    ready_textures _ _ c.requires _ _ c.put_entries-a.ensures

pub put_entries-c-requires : goal.put_entries-c-requires
put_entries-c-requires c =
    ready_normals _ _ c.requires _ _ c.put_entries-a.ensures _ _ c.put_entries-b.ensures

pub put_faces-d-requires : goal.put_faces-d-requires
put_faces-d-requires c =
    ready_faces _ _ c.requires _ _ c.put_entries-a.ensures _ _ c.put_entries-b.ensures _ _ c.put_entries-c.ensures

pub put_header-requires : goal.put_header-requires
put_header-requires c =
    ready_end _ _ c.requires _ _ c.put_entries-a.ensures _ _ c.put_entries-b.ensures
    _ _ c.put_entries-c.ensures _ _ c.put_faces-d.ensures

pub returns : goal.returns
returns c =
    all_stored _ _ c.requires _ _ c.put_entries-a.ensures _ _ c.put_entries-b.ensures
    _ _ c.put_entries-c.ensures _ _ c.put_faces-d.ensures _ _ c.put_header.ensures
