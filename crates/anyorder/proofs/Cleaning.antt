-- Whether a mesh is compacted before folded faces are removed does not matter to what is left after removing and compacting.
-- Assumes nothing.
use mathlib.Core.Path.{◌≡◌, refl, sym, ap, ◌∙◌}
use mathlib.Core.Bool.{Bool, true}
use mathlib.Core.List.{map}
use lib.ListN.{length}
use lib.Dec.{eqb}
use Rattle.lists.specs.Lists.{every, joined}
use Rattle.lists.proofs.Parts.{every_joined}
use Rattle.mesh.specs.Mesh.{Mesh, Corner, position, corners_in, faces}
use Rattle.mesh.specs.Table.{mesh_number}
use Rattle.removal.specs.Folded.{removed, unfolded_mesh}
use Rattle.removal.specs.Origins.{origins_of}
use Rattle.removal.proofs.Result.{removed_corners}
use Rattle.removal.proofs.Accepted.{faces_unfolded, removed_accepted}
use Rattle.unused.specs.Compaction.{renumbered, compacted}
use Rattle.unused.proofs.Columns.{joined_map, lengths_map}
use Rattle.unused.proofs.Laws.{accepted_compacted, face_order, faces_compacted, position_same}
use Rattle.anyorder.proofs.Changed.{removed_changed, origins_changed}
use Rattle.anyorder.proofs.Twice.{number_in, numbers_in, Recompacted, compacted_both}

module _ (m : Mesh) (z : mesh_number m ≡ 0) where
  abbrev is_used : Corner → Bool
  is_used c = number_in position (corners_in m.corners) c

  all_used : every (every is_used) (faces m) ≡ true
  all_used =
      sym (every_joined is_used (faces m)) ∙ ap (every is_used) (face_order m z) ∙ numbers_in position (corners_in m.corners)

  used_same :
      (a b : Corner) → is_used a ≡ true → is_used b ≡ true → eqb (position (renumbered m a)) (position (renumbered m b)) ≡ eqb (position a) (position b)
  unfolding renumbered
  used_same a b h k = position_same m z (position a) (position b) h k

  -- the faces that are left are those that are left without compaction, each corner renumbered
  pub removed_compacted : removed (faces (compacted m)) ≡ map (map (renumbered m)) (removed (faces m))
  removed_compacted = ap removed (faces_compacted m z) ∙ removed_changed (renumbered m) is_used used_same (faces m) all_used

  -- and they came from the same faces
  pub origins_compacted : origins_of (faces (compacted m)) ≡ origins_of (faces m)
  origins_compacted = ap origins_of (faces_compacted m z) ∙ origins_changed (renumbered m) is_used used_same (faces m) all_used

  faces_left : faces (unfolded_mesh (compacted m)) ≡ map (map (renumbered m)) (faces (unfolded_mesh m))
  faces_left = faces_unfolded (compacted m) ∙ removed_compacted ∙ ap (map (map (renumbered m))) (sym (faces_unfolded m))

  corners_left : corners_in (unfolded_mesh (compacted m)).corners ≡ map (renumbered m) (corners_in (unfolded_mesh m).corners)
  corners_left =
      sym (face_order (unfolded_mesh (compacted m)) (removed_accepted (compacted m) (accepted_compacted m z)))
      ∙ ap joined faces_left
      ∙ joined_map (renumbered m) (faces (unfolded_mesh m))
      ∙ ap (map (renumbered m)) (face_order (unfolded_mesh m) (removed_accepted m z))

  corners_among : (p : Corner → Bool) → every p (corners_in m.corners) ≡ true → every p (corners_in (unfolded_mesh m).corners) ≡ true
  corners_among p h =
      ap (every p) (sym (face_order (unfolded_mesh m) (removed_accepted m z)) ∙ ap joined (faces_unfolded m))
      ∙ every_joined p (removed (faces m))
      ∙ removed_corners p (faces m) (sym (every_joined p (faces m)) ∙ ap (every p) (face_order m z) ∙ h)

  recompacted : Recompacted m (unfolded_mesh m) (unfolded_mesh (compacted m))
  unfolding unfolded_mesh
  recompacted = record {
    positions = refl;
    textures = refl;
    normals = refl;
    new_positions = refl;
    new_textures = refl;
    new_normals = refl;
    among = corners_among;
    renumbers = corners_left;
    sizes = ap (map length) removed_compacted ∙ lengths_map (renumbered m) (removed (faces m));
  }

  -- compacting, removing and compacting again gives what removing and compacting gives
  pub compacting_first : compacted (unfolded_mesh (compacted m)) ≡ compacted (unfolded_mesh m)
  compacting_first = compacted_both m (unfolded_mesh m) (unfolded_mesh (compacted m)) recompacted z
