-- The fronts of the reader's own lists once the reading has stopped: they are as long as the counts say, and they are what was drawn.
-- Assumes nothing.
use mathlib.Core.Path.{◌≡◌, ap, ◌∙◌}
use mathlib.Core.List.{List, map}
use Prim.Native.Nat.{ℕ, ◌*◌}
use native.Mathlib.Omega.{arith}
use lib.ListN.{length, take}
use lib.Seq.{length-take-le}
use Rattle.lists.specs.Lists.{some, joined}
use Rattle.mesh.specs.Limits.{width}
use Rattle.mesh.specs.Mesh.{Mesh, mesh_of, rings}
use Rattle.mesh.specs.Table.{astray, astray_at}
use Rattle.mesh.proofs.Faces.{rings_back}
use Rattle.grouping.proofs.Accepting.{corners_in-flat}
use Rattle.steps.specs.declared.Progress.{Progress}
use Rattle.reading.specs.Reading.{Drawn, read_all, mesh_drawn}
use Rattle.drawing.specs.Working.{Drawing}
use Rattle.reading.proofs.Sane.{all_sane}

module _ (file : List ℕ) (x : Progress) (l : Mesh) (d : Drawing file x l) where
  abbrev drawn : Drawn
  drawn = (read_all file).drawn

  -- the fronts of the reader's own lists are as long as the counts say
  pub front_positions : length (take (3 * x.positions) l.positions) ≡ 3 * x.positions
  front_positions = length-take-le (3 * x.positions) l.positions (omega (arith, d.within.positions, d.long.positions))

  pub front_textures : length (take (2 * x.textures) l.textures) ≡ 2 * x.textures
  front_textures = length-take-le (2 * x.textures) l.textures (omega (arith, d.within.textures, d.long.textures))

  pub front_normals : length (take (3 * x.normals) l.normals) ≡ 3 * x.normals
  front_normals = length-take-le (3 * x.normals) l.normals (omega (arith, d.within.normals, d.long.normals))

  pub own_rings : rings (take x.faces l.sizes) (take (width * x.corners) l.corners) ≡ drawn.faces
  own_rings =
      ap (λ (ns : List ℕ). rings ns (take (width * x.corners) l.corners)) d.holds.sizes
      ∙ ap (rings (map length drawn.faces)) d.holds.corners
      ∙ rings_back drawn.faces (all_sane file).drawn.are_rings

  -- the fronts of the five lists, as a mesh whose faces are not grouped
  abbrev pub fronts : Mesh
  fronts =
      mesh_of (take (3 * x.positions) l.positions) (take (2 * x.textures) l.textures) (take (3 * x.normals) l.normals)
      (take (width * x.corners) l.corners) (take x.faces l.sizes)

  -- the indices, over the corners of all faces that are kept
  pub own_astray : astray fronts ≡ some (astray_at (mesh_drawn drawn)) (joined drawn.faces)
  unfolding astray mesh_drawn
  own_astray =
      rw (d.holds.positions, d.holds.textures, d.holds.normals, d.holds.corners, corners_in-flat drawn.faces (all_sane file).drawn.are_rings)
