-- The rule that request 5 replaced, computed on two exports of one cover. Assumes nothing.
use mathlib.Core.Path.{refl}
use Rattle.lists.specs.FirstUses.{first_uses, place}
use Rattle.mesh.specs.Mesh.{faces}
use Rattle.unused.specs.Compaction.{renumber, entries, used_positions, used_textures, used_normals, renumbered, compacted}
use Rattle.edges.specs.Edges.{key, hems}
use Rattle.calls.specs.Former.{former_walk, former_from, former_hems, OneHemBefore}

pub one_hem_before : OneHemBefore
unfolding faces hems key former_hems former_from former_walk compacted renumbered used_positions used_textures used_normals entries renumber place first_uses
one_hem_before = record { two_before = refl; one_before = refl }
