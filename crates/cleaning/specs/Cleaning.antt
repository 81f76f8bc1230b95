-- A mesh cleaned, as document 01, 'The panel file and the sheet', has it: folded faces are removed, and what no face uses goes. Assumes
-- nothing.
use Rattle.mesh.specs.Mesh.{Mesh}
use Rattle.removal.specs.Folded.{unfolded_mesh}
use Rattle.unused.specs.Compaction.{compacted}

-- removes folded faces, compacts
unfoldable pub cleaned : Mesh → Mesh
cleaned m = compacted (unfolded_mesh m)
