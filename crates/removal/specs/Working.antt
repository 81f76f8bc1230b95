-- What the functions of the crates allfaces and folded hand to one another; a caller needs none of it. Assumes nothing.
use Rattle.std.specs.Prelude.{ℕ, ◌+◌, ◌*◌, ◌≤◌, ◌<◌, ◌≡◌, true, false, List, map, length, get_or, take, eqb}
use Rattle.std.proofs.lemmas.List.Edits.{sets}
use Rattle.lists.specs.Lists.{every, each}
use Rattle.mesh.specs.Limits.{width, least_ring, ring_limit}
use Rattle.mesh.specs.Mesh.{Ring}
use Rattle.mesh.specs.Table.{kind, falls}
use Rattle.mesh.specs.Face.{Sound}
use Rattle.grouping.specs.Push.{Placed}
use Rattle.grouping.specs.Tags.{pushed_beside}
use Rattle.folding.specs.Folding.{pieces}
use Rattle.removal.specs.Origins.{numbered}
use Rattle.removal.specs.Folded.{Removed}

-- corners and sizes that add up, each face of 3 to 300 corners
pub record Fit (cs s : List ℕ) : Type 0 where
  pub sound : Sound cs s
  pub least : (k : ℕ) → k < length s → least_ring ≤ get_or s k 0
  pub most : (k : ℕ) → k < length s → get_or s k 0 ≤ ring_limit

-- the first k sizes are those of triangles
pub record Triangles (s : List ℕ) (k : ℕ) : Type 0 where
  pub within : k ≤ length s
  pub first : every (eqb 3) (take k s) ≡ true

-- such corners and sizes, and room for the pieces of all the faces and their origins
pub record Ready (cs s out lens tags : List ℕ) : Type 0 where
  pub fit : Fit cs s
  pub corners : length cs ≤ length out
  pub sizes : length cs < width * least_ring * (length lens + 1)
  pub origins : length cs < width * least_ring * (length tags + 1)

-- the corners and sizes of an accepted mesh, whose faces are grouped, and room
pub record Given (cs s out lens tags : List ℕ) : Type 0 where
  pub ready : Ready cs s out lens tags
  pub grouped : falls (map kind s) ≡ false

-- the origins of what is left of faces, the first of which has number a
unfoldable pub origins_from : ℕ → List Ring → List ℕ
origins_from a fs = pushed_beside (each pieces fs) (numbered a fs)

-- the faces fs are written behind c corners and f faces, and beside them the numbers ts of the faces that they came from
pub record Left (fs : List Ring) (ts out out' lens lens' tags tags' : List ℕ) (c f c' f' : ℕ) : Type 0 where
  pub placed : Placed fs out out' lens lens' c f c' f'
  pub origins : tags' ≡ sets tags f ts

-- a refusal: each count beside the number is 0
abbrev pub refused_by : ℕ → Removed
refused_by n = record { number = n; corners = 0; faces = 0 }
