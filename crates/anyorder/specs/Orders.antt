-- Orders of cleaning, as document 02, CR 10, has them: folded faces are removed, and a mesh is compacted, one after the other. Assumes
-- nothing.
use Rattle.std.specs.Prelude.{Bool, true, false, List, [], ◌∷◌}
use Rattle.lists.specs.Lists.{some}
use Rattle.mesh.specs.Mesh.{Mesh}
use Rattle.removal.specs.Folded.{unfolded_mesh}
use Rattle.unused.specs.Compaction.{compacted}

-- a step of cleaning, and what it makes of a mesh
pub data Step : Type 0 where
  Remove Compact : Step

abbrev pub stepped : Step → Mesh → Mesh
stepped Remove m = unfolded_mesh m
stepped Compact m = compacted m

-- the steps of a list, the first of it first
abbrev pub cleaned_by : List Step → Mesh → Mesh
cleaned_by [] m = m
cleaned_by (s ∷ ss) m = cleaned_by ss (stepped s m)

-- an order of steps is sensible where it removes and, at some time after that, compacts
abbrev pub compacts : Step → Bool
compacts Remove = false
compacts Compact = true

abbrev pub sensible : List Step → Bool
sensible [] = false
sensible (Remove ∷ ss) = some compacts ss
sensible (Compact ∷ ss) = sensible ss
