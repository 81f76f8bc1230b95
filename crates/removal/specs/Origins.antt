-- Which face each face of the removal's result came from: change request 3 of document 02. Assumes nothing.
use Rattle.std.specs.Prelude.{ℕ, suc, List, [], ◌∷◌, ◌++◌, length, replicate}
use Rattle.lists.specs.Lists.{each}
use Rattle.mesh.specs.Mesh.{Ring}
use Rattle.grouping.specs.Tags.{pushed_beside}
use Rattle.folding.specs.Folding.{pieces}

-- for each piece of the faces, in the order the pieces come, the number of its face; the first face has number a
unfoldable pub numbered : ℕ → List Ring → List ℕ
numbered a [] = []
numbered a (f ∷ fs) = replicate (length (pieces f)) a ++ numbered (suc a) fs

-- for each face of the result, the number of the face it came from: the numbers go where their pieces go
unfoldable pub origins_of : List Ring → List ℕ
origins_of fs = pushed_beside (each pieces fs) (numbered 0 fs)
