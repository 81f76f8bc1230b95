-- Panels, as document 01 has them: edge keys (crate keys) make joins, and joins make panels (crate searching). Assumes nothing.
use Rattle.std.specs.Prelude.{Bool, cond, List, [], ◌∷◌, ◌++◌, ℕ, length}
use Rattle.std.proofs.Math.Option.{Option, none, some}
use Rattle.mesh.specs.Mesh.{Ring}
use Rattle.keys.specs.Keys.{Key, same_key_lem, Use, uses_from}
use Rattle.searching.specs.Search.{Join, panels_from}

-- the first face that had the key
abbrev pub first_face : Key → List Use → Option ℕ
first_face k [] = none
first_face k (u ∷ us) = cond (same_key_lem k u.1) (some u.0) (first_face k us)

-- each later use of a key joins its face to the first face that had the key
abbrev pub join_of : ℕ → Option ℕ → List Join → List Join
join_of i none l = l
join_of i (some j) l = (i, j) ∷ l

abbrev pub joins_from : List Use → List Use → List Join
joins_from seen [] = []
joins_from seen (u ∷ us) = join_of u.0 (first_face u.1 seen) (joins_from (seen ++ (u ∷ [])) us)

abbrev pub joins : Bool → List Ring → List Join
joins normals fs = joins_from [] (uses_from normals 0 fs)

unfoldable pub panels : Bool → List Ring → List (List ℕ)
panels normals fs = panels_from (length fs) 0 (length fs) (joins normals fs) []
