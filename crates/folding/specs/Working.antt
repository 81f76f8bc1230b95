-- What the functions of the crate, and of the removal, hand to one another; a caller of the removal needs none of it. Assumes nothing.
use Rattle.std.specs.Prelude.{ℕ, ◌+◌, ◌*◌, ◌≤◌, ◌<◌, ◌≡◌, List, length}
use Rattle.std.proofs.lemmas.List.Edits.{sets}
use Rattle.lists.specs.Lists.{joined, span}
use Rattle.mesh.specs.Limits.{width, least_ring, ring_limit}
use Rattle.mesh.specs.Mesh.{Ring}
use Rattle.grouping.specs.Push.{Placed}
use Rattle.splitting.specs.Splitting.{split_by}
use Rattle.folding.specs.Folding.{ring_pieces}
use Rattle.folding.specs.Places.{position_in, ring_places}

-- there is room for the pieces of a face of n corners behind c corners and f faces: for each of its corners, and for as many sizes
-- as a third of the corners, rounded down
pub record Room (n : ℕ) (out lens : List ℕ) (c f : ℕ) : Type 0 where
  pub small : n ≤ ring_limit
  pub corners : width * (c + n) ≤ length out
  pub sizes : least_ring * f + n < least_ring * (length lens + 1)

-- a face of as many corners as the row has entries, room for their places, and room for its pieces behind c corners and f faces
pub record Splittable (face row took out lens : List ℕ) (c f : ℕ) : Type 0 where
  pub wide : length face ≡ width * length row
  pub places : length row ≤ length took
  pub room : Room (length row) out lens c f

-- the pieces of the larger face r are written to two lists, corners and sizes, behind c corners and f faces, and to a third, from its
-- beginning on, the places that they took, piece after piece; the row has the places of all rings of the split then
pub record WithPlaces (r : Ring) (row' took took' out out' lens lens' : List ℕ) (c f c' f' : ℕ) : Type 0 where
  pub pieces : Placed (ring_pieces r) out out' lens lens' c f c' f'
  pub places : took' ≡ sets took 0 (joined (ring_places r))
  pub rings : row' ≡ joined (split_by (position_in r) (span 0 (length r)))
