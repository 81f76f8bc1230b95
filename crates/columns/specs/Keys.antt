-- Edge keys and their uses, as document 01 has them. Assumes nothing.
use Rattle.std.specs.Prelude.{◌≡◌, Bool, true, false, cond, ◌&&◌, List, [], ◌∷◌, ◌++◌, map, ℕ, suc, ◌≤◌, ◌<◌, ltb, eqb, length, get_or}
use Rattle.mesh.specs.Mesh.{Corner, Ring, position, normal, missing}
use Rattle.mesh.specs.Edges.{ring_edges}

-- an edge key: both positions, and with the normals setting also both normal indices (missing counts as a value)
abbrev pub Key : Type 0
Key = ℕ × ℕ × ℕ × ℕ

abbrev pub pair_key : Bool → Corner → Corner → Key
pair_key normals a b = (position a, position b, cond normals (normal a) 0, cond normals (normal b) 0)

-- lower position first; with equal positions the key keeps the second corner first
unfoldable pub key_of : Bool → Corner × Corner → Key
key_of normals e =
    cond (ltb (position e.0) (position e.1)) (pair_key normals e.0 e.1) (pair_key normals e.1 e.0)

abbrev pub same_key_lem : Key → Key → Bool
same_key_lem a b = eqb a.0 b.0 && eqb a.1 b.1 && eqb a.2 b.2 && eqb a.3 b.3

abbrev pub face_keys : Bool → Ring → List Key
face_keys normals f = map (key_of normals) (ring_edges f)

-- each use of a key, with the number of its face, in order
abbrev pub Use : Type 0
Use = ℕ × Key

abbrev pub uses_from : Bool → ℕ → List Ring → List Use
uses_from normals i [] = []
uses_from normals i (f ∷ fs) = map (λ k. (i, k)) (face_keys normals f) ++ uses_from normals (suc i) fs

-- the face of each use: the normals setting changes no face, so it is left out
unfoldable pub use_faces : List Ring → List ℕ
use_faces fs = map (λ (u : Use). u.0) (uses_from false 0 fs)

-- a use that no list has
abbrev pub no_use : Use
no_use = (0, (0, 0, missing, missing))

-- of the uses us, f is the first one that has the key of use x
pub record FirstOf (us : List Use) (x f : ℕ) : Type 0 where
  pub upto : f ≤ x
  pub same : same_key_lem (get_or us x no_use).1 (get_or us f no_use).1 ≡ true
  pub none : (y : ℕ) → y < f → same_key_lem (get_or us x no_use).1 (get_or us y no_use).1 ≡ false

-- `firsts` has for each use the first use of its key
pub record FirstUses (us : List Use) (firsts : List ℕ) : Type 0 where
  pub long : length firsts ≡ length us
  pub first : (x : ℕ) → x < length us → FirstOf us x (get_or firsts x 0)
