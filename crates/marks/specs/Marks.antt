-- Marks changed, and nothing else: of a list of corners, of faces and of a mesh; and what it is to read no mark and to move it. Assumes nothing.
use Rattle.std.specs.Prelude.{◌≡◌, List, [], ◌∷◌, map, ℕ, zero, suc}
use Rattle.mesh.specs.Mesh.{Mesh, mesh_of, Ring}
use Rattle.mesh.specs.Table.{mesh_number}

-- a mark changed by g; none stays none
abbrev pub anew : (ℕ → ℕ) → ℕ → ℕ
anew g zero = 0
anew g (suc k) = g (suc k)

-- a flat list of corners with their marks changed; and so one corner, which is such a list. What is no whole corner has no mark
abbrev pub remarked : (ℕ → ℕ) → List ℕ → List ℕ
remarked g [] = []
remarked g (p ∷ []) = p ∷ []
remarked g (p ∷ t ∷ []) = p ∷ t ∷ []
remarked g (p ∷ t ∷ n ∷ []) = p ∷ t ∷ n ∷ []
remarked g (p ∷ t ∷ n ∷ k ∷ cs) = p ∷ t ∷ n ∷ anew g k ∷ remarked g cs

-- faces, corner by corner
abbrev pub remarked_faces : (ℕ → ℕ) → List Ring → List Ring
remarked_faces g fs = map (map (remarked g)) fs

-- a mesh
unfoldable pub remarked_mesh : (ℕ → ℕ) → Mesh → Mesh
remarked_mesh g m = mesh_of m.positions m.textures m.normals (remarked g m.corners) m.sizes

-- a mesh without its marks; two meshes differ in marks alone where they are one mesh without them
abbrev pub unmarked : Mesh → Mesh
unmarked m = remarked_mesh (λ k. 0) m

-- an answer reads no mark: it is the same whatever becomes of the marks
abbrev pub Unread : {X : Type 0} → (Mesh → X) → Type 0
Unread answer = (g : ℕ → ℕ) (m : Mesh) → answer (remarked_mesh g m) ≡ answer m

-- a rule moves marks: to change them before it and to change them behind it is one. Said of accepted meshes: of others no call writes anything
abbrev pub Moved : (Mesh → Mesh) → Type 0
Moved rule = (g : ℕ → ℕ) (m : Mesh) → mesh_number m ≡ 0 → rule (remarked_mesh g m) ≡ remarked_mesh g (rule m)
