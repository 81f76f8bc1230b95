-- House wires, as document 02, request 5, has them: at a position the wire turns through the cloth. So they are a function of the faces, by
-- position, and not of the hem edges alone. Assumes nothing.
use Rattle.std.specs.Prelude.{Bool, true, false, cond, List, [], ◌∷◌, map, ℕ, zero, suc, length}
use Rattle.lists.specs.Lists.{some}
use Rattle.mesh.specs.Mesh.{Ring, position}
use Rattle.edges.specs.Edges.{Edge, same, flip, before, ring_edges, mesh_edges, hems}
use Rattle.tracing.specs.Following.{without, Walk, longer}

-- an edge of a face, and that face's next edge
abbrev pub Turn : Type 0
Turn = Edge × Edge

-- the turns of all faces: the edges of a face are a ring too, and run each to the next and the last to the first
abbrev pub turns : List (List ℕ) → List Turn
turns fs = mesh_edges (map ring_edges fs)

-- the next edge of the face that uses e; e itself where no face does
abbrev pub next_in : List Turn → Edge → Edge
next_in [] e = e
next_in (t ∷ ts) e = cond (same e t.0) t.1 (next_in ts e)

-- whether e is one of the hem edges h
abbrev pub is_hem : List Edge → Edge → Bool
is_hem h e = some (same e) h

module _ (next : Edge → Edge) (h : List Edge) where
  -- from e: if it isn't a hem edge, cross to the face that uses it the other way and take the next edge there; go on until a hem edge is
  -- reached. The first argument bounds the crossings: the number of edges is enough.
  unfoldable pub turn_from : ℕ → Edge → Edge
  turn_from zero e = e
  turn_from (suc n) e = elim (is_hem h e) [ true ↦ e | false ↦ turn_from n (next (flip e)) ]

  -- behind the hem edge e: from the face that owns it take that face's next edge, and turn from there
  unfoldable pub onward_in : ℕ → Edge → Edge
  onward_in n e = turn_from n (next e)

-- the hem edge that follows the hem edge e through the cloth
unfoldable pub onward : List (List ℕ) → Edge → Edge
onward fs = onward_in (next_in (turns fs)) (hems (mesh_edges fs)) (length (mesh_edges fs))

-- the smallest of e and the edges h: smallest start, and of these the smallest end
abbrev pub least : Edge → List Edge → Edge
least e [] = e
least e (x ∷ h) = least (cond (before x e) x e) h

module _ (on : Edge → Edge) where
  -- a wire from its edge e on: the starts of its edges, and the hem edges h that are left unused. It closes when it would use its first
  -- edge f again. The first argument bounds the steps: the number of hem edges is enough.
  unfoldable pub trail : ℕ → Edge → Edge → List Edge → Walk
  trail zero f e h = ([], h)
  trail (suc n) f e h =
      elim (same f (on e)) [ true ↦ (e.0 ∷ [], without e h) | false ↦ longer e.0 (trail n f (on e) (without e h)) ]

  -- begin with the smallest unused hem edge, until none is left
  unfoldable pub trails_in : ℕ → ℕ → List Edge → List (List ℕ)
  trails_in zero m h = []
  trails_in (suc n) m [] = []
  trails_in (suc n) m (e ∷ h) =
      let w : Walk = trail m (least e h) (least e h) (e ∷ h) in w.0 ∷ trails_in n m w.1

-- the house wires of faces that are given by their positions; and of a mesh's faces
unfoldable pub house_wires : List (List ℕ) → List (List ℕ)
house_wires fs = trails_in (onward fs) (length (hems (mesh_edges fs))) (length (hems (mesh_edges fs))) (hems (mesh_edges fs))

abbrev pub house_wires_of : List Ring → List (List ℕ)
house_wires_of fs = house_wires (map (map position) fs)
