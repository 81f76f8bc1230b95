-- Faces whose positions are renumbered one-to-one, and what they keep. Of a corner's texture and normal nothing is said: the verdict,
-- the hem edges, the house wires, and the panels without the normals setting go by positions. Assumes nothing.
use Rattle.std.specs.Prelude.{◌≡◌, Bool, true, false, List, map, ℕ, eqb}
use Rattle.lists.specs.Lists.{has, count, joined}
use Rattle.mesh.specs.Mesh.{Ring, position}
use Rattle.edges.specs.Edges.{Edge, edges_of, verdict, hems}
use Rattle.turning.specs.Turning.{onward, house_wires_of}
use Rattle.turning.specs.Promise.{Fit, Hem}
use Rattle.panels.specs.Panels.{panels}
use Rattle.order.specs.Same.{Same}
use Rattle.order.specs.Demand.{by_position}

-- the positions that the faces use, face by face
abbrev pub positions_of : List Ring → List ℕ
positions_of fs = joined (map (map position) fs)

-- equal numbers of the list stay equal under g, and different ones different
abbrev pub OneToOne : (ℕ → ℕ) → List ℕ → Type 0
OneToOne g l = (i j : ℕ) → has i l ≡ true → has j l ≡ true → eqb (g i) (g j) ≡ eqb i j

-- face by face and corner by corner, the positions of the second faces are those of the first, renumbered by g
pub record Renumbers (g : ℕ → ℕ) (fs gs : List Ring) : Type 0 where
  pub positions : map (map position) gs ≡ map (map (λ i. g i)) (map (map position) fs)
  pub one_to_one : OneToOne g (positions_of fs)

-- an edge with both its ends renumbered
abbrev pub moved : (ℕ → ℕ) → Edge → Edge
moved g e = (g e.0, g e.1)

pub record Kept (g : ℕ → ℕ) (fs gs : List Ring) : Type 0 where
  -- the edges are renumbered
  pub edges : edges_of gs ≡ map (moved g) (edges_of fs)
  -- one verdict
  pub one_verdict : verdict (edges_of gs) ≡ verdict (edges_of fs)
  -- the hem edges are renumbered, each in its direction: as many of them pass any test (in what order they stand goes by their new
  -- numbers)
  pub same_hems : (test : Edge → Bool) → count test (hems (edges_of gs)) ≡ count test (map (moved g) (hems (edges_of fs)))
  -- where the verdict is Oriented or Closed, what follows a hem edge through the cloth follows it under the new numbers
  pub same_onward :
      Fit (verdict (edges_of fs))
      → (e : Edge) → Hem (by_position fs) e → onward (by_position gs) (moved g e) ≡ moved g (onward (by_position fs) e)
  -- so the house wires are the same rings, renumbered, one to one: each begun somewhere, in some order (by their new numbers)
  pub same_wires : Fit (verdict (edges_of fs)) → Same (map (map (λ i. g i)) (house_wires_of fs)) (house_wires_of gs)
  -- the very list of panels
  pub same_panels : panels false gs ≡ panels false fs

abbrev pub NumbersDoNotMatter : Type 0
NumbersDoNotMatter = (g : ℕ → ℕ) (fs gs : List Ring) → Renumbers g fs gs → Kept g fs gs
