-- Two exports of one cover: positions renumbered one-to-one by g, faces in another order, each position where it was. The same hems, each
-- with its number of edges and its length, though in another order: hems are listed by the numbers of their positions. Assumes nothing.
use Rattle.std.specs.Prelude.{◌≡◌, true, List, [], ◌∷◌, map, ℕ, ◌<◌, length, get_or}
use Rattle.lists.specs.Lists.{has}
use Rattle.lists.proofs.Alike.{Alike}
use Rattle.mesh.specs.Mesh.{Mesh, Ring, faces}
use Rattle.mesh.specs.Table.{mesh_number}
use Rattle.edges.specs.Edges.{edges_of, verdict}
use Rattle.turning.specs.Turning.{house_wires_of}
use Rattle.turning.specs.Promise.{Fit}
use Rattle.roots.specs.Distances.{Point}
use Rattle.hemlist.specs.HemList.{hem_panels, hem_edges, hem_lengths}
use Rattle.order.specs.Same.{Matching}
use Rattle.order.specs.Demand.{by_position}
use Rattle.renumbered.specs.Renumbered.{positions_of, Renumbers}
use Rattle.exports.specs.Covers.{renumbered_by, OneCover}
use Rattle.hemlaws.specs.Promises.{hem_count, panel_at}

module _ {A B : Type 0} where
  -- two lists side by side
  abbrev pub beside : List A → List B → List (A × B)
  beside [] l = []
  beside (a ∷ k) [] = []
  beside (a ∷ k) (b ∷ l) = (a, b) ∷ beside k l

-- of each hem its number of edges and its length; and its panel with them
abbrev pub hem_pairs : (ℕ → Point) → List Ring → List (ℕ × ℕ)
hem_pairs at fs = beside (hem_edges fs) (hem_lengths at fs)

abbrev pub hem_triples : (ℕ → Point) → List Ring → List (ℕ × (ℕ × ℕ))
hem_triples at fs = beside (hem_panels fs) (hem_pairs at fs)

-- each position that the faces use has the same point under its new number
abbrev pub KeepsPoints : (ℕ → ℕ) → (ℕ → Point) → (ℕ → Point) → List Ring → Type 0
KeepsPoints g at at' fs = (p : ℕ) → has p (positions_of fs) ≡ true → at' (g p) ≡ at p

-- two accepted meshes: the same pairs, each as often
abbrev pub ExportsHaveTheSameHems : Type 0
ExportsHaveTheSameHems =
    (g : ℕ → ℕ) (m n : Mesh) → mesh_number m ≡ 0 → mesh_number n ≡ 0 → OneCover g (faces m) (faces n) → Fit (verdict (edges_of (faces m)))
    → (at at' : ℕ → Point) → KeepsPoints g at at' (faces m) → Alike (hem_pairs at (faces m)) (hem_pairs at' (faces n))

-- hem by hem: the hems of the one, under the new numbers, are matched to those of the other, each begun somewhere, and the faces are matched by
-- their positions. A hem and its match have as many edges and are as long, and the faces in the panel of the one are those in that of the other
pub record HemsMatch (g : ℕ → ℕ) (at at' : ℕ → Point) (m n : List Ring) : Type 0 where
  pub hem_matching : Matching (map (map g) (house_wires_of m)) (house_wires_of n)
  pub matching : Matching (renumbered_by g m) (by_position n)
  pub same_edges : (k : ℕ) → k < hem_count m → get_or (hem_edges n) (hem_matching.to k) 0 ≡ get_or (hem_edges m) k 0
  pub same_lengths : (k : ℕ) → k < hem_count m → get_or (hem_lengths at' n) (hem_matching.to k) 0 ≡ get_or (hem_lengths at m) k 0
  pub same_faces :
      (k x : ℕ) → k < hem_count m → x < length m → has x (panel_at m k) ≡ has (matching.to x) (panel_at n (hem_matching.to k))

abbrev pub HemsOfExportsMatch : Type 0
HemsOfExportsMatch =
    (g : ℕ → ℕ) (m n : Mesh) → mesh_number m ≡ 0 → mesh_number n ≡ 0 → OneCover g (faces m) (faces n) → Fit (verdict (edges_of (faces m)))
    → (at at' : ℕ → Point) → KeepsPoints g at at' (faces m) → HemsMatch g at at' (faces m) (faces n)

-- where only the numbers are others and the faces stand in their order, with their panels too
abbrev pub NumbersKeepHems : Type 0
NumbersKeepHems =
    (g : ℕ → ℕ) (fs gs : List Ring) → Renumbers g fs gs → Fit (verdict (edges_of fs))
    → (at at' : ℕ → Point) → KeepsPoints g at at' fs → Alike (hem_triples at fs) (hem_triples at' gs)
