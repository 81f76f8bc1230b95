-- The steps of the code, and no rules of document 02: the first edges of the hems as entries behind the uses of edges, so that one sort by
-- edge finds a use of each. Assumes nothing.
use Rattle.std.specs.Prelude.{◌≡◌, false, cond, List, [], ◌++◌, map, ℕ, ◌+◌, ◌-◌, ◌≤◌, ◌<◌, ltb, eqb, length, get_or}
use Rattle.lists.specs.Lists.{sum, span}
use Rattle.lists.specs.Cutting.{parts}
use Rattle.mesh.specs.Limits.{entry_limit, corner_limit}
use Rattle.mesh.specs.Mesh.{Ring}
use Rattle.edges.specs.Edges.{Edge}
use Rattle.tracing.specs.Answers.{corner_count}
use Rattle.keys.specs.Columns.{normal_digit, column, Keyable}
use Rattle.hemlist.specs.HemList.{first_edge_lem}
use Rattle.ofpanel.specs.OfPanel.{Panelled}

-- so many entries there may be: uses of edges, and hems
abbrev pub entry_room : ℕ
entry_room = 8192

-- an end of the edge d without direction: 0 the lower position, 1 the higher
abbrev pub picked : ℕ → ℕ → ℕ → ℕ
picked which lower higher = cond (eqb which 0) lower higher

unfoldable pub end_of : ℕ → Edge → ℕ
end_of which d = cond (ltb d.0 d.1) (picked which d.0 d.1) (picked which d.1 d.0)

abbrev pub hem_end : ℕ → List ℕ → ℕ
hem_end which w = end_of which (first_edge_lem w)

-- the column of the uses, and behind it that of the hems
unfoldable pub entries : ℕ → List Ring → List (List ℕ) → List ℕ
entries which fs ws = column false which fs ++ map (hem_end which) ws

-- a wire
pub record Wire (w : List ℕ) : Type 0 where
  pub some : 0 < length w

-- wires of at least one position each, as parts of a flat list, and room for one number for each
pub record HemRoom (flat edges out : List ℕ) : Type 0 where
  pub within : sum edges ≤ length flat
  pub some : (k : ℕ) → k < length edges → 0 < get_or edges k 0
  pub few : length edges ≤ corner_limit
  pub room : length out ≡ length edges

-- an accepted mesh, hems, and room for one number for each use and each hem
pub record EntryRoom (cs s flat edges out : List ℕ) : Type 0 where
  pub keyable : Keyable cs s
  pub within : sum edges ≤ length flat
  pub some : (k : ℕ) → k < length edges → 0 < get_or edges k 0
  pub few : length edges ≤ corner_limit
  pub room : length out ≡ corner_count cs + length edges

-- and both ends of each hem's first edge are positions
pub record FindRoom (cs s flat edges firsts : List ℕ) : Type 0 where
  pub entry : EntryRoom cs s flat edges firsts
  pub starts : (k : ℕ) → k < length edges → (first_edge_lem (get_or (parts edges flat) k [])).0 < entry_limit
  pub ends : (k : ℕ) → k < length edges → (first_edge_lem (get_or (parts edges flat) k [])).1 < entry_limit

-- and rows of as many: the ends, a row that is alike all along, and one for the order
pub record FindRows (cs s flat edges lower higher alike order firsts : List ℕ) : Type 0 where
  pub find : FindRoom cs s flat edges firsts
  pub lower_long : length lower ≡ corner_count cs + length edges
  pub higher_long : length higher ≡ corner_count cs + length edges
  pub alike_long : length alike ≡ corner_count cs + length edges
  pub alike_is : (x : ℕ) → x < length alike → get_or alike x 0 ≡ normal_digit 0
  pub order_long : length order ≡ corner_count cs + length edges

-- every entry has the first entry of its edge
pub record Found (fs : List Ring) (ws : List (List ℕ)) (u : ℕ) (firsts : List ℕ) : Type 0 where
  pub long : length firsts ≡ u
  pub upto : (x : ℕ) → x < u → get_or firsts x 0 ≤ x
  pub lower_same : (x : ℕ) → x < u → get_or (entries 0 fs ws) (get_or firsts x 0) 0 ≡ get_or (entries 0 fs ws) x 0
  pub higher_same : (x : ℕ) → x < u → get_or (entries 1 fs ws) (get_or firsts x 0) 0 ≡ get_or (entries 1 fs ws) x 0
  pub none :
      (x y : ℕ) → x < u → y < get_or firsts x 0
      → get_or (entries 0 fs ws) y 0 ≡ get_or (entries 0 fs ws) x 0 → get_or (entries 1 fs ws) y 0 ≡ get_or (entries 1 fs ws) x 0 → ⊥

-- the panel of each hem, by the first entry of its edge: hems stand behind the uses, each of which has a face
unfoldable pub panels_by : List ℕ → List ℕ → List ℕ → List ℕ
panels_by firsts faces labels =
    map (λ k. get_or labels (get_or faces (get_or firsts (length faces + k) 0) 0) 0) (span 0 (length firsts - length faces))

-- every hem's first entry is a use with a face, and there is room for one number for each hem
pub record WriteRoom (firsts faces labels out : List ℕ) : Type 0 where
  pub few : length firsts ≤ entry_room
  pub split : length faces ≤ length firsts
  pub used : (k : ℕ) → k < length firsts - length faces → get_or firsts (length faces + k) 0 < length faces
  pub faced : (k : ℕ) → k < length firsts - length faces → get_or faces (get_or firsts (length faces + k) 0) 0 < length labels
  pub few_labels : length labels ≤ corner_limit
  pub room : length firsts - length faces ≤ length out

-- what the call rests on, and its rows
pub record PanelRows (cs s : List ℕ) (n : ℕ) (flat edges firsts faces labels out : List ℕ) : Type 0 where
  pub panelled : Panelled cs s n flat edges out
  pub firsts_long : length firsts ≡ corner_count cs + length edges
  pub faces_long : length faces ≡ corner_count cs
  pub labels_long : length labels ≡ length s
