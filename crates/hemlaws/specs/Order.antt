-- The order of faces does not matter for the list of hems: of the rules, and of the calls on them. Two accepted meshes whose faces have the
-- same positions, in another order, each begun at any corner of its ring, with the same triples. Assumes nothing.
use Rattle.std.specs.Prelude.{◌≡◌, false, List, ℕ, ◌≤◌, ◌<◌, eqb, length, get_or, take, ℤ}
use Rattle.lists.specs.Lists.{has}
use Rattle.mesh.specs.Mesh.{Mesh, Ring, faces}
use Rattle.mesh.specs.Table.{mesh_number}
use Rattle.edges.specs.Edges.{edges_of, verdict}
use Rattle.tracing.specs.Answers.{corner_count}
use Rattle.turning.specs.Turning.{house_wires_of}
use Rattle.turning.specs.Promise.{Fit}
use Rattle.roots.specs.Distances.{Point}
use Rattle.hemlist.specs.HemList.{hem_panels, hem_edges, hem_lengths, unmatched, beyond_reach}
use Rattle.hemlist.specs.Answer.{HemLists, HemsListed}
use Rattle.hemlist.specs.declared.Listed.{Listed}
use Rattle.order.specs.Same.{Same, Matching}
use Rattle.order.specs.Demand.{by_position}
use Rattle.calls.specs.Order.{Both}
use Rattle.hemlaws.specs.Promises.{hem_count, panel_at}

-- ---- of the rules

-- two hems have one panel in the one exactly where they have one in the other
abbrev pub SamePartings : ℕ → List ℕ → List ℕ → Type 0
SamePartings hems ps qs = (j k : ℕ) → j < hems → k < hems → eqb (get_or ps j 0) (get_or ps k 0) ≡ eqb (get_or qs j 0) (get_or qs k 0)

pub record SameHems (at : ℕ → Point) (m n : List Ring) : Type 0 where
  -- the same hems in the same order, each with its number of edges and its length
  pub same_hems : house_wires_of m ≡ house_wires_of n
  pub as_many : hem_count m ≡ hem_count n
  pub same_edges : hem_edges m ≡ hem_edges n
  pub same_lengths : hem_lengths at m ≡ hem_lengths at n
  -- the faces are matched by their positions, and those in the panel of hem k of the one are those in the panel of hem k of the other.
  -- Panels are numbered by their faces' order: the number itself may be another
  pub matching : Matching (by_position m) (by_position n)
  pub same_faces : (k x : ℕ) → k < hem_count m → x < length m → has x (panel_at m k) ≡ has (matching.to x) (panel_at n k)
  pub same_partings : SamePartings (hem_count m) (hem_panels m) (hem_panels n)

abbrev pub OrderIsFreeForHems : Type 0
OrderIsFreeForHems =
    (at : ℕ → Point) (m n : Mesh) → mesh_number m ≡ 0 → mesh_number n ≡ 0 → Same (by_position (faces m)) (by_position (faces n))
    → Fit (verdict (edges_of (faces m))) → SameHems at (faces m) (faces n)

-- ---- of the calls: what was lent, what is there afterwards and what was answered, any of it that the contract allows

pub record ListCall (m : Mesh) (cs : List ℤ) : Type 0 where
  pub before : HemLists
  pub afterwards : HemLists
  pub answer : Listed
  pub contract : HemsListed m cs before afterwards answer
  pub panel_room : corner_count m.corners ≤ length before.panels
  pub edge_room : corner_count m.corners ≤ length before.edges
  pub length_room : corner_count m.corners ≤ length before.lengths

-- what is written at the front of each list
module _ {m : Mesh} {cs : List ℤ} (r : ListCall m cs) where
  abbrev pub panels_written : List ℕ
  panels_written = take r.answer.hems r.afterwards.panels

  abbrev pub edges_written : List ℕ
  edges_written = take r.answer.hems r.afterwards.edges

  abbrev pub lengths_written : List ℕ
  lengths_written = take r.answer.hems r.afterwards.lengths

-- both answer 0 and as many hems, and leave the same numbers of edges and the same lengths at the fronts of their lists
pub record SameLists {m n : Mesh} {cs : List ℤ} (r : ListCall m cs) (q : ListCall n cs) : Type 0 where
  pub done : Both 0 r.answer.number q.answer.number
  pub as_many : r.answer.hems ≡ q.answer.hems
  pub same_edges : edges_written r ≡ edges_written q
  pub same_lengths : lengths_written r ≡ lengths_written q
  pub same_partings : SamePartings r.answer.hems (panels_written r) (panels_written q)

-- where the verdict is neither Oriented nor Closed both answer 10
pub record ListCallsAgree {m n : Mesh} {cs : List ℤ} (r : ListCall m cs) (q : ListCall n cs) : Type 0 where
  pub listed : Fit (verdict (edges_of (faces m))) → SameLists r q
  pub refused : (Fit (verdict (edges_of (faces m))) → ⊥) → Both 10 r.answer.number q.answer.number

-- triples that both calls accept
abbrev pub OrderIsFreeOfTheListCalls : Type 0
OrderIsFreeOfTheListCalls =
    (m n : Mesh) (cs : List ℤ) → mesh_number m ≡ 0 → mesh_number n ≡ 0 → Same (by_position (faces m)) (by_position (faces n))
    → unmatched m cs ≡ false → unmatched n cs ≡ false → beyond_reach cs ≡ false
    → (r : ListCall m cs) (q : ListCall n cs) → ListCallsAgree r q
