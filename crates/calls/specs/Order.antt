-- Demand 3, said of the calls: take two meshes that the check accepts, with the same faces, put in another order, each begun at any
-- corner of its ring. Whatever the calls on the one and on the other answer and write, as their contracts allow it, has this in
-- common. Assumes nothing.
use Rattle.std.specs.Prelude.{◌≡◌, ◌⊎◌, Bool, false, List, [], map, ℕ, ◌<◌, length, get_or, take}
use Rattle.lists.specs.Lists.{together}
use Rattle.mesh.specs.Mesh.{Mesh, faces}
use Rattle.mesh.specs.Table.{mesh_number}
use Rattle.edges.specs.Edges.{key}
use Rattle.edges.specs.Answers.{hem_number}
use Rattle.edges.specs.declared.ShellCondition.{ShellCondition}
use Rattle.ported.specs.Answers.{ported_number}
use Rattle.house.specs.Answers.{house_number}
use Rattle.panels.specs.Contract.{components_number}
use Rattle.order.specs.Same.{Turned, Same, Matching}
use Rattle.order.specs.Demand.{by_position}
use Rattle.calls.specs.Calls.{VerdictCall, Says, HemCall, starts_written, ends_written, edges_written, WiresLeft, HouseCall, PortedCall, PanelCall, panels_written}

-- both answer one verdict, and so neither answers a refusal
pub record OneVerdict {m n : Mesh} (v : VerdictCall m) (w : VerdictCall n) : Type 0 where
  pub verdict : ShellCondition
  pub of_the_one : Says v verdict
  pub of_the_other : Says w verdict

-- lists of the same lengths earn the same number, enough room or not
pub record SameNumbers (m n : Mesh) : Type 0 where
  pub hem_number_is : (starts ends : ℕ) → hem_number m starts ends ≡ hem_number n starts ends
  pub ported_number_is : (flat lengths : ℕ) → ported_number m flat lengths ≡ ported_number n flat lengths
  pub house_number_is : (flat lengths : ℕ) → house_number m flat lengths ≡ house_number n flat lengths
  pub panels_number : (flat lengths : ℕ) → components_number m flat lengths ≡ components_number n flat lengths

-- two numbers are this one
abbrev pub Both : ℕ → ℕ → ℕ → Type 0
Both k i j = (i ≡ k) × (j ≡ k)

-- the same hem edges, without direction, in the same ascending order; the very same lists of starts and ends unless the verdict is
-- Irregular
pub record SameHems {m n : Mesh} (v : VerdictCall m) (r : HemCall m) (q : HemCall n) : Type 0 where
  pub done : Both 0 r.answer.number q.answer.number
  pub as_many : r.answer.count ≡ q.answer.count
  pub same_edges : map key (edges_written r) ≡ map key (edges_written q)
  pub same_starts : (Says v ShellCondition.Irregular → ⊥) → starts_written r ≡ starts_written q
  pub same_ends : (Says v ShellCondition.Irregular → ⊥) → ends_written r ≡ ends_written q

-- both answer 0, and the wires are the same, in the same order: as many numbers, as many wires, and both lists at the front
pub record SameWires (r q : WiresLeft) : Type 0 where
  pub done : Both 0 r.answer.number q.answer.number
  pub as_many_numbers : r.answer.flat ≡ q.answer.flat
  pub as_many_wires : r.answer.wires ≡ q.answer.wires
  pub same_flat : take r.answer.flat r.lists.flat ≡ take q.answer.flat q.lists.flat
  pub same_lengths : take r.answer.wires r.lists.lengths ≡ take q.answer.wires q.lists.lengths

-- the verdict is Oriented or Closed
abbrev pub Wired : {m : Mesh} → VerdictCall m → Type 0
Wired v = Says v ShellCondition.Oriented ⊎ Says v ShellCondition.Closed

-- where the verdict is Oriented or Closed the house wires are the same; otherwise both calls answer 10
pub record SameHouse {m n : Mesh} (v : VerdictCall m) (r : HouseCall m) (q : HouseCall n) : Type 0 where
  pub same_wires : Wired v → SameWires r.left q.left
  pub refused : (Wired v → ⊥) → Both 10 r.left.answer.number q.left.answer.number

-- both calls answer 0, and as many faces and panels; faces that are together in a panel of the one are together, under their
-- numbers by the matching, in a panel of the other. A face is known by its ring: fs are the rings of the one, gs those of the other
pub record SamePanels {A : Type 0} {fs gs : List (List A)} (match : Matching fs gs) {normals : Bool} {m n : Mesh} (r : PanelCall normals m) (q : PanelCall normals n) : Type 0 where
  pub done : Both 0 r.answer.number q.answer.number
  pub as_many_faces : r.answer.faces ≡ q.answer.faces
  pub as_many_panels : r.answer.panels ≡ q.answer.panels
  pub same_faces :
      (a b : ℕ) → a < length fs → b < length fs
      → together a b (panels_written r) ≡ together (match.to a) (match.to b) (panels_written q)
  -- whichever of equal faces are taken for each other
  pub same_faces_of :
      (a b c d : ℕ) → a < length fs → c < length gs
      → Turned (get_or fs a []) (get_or gs c [])
      → Turned (get_or fs b []) (get_or gs d [])
      → together a b (panels_written r) ≡ together c d (panels_written q)

-- what the calls on m and the calls on n have in common that goes by the edges of the faces
pub record EdgeCallsAgree (m n : Mesh) : Type 0 where
  pub one_verdict : (v : VerdictCall m) (w : VerdictCall n) → OneVerdict v w
  pub same_numbers : SameNumbers m n
  pub same_hems : (v : VerdictCall m) (r : HemCall m) (q : HemCall n) → SameHems v r q
  pub same_house : (v : VerdictCall m) (r : HouseCall m) (q : HouseCall n) → SameHouse v r q
  -- ported wires go by the hem edges: they are the same unless the verdict is Irregular
  pub same_ported :
      (v : VerdictCall m) (r : PortedCall m) (q : PortedCall n) → (Says v ShellCondition.Irregular → ⊥) → SameWires r.left q.left

-- ---- the same faces, corner by corner

pub record CallsAgree (m n : Mesh) : Type 0 where
  pub edges : EdgeCallsAgree m n
  -- under either normals setting, by one matching of the face numbers
  pub matching : Matching (faces m) (faces n)
  pub same_panels : (normals : Bool) (r : PanelCall normals m) (q : PanelCall normals n) → SamePanels matching r q

abbrev pub OrderIsFreeOfTheCalls : Type 0
OrderIsFreeOfTheCalls = (m n : Mesh) → mesh_number m ≡ 0 → mesh_number n ≡ 0 → Same (faces m) (faces n) → CallsAgree m n

-- ---- the same positions: exporters may number texture points and normals anew

pub record CallsAgreeByPosition (m n : Mesh) : Type 0 where
  pub edges : EdgeCallsAgree m n
  -- without the normals setting
  pub matching : Matching (by_position (faces m)) (by_position (faces n))
  pub same_panels : (r : PanelCall false m) (q : PanelCall false n) → SamePanels matching r q

abbrev pub PositionsAreEnoughForTheCalls : Type 0
PositionsAreEnoughForTheCalls =
    (m n : Mesh) → mesh_number m ≡ 0 → mesh_number n ≡ 0 → Same (by_position (faces m)) (by_position (faces n)) → CallsAgreeByPosition m n
