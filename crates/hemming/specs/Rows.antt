-- The steps of the code, and no rules of document 02: rows over places, and what the functions rest on. A place is the number of a use of
-- an edge, as in crate crossing. Assumes nothing.
use Rattle.std.specs.Prelude.{◌≡◌, List, [], ◌∷◌, ℕ, ◌+◌, ◌*◌, ◌≤◌, ◌<◌, length, get_or, set}
use Rattle.std.proofs.lemmas.List.Edits.{sets}
use Rattle.lists.specs.Lists.{only}
use Rattle.sorting.specs.Sorting.{sorted_by, Sortable}
use Rattle.mesh.specs.Limits.{width}
use Rattle.mesh.specs.Mesh.{rings}
use Rattle.edges.specs.Edges.{edges_of, verdict}
use Rattle.edges.specs.Runs.{Edged}
use Rattle.uses.specs.Uses.{Gathered}
use Rattle.tracing.specs.Answers.{corner_count}
use Rattle.turning.specs.Promise.{Fit}
use Rattle.crossing.specs.Crossing.{after_row, twinned, follow_row, alone, AfterRoom, TwinRoom, Crossable}
use Rattle.trailing.specs.Trailing.{wires_by, AllLeft}

-- the sorted uses of a mesh with n positions whose verdict allows wires, rows of one number for each corner, and room for the wires
pub record Hemmable (cs s : List ℕ) (n : ℕ) (lowers highers downs first order twins flat lengths : List ℕ) : Type 0 where
  pub edged : Edged cs s n
  pub gathered : Gathered n (edges_of (rings s cs)) lowers highers downs order
  pub fit : Fit (verdict (edges_of (rings s cs)))
  pub next_room : length first ≡ corner_count cs
  pub twin_room : length twins ≡ corner_count cs
  pub numbers : corner_count cs ≤ length flat
  pub wires : corner_count cs ≤ length lengths

-- ---- how a hem turns

-- the twins of all places, from the sorted uses
abbrev pub twins_of : List ℕ → List ℕ → List ℕ → List ℕ → List ℕ
twins_of lowers highers order twins = twinned lowers highers order (length order) twins

-- what it takes to write how a hem turns; and what is written: each place's next in its face, its twin, and what follows it
pub record Turnable (s lowers highers downs order after twins : List ℕ) : Type 0 where
  pub next_room : AfterRoom s after
  pub twin_room : TwinRoom lowers highers downs order twins
  pub crossable : Crossable (after_row s) (twins_of lowers highers order twins)
  pub follow_room : length downs ≡ length (twins_of lowers highers order twins)

pub record TurnedBy (s lowers highers order twins downs' after' twins' : List ℕ) : Type 0 where
  pub after_is : after' ≡ after_row s
  pub twins_are : twins' ≡ twins_of lowers highers order twins
  pub follows_are : downs' ≡ follow_row (after_row s) (twins_of lowers highers order twins)

-- ---- the hem places, and where their edges start

-- those of the order that are the places of hem edges, as they stand there
unfoldable pub hem_places : List ℕ → List ℕ → List ℕ
hem_places twins order = only (alone twins) order

-- the position at which the edge at a place starts: that of its corner
abbrev pub start_at : List ℕ → ℕ → ℕ
start_at cs u = get_or cs (width * u) 0

-- the row in which each of the places has its start
unfoldable pub started : List ℕ → List ℕ → List ℕ → List ℕ
started cs [] starts = starts
started cs (u ∷ us) starts = started cs us (set starts u (start_at cs u))

-- corners and rows of one number for each, and room for as many places as the order has
pub record KeepRoom (cs twins order starts kept : List ℕ) : Type 0 where
  pub cornered : corner_count cs ≡ length twins
  pub startable : length starts ≡ length twins
  pub known : (i : ℕ) → i < length order → get_or order i 0 < length twins
  pub room : length order ≤ length kept

-- one place, and room for it behind m others
pub record KeepAt (cs twins : List ℕ) (u : ℕ) (starts kept : List ℕ) (m : ℕ) : Type 0 where
  pub cornered : corner_count cs ≡ length twins
  pub startable : length starts ≡ length twins
  pub known : u < length twins
  pub room : m < length kept

-- the places `new` behind m others, and their starts
pub record Kept (cs new starts kept : List ℕ) (m : ℕ) (starts' kept' : List ℕ) (r : ℕ) : Type 0 where
  pub count_is : r ≡ m + length new
  pub places_are : kept' ≡ sets kept m new
  pub starts_are : starts' ≡ started cs new starts

-- ---- the wires

-- places in the order in which wires begin: by start, and those with one start as they stand
unfoldable pub by_start : ℕ → List ℕ → List ℕ → List ℕ
by_start n starts kept = sorted_by n starts kept

-- the wires that begin at the places `kept`, by rows
unfoldable pub wires_from : ℕ → List ℕ → List ℕ → List ℕ → List ℕ → List (List ℕ)
wires_from n starts kept follows left = wires_by starts follows (by_start n starts kept) left

pub record Beginning (n : ℕ) (starts kept sorted follows left flat lengths : List ℕ) : Type 0 where
  pub sortable : Sortable n starts kept sorted
  pub whole : length sorted ≡ length kept
  pub all_left : AllLeft starts follows left (by_start n starts kept) flat lengths

-- the wires of all hem edges, by rows
abbrev pub starts_in : List ℕ → List ℕ → List ℕ → List ℕ → List ℕ
starts_in cs order starts left = started cs (hem_places left order) starts

abbrev pub wires_in : List ℕ → ℕ → List ℕ → List ℕ → List ℕ → List ℕ → List (List ℕ)
wires_in cs n order starts follows left = wires_from n (starts_in cs order starts left) (hem_places left order) follows left

-- what it takes to trace them: a list of as many places as there are hem edges takes their order
pub record Traceable (cs : List ℕ) (n : ℕ) (order starts sorted kept follows left flat lengths : List ℕ) : Type 0 where
  pub keeping : KeepRoom cs left order starts kept
  pub room : length order ≤ length sorted
  pub beginning : (out : List ℕ) → length out ≡ length (hem_places left order)
      → Beginning n (starts_in cs order starts left) (hem_places left order) out follows left flat lengths
