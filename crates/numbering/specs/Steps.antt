-- The steps of the code, and no rules: the same rows over some of the uses, and what one use more does to them. Assumes nothing.
use Rattle.std.specs.Prelude.{◌≡◌, Bool, cond, List, map, ℕ, ◌+◌, ◌-◌, ◌≤◌, ◌<◌, length, get_or, set, eqb}
use Rattle.std.proofs.lemmas.List.Edits.{sets}
use Rattle.lists.specs.Lists.{only, span}
use Rattle.mesh.specs.Limits.{corner_limit}
use Rattle.verdicts.specs.Edges.{Edge, same}
use Rattle.smoothed.specs.Smoothed.{first_uses, place}
use Rattle.smoothed.specs.Around.{Use}
use Rattle.sides.specs.Sides.{Marked}
use Rattle.numbering.specs.Numbering.{Rows, rows, Long}

-- ---- over some of the uses

unfoldable pub edges_in : List Use → List Edge
edges_in us = first_uses (map (λ (u : Use). u.0) us)

unfoldable pub wings_in : List Use → Edge → List ℕ
wings_in us k = map (λ (u : Use). u.1) (only (λ (u : Use). same k u.0) us)

-- what is said of the wings of each edge
abbrev pub each_edge : (List ℕ → ℕ) → List Use → List ℕ
each_edge f us = map (λ k. f (wings_in us k)) (edges_in us)

abbrev pub first_of : List ℕ → ℕ
first_of ws = get_or ws 0 0

abbrev pub last_of : List ℕ → ℕ
last_of ws = get_or ws (length ws - 1) 0

unfoldable pub numbers_in : List Use → List ℕ
numbers_in us = map (λ (u : Use). place (edges_in us) u.0) us

unfoldable pub lowers_in : List Use → List ℕ
lowers_in us = map (λ (k : Edge). k.0) (edges_in us)

unfoldable pub highers_in : List Use → List ℕ
highers_in us = map (λ (k : Edge). k.1) (edges_in us)

-- the rows hold these uses, and there are k edges
pub record Laid (us : List Use) (before after : Rows) (k : ℕ) : Type 0 where
  pub count : k ≡ length (edges_in us)
  pub numbers : after.numbers ≡ sets before.numbers 0 (numbers_in us)
  pub lowers : after.lowers ≡ sets before.lowers 0 (lowers_in us)
  pub highers : after.highers ≡ sets before.highers 0 (highers_in us)
  pub firsts : after.firsts ≡ sets before.firsts 0 (each_edge first_of us)
  pub seconds : after.seconds ≡ sets before.seconds 0 (each_edge last_of us)
  pub wings : after.wings ≡ sets before.wings 0 (each_edge length us)

-- ---- the uses by their columns

abbrev pub use_at : List ℕ → List ℕ → List ℕ → ℕ → Use
use_at lower higher wing x = ((get_or lower x 0, get_or higher x 0), get_or wing x 0)

unfoldable pub uses_in : List ℕ → List ℕ → List ℕ → List Use
uses_in lower higher wing = map (use_at lower higher wing) (span 0 (length lower))

-- columns of few uses; `numbers` has for each use the first use of its edge
pub record Marks (lower higher wing : List ℕ) (r : Rows) : Type 0 where
  pub few : length lower ≤ corner_limit
  pub higher_long : length higher ≡ length lower
  pub wing_long : length wing ≡ length lower
  pub long : Long r (length lower)
  pub marked : Marked lower higher r.numbers

-- ---- one use more

-- whether use x is the first of its edge, and else the number of its edge, which the first use has
abbrev pub is_first : Rows → ℕ → Bool
is_first r x = eqb (get_or r.numbers x 0) x

abbrev pub number_at : Rows → ℕ → ℕ
number_at r x = get_or r.numbers (get_or r.numbers x 0) 0

-- a new edge gets the next number, and the use's wing is its first and its last
abbrev pub begun : Rows → ℕ → ℕ → Use → Rows
begun r x k u =
    rows (set r.numbers x k) (set r.lowers k u.0.0) (set r.highers k u.0.1) (set r.firsts k u.1)
    (set r.seconds k u.1) (set r.wings k 1)

-- one that is there already gets one wing more, which is its last
abbrev pub met : Rows → ℕ → ℕ → Use → Rows
met r x n u =
    rows (set r.numbers x n) r.lowers r.highers r.firsts (set r.seconds n u.1)
    (set r.wings n (get_or r.wings n 0 + 1))

-- what use x asks, where there are k edges so far
pub record Takeable (x k : ℕ) (lower higher wing : List ℕ) (r : Rows) : Type 0 where
  pub inside : x < length lower
  pub few : length lower ≤ corner_limit
  pub higher_long : length higher ≡ length lower
  pub wing_long : length wing ≡ length lower
  pub long : Long r (length lower)
  pub counted : k ≤ x
  pub upto : get_or r.numbers x 0 ≤ x
  pub known : (get_or r.numbers x 0 ≡ x → ⊥) → number_at r x < length lower
  pub fewer : (get_or r.numbers x 0 ≡ x → ⊥) → get_or r.wings (number_at r x) 0 ≤ corner_limit

-- use x is taken, and there are k' edges then
pub record Taken (x k : ℕ) (u : Use) (before after : Rows) (k' : ℕ) : Type 0 where
  pub is : after ≡ cond (is_first before x) (begun before x k u) (met before x (number_at before x) u)
  pub count : k' ≡ cond (is_first before x) (k + 1) k
