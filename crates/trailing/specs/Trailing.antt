-- Wires by rows over places, and no rules of the documents. A place is the number of a use of an edge. One row has for each place the
-- position at which its edge starts, one the place that follows it. A third has a place's own number where its edge is left unused.
-- Assumes nothing.
use Rattle.std.specs.Prelude.{◌≡◌, Bool, true, false, List, [], ◌∷◌, ◌++◌, map, ℕ, zero, suc, ◌+◌, ◌≤◌, ◌<◌, eqb, length, get_or, set}
use Rattle.std.proofs.lemmas.List.Edits.{sets}
use Rattle.lists.specs.Lists.{keep_if, joined}
use Rattle.lists.specs.Numbers.{count_below}
use Rattle.mesh.specs.Limits.{corner_limit}
use Rattle.tracing.specs.Tables.{nobody}
use Rattle.tracing.specs.Tracing.{Room}

-- whether the edge at place u is left; the row when it is used; how many are left
abbrev pub is_left : List ℕ → ℕ → Bool
is_left left u = eqb (get_or left u 0) u

abbrev pub used : List ℕ → ℕ → List ℕ
used left u = set left u nobody

unfoldable pub left_count : List ℕ → ℕ
left_count left = count_below (is_left left) (length left)

-- a wire: the positions passed, and the row then
abbrev pub Wire : Type 0
Wire = List ℕ × List ℕ

abbrev pub longer : ℕ → Wire → Wire
longer p w = (p ∷ w.0, w.1)

module _ (starts follows : List ℕ) where
  -- from place u on, until a place is met whose edge is used. The first argument bounds the steps: as many as are left are enough.
  unfoldable pub walk : ℕ → ℕ → List ℕ → Wire
  walk zero u left = ([], left)
  walk (suc n) u left =
      elim (is_left left u) [ true ↦ longer (get_or starts u 0) (walk n (get_or follows u 0) (used left u)) | false ↦ ([], left) ]

  unfoldable pub wire_from : ℕ → List ℕ → Wire
  wire_from u left = walk (left_count left) u left

  -- the wire that begins at u, if its edge is left
  unfoldable pub new_wire : ℕ → List ℕ → List (List ℕ)
  new_wire u left = keep_if (is_left left u) (wire_from u left).0 []

  -- a wire from each place of the order whose edge is left then
  unfoldable pub wires_by : List ℕ → List ℕ → List (List ℕ)
  wires_by [] left = []
  wires_by (u ∷ us) left = new_wire u left ++ wires_by us (wire_from u left).1

-- ---- what the functions rest on, and what they give

-- rows of equal length, in which what follows a place is a place
pub record Rows (starts follows left : List ℕ) : Type 0 where
  pub few : length left ≤ corner_limit
  pub started : length starts ≡ length left
  pub followed : length follows ≡ length left
  pub inside : (u : ℕ) → u < length left → get_or follows u 0 < length left

-- the wire from u, and room for it from place `at` of the flat list on; what there is then
pub record Walkable (starts follows left : List ℕ) (u : ℕ) (flat : List ℕ) (at : ℕ) : Type 0 where
  pub rows : Rows starts follows left
  pub inside : u < length left
  pub room : at + length (wire_from starts follows u left).0 ≤ length flat

pub record Walked (w : Wire) (flat : List ℕ) (at : ℕ) (left' flat' : List ℕ) (r : ℕ) : Type 0 where
  pub left_is : left' ≡ w.1
  pub flat_is : flat' ≡ sets flat at w.0
  pub end_is : r ≡ at + length w.0

-- new wires, one or none, behind so many numbers and so many wires
pub record Addable (starts follows left : List ℕ) (u : ℕ) (flat lengths : List ℕ) (numbers wires : ℕ) : Type 0 where
  pub rows : Rows starts follows left
  pub inside : u < length left
  pub room : numbers + length (joined (new_wire starts follows u left)) ≤ length flat
  pub slots : wires + length (new_wire starts follows u left) ≤ length lengths

pub record Added
    (new : List (List ℕ)) (row flat lengths : List ℕ) (numbers wires : ℕ) (left' flat' lengths' : List ℕ) (numbers' wires' : ℕ) : Type 0 where
  pub left_is : left' ≡ row
  pub flat_is : flat' ≡ sets flat numbers (joined new)
  pub lengths_is : lengths' ≡ sets lengths wires (map length new)
  pub numbers_is : numbers' ≡ numbers + length (joined new)
  pub wires_is : wires' ≡ wires + length new

-- all wires
pub record AllLeft (starts follows left order flat lengths : List ℕ) : Type 0 where
  pub rows : Rows starts follows left
  pub known : (i : ℕ) → i < length order → get_or order i 0 < length left
  pub room : Room (wires_by starts follows order left) flat lengths
