-- Wires by the tables, and what the functions of this crate are given and give. Assumes nothing.
use Rattle.std.specs.Prelude.{◌≡◌, cond, List, [], ℕ, suc, ◌+◌, ◌≤◌, ◌<◌, eqb, length, set}
use Rattle.std.proofs.Math.Option.{Option, none, some}
use Rattle.std.proofs.lemmas.List.Edits.{sets}
use Rattle.lists.specs.Lists.{joined}
use Rattle.edges.specs.Edges.{Edge}
use Rattle.tracing.specs.Following.{without, Walk, entry, follow, traces_in}
use Rattle.tracing.specs.Tables.{left, Stands}

-- where an entry leads to, with f where there is none; and what is left without it
abbrev pub onward : ℕ → Option Edge → ℕ
onward f none = f
onward f (some e) = e.1

abbrev pub taken : Option Edge → List Edge → List Edge
taken none g = g
taken (some e) g = without e g

-- the wire that is followed from c on, begun at f; with steps enough for any
unfoldable pub trace : ℕ → ℕ → List Edge → Walk
trace f c g = follow (suc (length g)) f c g

-- the same when c may be f met again, where it ends
unfoldable pub trace_on : ℕ → ℕ → List Edge → Walk
trace_on f c g = cond (eqb f c) ([], g) (trace f c g)

-- all wires, from the smallest start on
unfoldable pub traces : List Edge → List (List ℕ)
traces g = traces_in (length g) (suc (length g)) g

-- what the functions are given and what they give: a wire that began at f has come to c; where the entry of c leads it, which is taken
pub record Underway (starts ends nexts firsts : List ℕ) (f c : ℕ) : Type 0 where
  pub stands : Stands starts ends nexts firsts
  pub home : f < length firsts
  pub inside : c < length firsts

pub record StepTaken (starts ends nexts : List ℕ) (f c : ℕ) (firsts firsts' : List ℕ) (r : ℕ) : Type 0 where
  pub leads : r ≡ onward f (entry c (left starts ends firsts))
  pub inside : r < length firsts
  pub left_is : left starts ends firsts' ≡ taken (entry c (left starts ends firsts)) (left starts ends firsts)
  pub stands : Stands starts ends nexts firsts'

-- the wire from f, w, from place `at` of the flat list on
pub record Begun (starts ends nexts firsts : List ℕ) (f : ℕ) (flat : List ℕ) (at : ℕ) : Type 0 where
  pub stands : Stands starts ends nexts firsts
  pub inside : f < length firsts
  pub room : at + length (trace f f (left starts ends firsts)).0 ≤ length flat

pub record Ended (starts ends nexts : List ℕ) (w : Walk) (flat : List ℕ) (at : ℕ) (firsts' flat' : List ℕ) (r : ℕ) : Type 0 where
  pub stands : Stands starts ends nexts firsts'
  pub left_is : left starts ends firsts' ≡ w.1
  pub flat_is : flat' ≡ sets flat at w.0
  pub end_is : r ≡ at + length w.0

-- one wire more, behind so many numbers and so many wires: its room, and what there is then
pub record Unwritten (starts ends nexts firsts : List ℕ) (f : ℕ) (flat lengths : List ℕ) (numbers wires : ℕ) : Type 0 where
  pub begun : Begun starts ends nexts firsts f flat numbers
  pub slot : wires < length lengths

pub record OneMore
    (starts ends nexts : List ℕ) (w : Walk) (flat lengths : List ℕ) (numbers wires : ℕ)
    (firsts' flat' lengths' : List ℕ) (numbers' wires' : ℕ) : Type 0 where
  pub ended : Ended starts ends nexts w flat numbers firsts' flat' numbers'
  pub lengths_is : lengths' ≡ set lengths wires (length w.0)
  pub wires_is : wires' ≡ wires + 1

-- room for all wires
pub record Room (ws : List (List ℕ)) (flat lengths : List ℕ) : Type 0 where
  pub numbers : length (joined ws) ≤ length flat
  pub wires : length ws ≤ length lengths

pub record AllLeft (starts ends nexts firsts flat lengths : List ℕ) : Type 0 where
  pub stands : Stands starts ends nexts firsts
  pub room : Room (traces (left starts ends firsts)) flat lengths
