-- The steps of the code: each position keeps the last hem edge that starts there. Assumes nothing.
use Rattle.std.specs.Prelude.{List, [], ◌∷◌, ℕ, suc, ◌*◌, ◌≤◌, length, set}
use Rattle.mesh.specs.Limits.{entry_limit}
use Rattle.tracing.specs.Hems.{EdgeLists}
use Rattle.tracing.specs.Tables.{BothBlank}

-- the edges, numbered from k on, come into the first table one after the other; a later one replaces an earlier with the same start
abbrev pub numbered : ℕ → List ℕ → List ℕ → List ℕ
numbered k firsts [] = firsts
numbered k firsts (s ∷ ss) = numbered (suc k) (set firsts s k) ss

-- what ported wires are given: room for two numbers and one wire per edge
pub record Portable (starts ends flat lengths : List ℕ) : Type 0 where
  pub edges : EdgeLists starts ends entry_limit
  pub numbers : 2 * length starts ≤ length flat
  pub wires : length starts ≤ length lengths

-- the same, with blank tables
pub record PortedIn (starts ends nexts firsts flat lengths : List ℕ) : Type 0 where
  pub given : Portable starts ends flat lengths
  pub tables : BothBlank nexts firsts
