-- What the two calls on wires answer and leave, given their number and their wires. Assumes nothing.
use Rattle.std.specs.Prelude.{◌≡◌, List, map, ℕ, ◌/◌, length}
use Rattle.std.proofs.lemmas.List.Edits.{sets}
use Rattle.lists.specs.Lists.{joined}
use Rattle.mesh.specs.Limits.{width}
use Rattle.mesh.specs.Listed.{Listed}
use Rattle.mesh.specs.Table.{after}
use Rattle.tracing.specs.declared.Wires.{Wires}

-- how many corners there are
abbrev pub corner_count : List ℕ → ℕ
corner_count corners = length corners / width

-- what a call with the number n and the wires ws answers, and what the two lent lists hold before and after it: on 0 the wires from
-- their beginning on, room past them unchanged, and how many numbers and wires there are; on any other number nothing is written, and
-- each count is 0
pub record Answered (n : ℕ) (ws : List (List ℕ)) (before afterwards : Listed) (answer : Wires) : Type 0 where
  pub number_is : answer.number ≡ n
  pub flat_count : answer.flat ≡ after n (length (joined ws)) 0
  pub wire_count : answer.wires ≡ after n (length ws) 0
  pub flat_is : afterwards.flat ≡ after n (sets before.flat 0 (joined ws)) before.flat
  pub lengths_is : afterwards.lengths ≡ after n (sets before.lengths 0 (map length ws)) before.lengths

-- a refusal: each count beside the number is 0
abbrev pub refused_by : ℕ → Wires
refused_by n = record { number = n; flat = 0; wires = 0 }
