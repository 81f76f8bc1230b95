-- `records::any_mark` meets its contract: a search that has found no mark among the first k corners. Assumes nothing.
use mathlib.Core.Bool.{true}
use Rattle.lists.proofs.Parts.{Searching}
use Rattle.records.specs.Records.{ring_from, has_mark}
use Rattle.records.proofs.any_mark.Given as goal

abbrev pub invariant-loop-k : goal.invariant-loop-k
invariant-loop-k l = Searching has_mark (ring_from true l.s l.n l.a) l.k
