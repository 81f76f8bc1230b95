-- `lists::next_of` meets its contract: by cases on the test. Assumes nothing.
use Rattle.lists.specs.Numbers.{next_of}
use borrow.Author.Tests.{lt-ltb, le-ltb}
use native.Mathlib.Omega.{arith}
use borrow.Author.Rules.{rules}
use Rattle.lists.proofs.next_of.Statement.{statement}
use Rattle.lists.proofs.next_of.Tie as tie

add-if1 : tie.Need-overflow_add-i
add-if1 c = search rules

add-result : tie.Need-overflow_add-result
add-result c = search rules

returns : tie.Need-returns-then-i-n
unfolding next_of
returns c = (rw (lt-ltb _ _ c.if-i-n.true), c.if-i-n.true)

returns-2 : tie.Need-returns-else-i-n
unfolding next_of
returns-2 c = (rw (le-ltb _ _ c.if-i-n.false), omega arith)

pub next_of_spec : {M : Type 1} → statement M
next_of_spec = tie.close (tie.spec add-if1 add-result returns returns-2)
