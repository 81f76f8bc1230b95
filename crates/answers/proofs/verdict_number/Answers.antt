-- `answers::verdict_number` meets its contract: each case has its number, and `enum_told` says which case it is. Assumes nothing.
use mathlib.Core.Path.{sym, ap}
use Prim.Native.Nat.{ℕ}
use Rattle.edges.specs.Answers.{verdict_of}
use Rattle.edges.specs.declared.ShellCondition.{ShellCondition}
use Rattle.answers.specs.Answers.{verdict_number}
use Rattle.answers.proofs.verdict_number.Goals as goal

abbrev numbered : ShellCondition → ℕ
numbered v = verdict_number (verdict_of v)

pub returns-in-Irregular : goal.returns-in-Irregular
unfolding verdict_number verdict_of
returns-in-Irregular c = sym (ap numbered c.in-Irregular.is)

pub returns-in-Regular : goal.returns-in-Regular
unfolding verdict_number verdict_of
returns-in-Regular c = sym (ap numbered c.in-Regular.is)

pub returns-in-Oriented : goal.returns-in-Oriented
unfolding verdict_number verdict_of
returns-in-Oriented c = sym (ap numbered c.in-Oriented.is)

pub returns-in-Closed : goal.returns-in-Closed
unfolding verdict_number verdict_of
returns-in-Closed c = sym (ap numbered c.in-Closed.is)
