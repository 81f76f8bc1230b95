-- `lines::put_verdict` meets its contract: each case has its line written out, and `enum_told` says which case it is. Assumes nothing.
use mathlib.Core.Path.{ap}
use mathlib.Core.List.{List}
use Prim.Native.Nat.{ℕ}
use Rattle.text.specs.Text.{line}
use Rattle.lists.proofs.Listing.{room_as, written_as}
use Rattle.edges.specs.declared.ShellCondition.{ShellCondition}
use Rattle.lines.specs.Lines.{verdict_line}
use Rattle.edges.specs.Answers.{verdict_of}
use Rattle.lines.proofs.put_verdict.Goals as goal

abbrev told : ShellCondition → List ℕ
told v = verdict_line (verdict_of v)

pub put_bytes-requires : goal.put_bytes-requires
unfolding verdict_line verdict_of line
put_bytes-requires c = room_as (ap told c.in-Irregular.is) c.requires

pub put_bytes-requires-in-Regular : goal.put_bytes-requires-in-Regular
unfolding verdict_line verdict_of line
put_bytes-requires-in-Regular c = room_as (ap told c.in-Regular.is) c.requires

pub put_bytes-requires-in-Oriented : goal.put_bytes-requires-in-Oriented
unfolding verdict_line verdict_of line
put_bytes-requires-in-Oriented c = room_as (ap told c.in-Oriented.is) c.requires

pub put_bytes-requires-in-Closed : goal.put_bytes-requires-in-Closed
unfolding verdict_line verdict_of line
put_bytes-requires-in-Closed c = room_as (ap told c.in-Closed.is) c.requires

pub returns-in-Irregular : goal.returns-in-Irregular
unfolding verdict_line verdict_of line
returns-in-Irregular c = written_as (ap told c.in-Irregular.is) c.put_bytes.ensures

pub returns-in-Regular : goal.returns-in-Regular
unfolding verdict_line verdict_of line
returns-in-Regular c = written_as (ap told c.in-Regular.is) c.put_bytes-in-Regular.ensures

pub returns-in-Oriented : goal.returns-in-Oriented
unfolding verdict_line verdict_of line
returns-in-Oriented c = written_as (ap told c.in-Oriented.is) c.put_bytes-in-Oriented.ensures

pub returns-in-Closed : goal.returns-in-Closed
unfolding verdict_line verdict_of line
returns-in-Closed c = written_as (ap told c.in-Closed.is) c.put_bytes-in-Closed.ensures
