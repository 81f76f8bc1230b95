-- `numbering::number_uses` meets its contract: after x uses the rows hold them. Assumes nothing.
use Rattle.numbering.specs.Numbering.{rows}
use Rattle.numbering.proofs.Laying.{Laying}
use Rattle.numbering.proofs.number_uses.Given as goal

abbrev pub invariant-loop-x : goal.invariant-loop-x
invariant-loop-x l =
    Laying l.lower l.higher l.wing (rows l.initial.numbers l.initial.lowers l.initial.highers l.initial.firsts l.initial.seconds l.initial.wings)
    (rows l.numbers l.lowers l.highers l.firsts l.seconds l.wings) l.x l.count
