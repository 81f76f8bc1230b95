-- One wire more, whose length is a small number, or none. Assumes nothing.
use Rattle.std.proofs.Common.{sym, ◌∙◌, arith}
use Rattle.trailing.proofs.Walking.{add_none, add_walkable, add_slot, add_small, add_one_more}
use Rattle.trailing.proofs.trace_one.Goals as goal

pub returns-then-not-is_left : goal.returns-then-not-is_left
returns-then-not-is_left c = add_none c.requires (sym c.is_left.ensures ∙ c.if-not-is_left.true)

pub trace_wire-end-requires : goal.trace_wire-end-requires
trace_wire-end-requires c =
    add_walkable c.requires (sym c.is_left.ensures ∙ c.if-not-is_left.false)

pub overflow_cast-lengths : goal.overflow_cast-lengths
overflow_cast-lengths c =
    let is = sym c.is_left.ensures ∙ c.if-not-is_left.false in
    omega (arith, c.trace_wire-end.ensures.end_is, add_small c.requires is)

pub bounds-lengths-k : goal.bounds-lengths-k
bounds-lengths-k c =
    let is = sym c.is_left.ensures ∙ c.if-not-is_left.false in
    add_slot c.requires is

pub returns : goal.returns
returns c =
    let is = sym c.is_left.ensures ∙ c.if-not-is_left.false in
    add_one_more c.requires is c.trace_wire-end.ensures
