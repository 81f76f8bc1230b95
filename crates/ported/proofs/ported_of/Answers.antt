-- The first parts of the two lists are the starts and the ends of the hem edges, and these are what `trace_ported` asks for. Assumes nothing.
use Rattle.std.proofs.Common.{refl}
use Rattle.tracing.proofs.HemLists.{starts_fit, starts_counted, starts_are, ends_fit, ends_counted, ends_are, same_wires}
use Rattle.ported.proofs.Given.{portable}
use Rattle.ported.specs.Ported.{ported_wires}
use Rattle.tracing.proofs.BlankTables.{written_as}
use Rattle.ported.proofs.ported_of.Goals as goal

pub slice_bounds-starts-end : goal.slice_bounds-starts-end
slice_bounds-starts-end c =
    starts_fit c.requires.edged refl refl c.hems_of-found.ensures

pub slice_bounds-trace_ported-end : goal.slice_bounds-trace_ported-end
slice_bounds-trace_ported-end c =
    starts_counted c.requires.edged refl refl c.hems_of-found.ensures

pub slice_bounds-ends-end : goal.slice_bounds-ends-end
slice_bounds-ends-end c =
    ends_fit c.requires.edged refl refl c.hems_of-found.ensures

pub slice_bounds-trace_ported-end-2 : goal.slice_bounds-trace_ported-end-2
slice_bounds-trace_ported-end-2 c =
    ends_counted c.requires.edged refl refl c.hems_of-found.ensures

pub trace_ported-requires : goal.trace_ported-requires
trace_ported-requires c =
    portable c.requires (starts_are c.requires.edged refl refl c.hems_of-found.ensures) (ends_are c.requires.edged refl refl c.hems_of-found.ensures)

pub returns : goal.returns
returns c =
    written_as
    (same_wires ported_wires _ (starts_are c.requires.edged refl refl c.hems_of-found.ensures) (ends_are c.requires.edged refl refl c.hems_of-found.ensures))
    c.trace_ported.ensures
