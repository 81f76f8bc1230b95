-- `smoothable::any_idle` meets its contract: it is `idle_in` with the first places of a row at the limit. Assumes nothing.
use Rattle.mesh.specs.Limits.{entry_limit}
use Rattle.smoothable.proofs.Marking.{fresh_row}
use Rattle.smoothable.proofs.any_idle.Goals as goal

pub idle_in-requires : goal.idle_in-requires
idle_in-requires c = fresh_row _ c.args.positions entry_limit c.requires.entries c.requires
