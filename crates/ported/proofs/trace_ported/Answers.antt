-- The tables are blank. Assumes nothing.
use Rattle.std.proofs.Common.{refl}
use Rattle.tracing.specs.Tables.{blank}
use Rattle.ported.proofs.trace_ported.Goals as goal

pub ported_in-requires : goal.ported_in-requires
unfolding blank
ported_in-requires c =
    record { given = c.requires; tables = record { nexts_is = refl; firsts_is = refl } }
