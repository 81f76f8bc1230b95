-- What is gathered can be scanned, and the scan comes to the hem edges. Assumes nothing.
use Rattle.std.proofs.Common.{arith}
use Rattle.uses.proofs.Gathering.{uses_ready, uses_room}
use Rattle.edges.proofs.Composed.{uses_hemmed}
use Rattle.edges.proofs.hem.Goals as goal

pub put_hems-count-requires : goal.put_hems-count-requires
put_hems-count-requires c =
    let long = uses_room c.args.corners.now c.args.sizes.now _ c.requires.edged _ _ _ _ c.judge-verdict.ensures.gathered in
    record {
      ready = uses_ready c.args.corners.now c.args.sizes.now _ c.requires.edged _ _ _ _ c.judge-verdict.ensures.gathered;
      room = record { for_starts = omega (arith, long, c.requires.room.for_starts); for_ends = omega (arith, long, c.requires.room.for_ends) };
    }

pub returns : goal.returns
returns c =
    uses_hemmed c.args.corners.now c.args.sizes.now _ c.requires.edged _ _ _ _ c.judge-verdict.ensures.gathered _ _ _ _ _ _
    c.judge-verdict.ensures.verdict_is c.put_hems-count.ensures
