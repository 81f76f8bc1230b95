-- What is gathered can be scanned, and the scan comes to the verdict. Assumes nothing.
use Rattle.std.proofs.Common.{◌∙◌}
use Rattle.uses.proofs.Gathering.{uses_ready}
use Rattle.edges.proofs.Composed.{uses_verdict}
use Rattle.edges.proofs.judge.Goals as goal

pub tally_uses-requires : goal.tally_uses-requires
tally_uses-requires c =
    uses_ready c.args.corners.now c.args.sizes.now _ c.requires.edged _ _ _ _ c.gather.ensures

pub returns : goal.returns
returns c =
    record {
      gathered = c.gather.ensures;
      verdict_is =
          c.name_of.ensures
          ∙ uses_verdict c.args.corners.now c.args.sizes.now _ c.requires.edged _ _ _ _ c.gather.ensures _ c.tally_uses.ensures;
    }
