-- Two tests that both hold leave nothing to refuse. Assumes nothing.
use Rattle.floating.proofs.Ranges.{bounded_tests, first_holds, first_fails}
use Rattle.floating.proofs.is_boundless.Goals as goal
use Rattle.floating.proofs.is_boundless.Goals.{then-x, else-x}

pub returns : goal.returns
returns c =
    let tests = bounded_tests c.args.x in
    elim c.if-x.branch [
      | then-x w ↦ first_holds tests w.if-x.true w.result-is
      | else-x w ↦ first_fails tests w.if-x.false w.result-is
    ]
