-- Two tests that both hold leave nothing to refuse. Assumes nothing.
use Rattle.floating.proofs.Ranges.{fit_tests, first_holds, first_fails}
use Rattle.floating.proofs.is_unfit.Goals as goal
use Rattle.floating.proofs.is_unfit.Goals.{then-t, else-t}

pub returns : goal.returns
returns c =
    let tests = fit_tests c.args.t in
    elim c.if-t.branch [
      | then-t w ↦ first_holds tests w.if-t.true w.result-is
      | else-t w ↦ first_fails tests w.if-t.false w.result-is
    ]
