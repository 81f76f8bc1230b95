-- Two tests that both hold leave nothing to refuse. Assumes nothing.
use Rattle.floating.specs.Limits.{quotient}
use Rattle.floating.proofs.Ranges.{short_tests, first_holds, first_fails}
use Rattle.floating.proofs.is_distant.Goals as goal
use Rattle.floating.proofs.is_distant.Goals.{then-q, else-q}

pub returns : goal.returns
returns c =
    let tests = short_tests (quotient c.args.t c.args.x) in
    elim c.if-q.branch [
      | then-q w ↦ first_holds tests w.if-q.true w.result-is
      | else-q w ↦ first_fails tests w.if-q.false w.result-is
    ]
