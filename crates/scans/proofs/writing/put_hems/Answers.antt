-- One use more, which is the last of an odd number, or not. Assumes nothing.
use Rattle.std.proofs.Common.{refl}
use Rattle.scans.proofs.Hemming.{hem_goes_on, hem_odd, hem_even, hem_turns, hem_ends}
use Rattle.scans.proofs.writing.put_hems.Goals as goal
use Rattle.scans.proofs.writing.put_hems.Goals.{then-not-goes_on+then-p, then-not-goes_on+else-p, else-not-goes_on}

pub loop-i-preserved : goal.loop-i-preserved
loop-i-preserved c =
    hem_turns c.args.lowers.now c.args.highers.now c.args.downs.now c.args.order.now _ _ c.loop-i.starts c.loop-i.ends c.if-not-goes_on.starts
    c.if-not-goes_on.ends c.loop-i.p c.if-not-goes_on.p c.loop-i.i c.loop-i-test.true
    (elim c.if-not-goes_on.branch [
      | then-not-goes_on+then-p w ↦
          rw (w.starts-is, w.ends-is, w.p-is)
          (hem_odd c.args.lowers.now c.args.highers.now c.args.downs.now _ _ _ _ c.goes_on.ensures _ _ _ _ _ _ _ w.if-not-goes_on.true w.if-p.true refl refl
          w.put_hem.ensures)
      | then-not-goes_on+else-p w ↦
          rw (w.starts-is, w.ends-is, w.p-is)
          (hem_even c.args.lowers.now c.args.highers.now c.args.downs.now _ _ _ _ c.goes_on.ensures _ _ _ w.if-not-goes_on.true w.if-p.false)
      | else-not-goes_on w ↦
          rw (w.starts-is, w.ends-is, w.p-is)
          (hem_goes_on c.args.lowers.now c.args.highers.now c.args.downs.now _ _ _ _ c.goes_on.ensures _ _ _ w.if-not-goes_on.false)
    ])
    c.loop-i.invariant

pub returns : goal.returns
returns c = hem_ends c.args.lowers.now c.args.highers.now c.args.downs.now c.args.order.now _ _ _ _ _ _ c.loop-i-test.false c.loop-i.invariant
