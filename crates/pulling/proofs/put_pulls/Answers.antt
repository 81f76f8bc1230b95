-- one edge more at a time
use Rattle.std.proofs.Common.{ap₂, ◌∙◌, replicate, arith}
use Rattle.std.proofs.lemmas.List.{length_push}
use Rattle.std.proofs.lemmas.Slice.Zip.{zip_turn, zip_end}
use Rattle.floating.proofs.Literals.{nought_is}
use Rattle.pulling.proofs.Pulled.{pull_begins, pull_turns, pull_ends}
use Rattle.pulling.proofs.put_pulls.Goals as goal

pub loop-a-init : goal.loop-a-init
loop-a-init c =
    pull_begins _ _ _ _ (c.fill.ensures.after (λ y e. e) ∙ ap₂ replicate c.requires.sums_long nought_is)

pub loop-a-preserved : goal.loop-a-preserved
loop-a-preserved c =
    let t = zip_turn c.args.lowers.now c.args.highers.now c.loop-a.yielded _ _ c.next.new.self _ (cc) (cc) c.loop-a.yielded_by _ c.in-Some.is c.next.ensures.steps in
    rw (length_push c.loop-a.yielded (c.in-Some.a, c.in-Some.b))
    (pull_turns _ _ _ _ _ _ _ _ _ c.requires t.0 (t.2 0) (t.3 0) c.pull_ends.ensures c.loop-a.invariant)

pub returns : goal.returns
returns c =
    let n = zip_end c.args.lowers.now c.args.highers.now c.loop-a.yielded _ _ c.next.new.self _ (cc) (cc) c.loop-a.yielded_by c.in-None.is c.next.ensures.steps in
    pull_ends _ _ _ _ _ c.requires.whole (omega arith) c.loop-a.invariant
