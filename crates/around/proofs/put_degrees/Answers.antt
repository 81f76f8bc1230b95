-- one edge more at a time
use Rattle.std.proofs.Common.{arith}
use Rattle.std.proofs.lemmas.List.{length_push}
use Rattle.std.proofs.lemmas.Slice.Zip.{zip_turn, zip_end}
use Rattle.around.proofs.Counted.{count_begins, count_ready, count_turns, count_ends}
use Rattle.around.proofs.put_degrees.Goals as goal

pub loop-a-init : goal.loop-a-init
loop-a-init c = count_begins _ _ _ _ (c.fill.ensures.after (λ y e. e))

pub count_ends-requires : goal.count_ends-requires
count_ends-requires c =
    let t = zip_turn c.args.lowers.now c.args.highers.now c.loop-a.yielded _ _ c.next.new.self _ (cc) (cc) c.loop-a.yielded_by _ c.in-Some.is c.next.ensures.steps in
    count_ready _ _ _ _ _ _ _ c.requires t.0 (t.2 0) (t.3 0) c.loop-a.invariant

pub loop-a-preserved : goal.loop-a-preserved
loop-a-preserved c =
    let t = zip_turn c.args.lowers.now c.args.highers.now c.loop-a.yielded _ _ c.next.new.self _ (cc) (cc) c.loop-a.yielded_by _ c.in-Some.is c.next.ensures.steps in
    rw (length_push c.loop-a.yielded (c.in-Some.a, c.in-Some.b))
    (count_turns _ _ _ _ _ _ _ _ c.requires t.0 (t.2 0) (t.3 0) c.count_ends.ensures c.loop-a.invariant)

pub returns : goal.returns
returns c =
    let n = zip_end c.args.lowers.now c.args.highers.now c.loop-a.yielded _ _ c.next.new.self _ (cc) (cc) c.loop-a.yielded_by c.in-None.is c.next.ensures.steps in
    count_ends _ _ _ _ _ (omega arith) c.loop-a.invariant
