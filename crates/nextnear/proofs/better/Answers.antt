-- `nextnear::better` meets its contract, by the laws of `Looking`. Assumes nothing.
use mathlib.Core.Path.{sym, ◌∙◌}
use Rattle.nearby.proofs.Fresh.{not_new, by_distance}
use Rattle.nextnear.proofs.Looking.{not_fresh, below_low, from_on, is_wanted, better_none, better_one}
use Rattle.nextnear.proofs.better.Goals as goal

pub returns-then-seen-j : goal.returns-then-seen-j
returns-then-seen-j c =
    let args = c.args in
    better_none (not_fresh args.t _ _ _ _ _ args.low args.from _ (sym (not_new args.t _ _ _ _ _ _ c.if-seen-j.true)))

pub returns-then-j-low : goal.returns-then-j-low
returns-then-j-low c = let args = c.args in better_none (below_low args.t _ _ _ _ _ args.low args.from _ c.if-j-low.true)

pub returns-then-from-j : goal.returns-then-from-j
returns-then-from-j c = let args = c.args in better_none (from_on args.t _ _ _ _ _ args.low args.from _ c.if-from-j.true)

pub returns-then-distance2-t : goal.returns-then-distance2-t
returns-then-distance2-t c =
    let if1 = c.if-j-best in
    let args = c.args in
    let if3 = c.if-j-low in
    let if4 = c.if-from-j in
    let pre = c.requires in
    let if2 = c.if-seen-j in
    let attr-at = c.attr_at in
    let attr-at2 = c.attr_at-2 in
    let distance2 = c.distance2 in
    let if5 = c.if-distance2-t in
    better_one if1.false
    (is_wanted args.t args.w args.s.now args.cells.now args.seen.now args.i args.low args.from args.j if3.false if4.false
    (sym (by_distance args.t args.w args.s.now args.cells.now args.seen.now args.i args.j pre.4 if2.false
    attr-at.result attr-at2.result distance2.result attr-at.ensures attr-at2.ensures distance2.ensures) ∙ if5.true))

pub returns : goal.returns
returns c =
    let args = c.args in
    let pre = c.requires in
    let if2 = c.if-seen-j in
    let attr-at = c.attr_at in
    let attr-at2 = c.attr_at-2 in
    let distance2 = c.distance2 in
    let if5 = c.if-distance2-t in
    better_none
    (not_fresh args.t args.w args.s.now args.cells.now args.seen.now args.i args.low args.from args.j
    (sym (by_distance args.t args.w args.s.now args.cells.now args.seen.now args.i args.j pre.4 if2.false
    attr-at.result attr-at2.result distance2.result attr-at.ensures attr-at2.ensures distance2.ensures) ∙ if5.false))
