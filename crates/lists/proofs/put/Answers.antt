-- `lists::put` meets its contract: a part is overwritten by as many numbers as it has. Assumes nothing.
use Rattle.std.proofs.Common.{refl, sym, ap, subst, arith, ◌≡◌, ◌∙◌, ◌+◌, length}
use Rattle.std.proofs.lemmas.List.Edits.{sets}
use Rattle.std.specs.Prelude.{slice_set, take}
use lib.Seq.{take-length}
use Rattle.lists.proofs.Writing.{Copying, copy_turns}
use Rattle.lists.proofs.put.Goals as goal

pub loop-i-init : goal.loop-i-init
loop-i-init g c = record { within = omega arith; copied = refl; long = refl }

pub loop-i-preserved : goal.loop-i-preserved
loop-i-preserved g c =
    let x = c.index-part-i.result in
    subst (λ y. Copying c.args.part.now c.args.out.now (slice_set c.loop-i.out (c.args.at + c.loop-i.i) y) c.args.at (c.loop-i.i + 1)) (sym c.index-part-i.is)
    (copy_turns x _ _ _ _ _ c.loop-i-test.true c.loop-i.invariant)

pub returns : goal.returns
returns g c =
    let l = c.loop-i in
    let part = c.args.part.now in
    let out = c.args.out.now in
    let at = c.args.at in
    let e : l.i ≡ length part = omega (arith, l.invariant.within, c.loop-i-test.false) in
    l.invariant.copied ∙ ap (λ n. sets out at (take n part)) e ∙ ap (sets out at) (take-length part)
