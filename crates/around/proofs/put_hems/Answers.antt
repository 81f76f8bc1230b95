-- `around::put_hems` meets its contract: of the first e edges those with one wing have given their ends. The measure is what is left of the edges. Assumes nothing.
use Rattle.std.proofs.Common.{ap, ◌∙◌, replicate, ℕ}
use Rattle.mesh.specs.Mesh.{missing}
use Rattle.around.proofs.Hemmed.{hem_begins, hem_turns, hem_ends}
use Rattle.around.proofs.put_hems.Goals as goal

pub loop-e-init : goal.loop-e-init
loop-e-init c = hem_begins _ _ _ _ _ _ (c.fill.ensures.after (λ y e. e)) (c.fill-2.ensures.after (λ y e. e) ∙ ap (λ (n : ℕ). replicate n missing) c.requires.second_long)

pub loop-e-preserved : goal.loop-e-preserved
loop-e-preserved c =
    hem_turns _ c.args.lowers.now c.args.highers.now c.args.wings.now (c.loop-e.first, c.loop-e.second) _ c.loop-e.e
    c.requires.edges c.loop-e-test.true c.put_hem.ensures c.loop-e.invariant

pub returns : goal.returns
returns c =
    hem_ends _ c.args.lowers.now c.args.highers.now c.args.wings.now c.loop-e.first c.loop-e.second c.loop-e.e
    c.requires.entries c.loop-e-test.false c.loop-e.invariant
