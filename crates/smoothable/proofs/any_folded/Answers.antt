-- `smoothable::any_folded` meets its contract: a search through the triangles. Assumes nothing.
use Rattle.std.proofs.Common.{◌∙◌, [], arith}
use Rattle.lists.proofs.Parts.{search_turns, search_finds, search_ends}
use Rattle.folding.specs.Folding.{folded}
use Rattle.smoothed.specs.Columns.{triangles}
use Rattle.smoothed.proofs.Triangles.{length_triangles}
use Rattle.smoothable.proofs.Tests.{folded_here}
use Rattle.smoothable.proofs.any_folded.Goals as goal

pub returns-then-degenerate_triangle : goal.returns-then-degenerate_triangle
returns-then-degenerate_triangle c =
    let cs = c.args.corners.now in
    search_finds folded [] (triangles cs) _ (omega (arith, length_triangles cs, c.loop-k-test.true))
    (folded_here cs _ _ _ c.loop-k-test.true c.triangle_at.ensures c.degenerate_triangle.ensures ∙ c.if-degenerate_triangle.true)

pub loop-k-preserved : goal.loop-k-preserved
loop-k-preserved c =
    let cs = c.args.corners.now in
    search_turns folded [] (triangles cs) _ (omega (arith, length_triangles cs, c.loop-k-test.true))
    (folded_here cs _ _ _ c.loop-k-test.true c.triangle_at.ensures c.degenerate_triangle.ensures ∙ c.if-degenerate_triangle.false)
    c.loop-k.invariant

pub returns : goal.returns
returns c =
    let cs = c.args.corners.now in
    search_ends folded [] (triangles cs) _ (omega (arith, length_triangles cs, c.loop-k-test.false)) c.loop-k.invariant
