-- The root stands between the greatest of the three differences and twice that. Assumes nothing.
use Rattle.std.proofs.Common.{◌∙◌, ◌+◌, sym, ap, subst}
use Rattle.std.specs.Prelude.{max}
use Rattle.roots.specs.Roots.{Within}
use Rattle.roots.proofs.Signs.{apart_read}
use Rattle.roots.proofs.Halved.{within_all}
use Rattle.roots.proofs.Distances.{spanned_by}
use Rattle.roots.proofs.length_between.Goals as goal

pub root_between-requires : goal.root_between-requires
root_between-requires c =
    let g = c.args in
    let f = c.ranges in
    let x = c.apart-x.result in
    let y = c.apart-y.result in
    let z = c.apart-z.result in
    let least = c.max-least.result in
    let s = spanned_by (g.ax, g.ay, g.az) (g.bx, g.by, g.bz) x y z
    (c.apart-x.ensures ∙ apart_read g.ax g.bx f.ax f.bx)
    (c.apart-y.ensures ∙ apart_read g.ay g.by f.ay f.by)
    (c.apart-z.ensures ∙ apart_read g.az g.bz f.az f.bz)
    c.requires.0 c.requires.1 in
    subst (λ n. Within n least (least + least + 1)) (sym c.squared.ensures)
    (within_all x y z least s (c.max-least.ensures ∙ ap (λ k. max k z) c.max.ensures))
