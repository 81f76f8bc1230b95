-- `mesh::offset` meets its contract: sizes of at most 2 ^ 32 - 1 each, so that the sum cannot wrap. Assumes nothing.
use Rattle.std.proofs.Common.{◌≡◌, length, get_or, take, arith}
use Rattle.std.proofs.lemmas.List.{length-take-le, get_or-take}
use Rattle.mesh.proofs.Rows.{adding_turns, adding_ends}
use Rattle.mesh.proofs.offset.Goals as goal

pub loop-n-preserved : goal.loop-n-preserved
loop-n-preserved c =
    let k = c.args.k in
    let s = c.args.sizes.now in
    let i = c.loop-n.n-index in
    let long : length (take k s) ≡ k = length-take-le k s (omega arith) in
    let same : get_or (take k s) i 0 ≡ get_or s i 0 = get_or-take k s i 0 (omega arith) in
    rw same (adding_turns s k _ i (omega arith) (omega arith) (omega arith) c.loop-n.invariant)

pub returns : goal.returns
returns c =
    let long : length (take c.args.k c.args.sizes.now) ≡ c.args.k = length-take-le _ c.args.sizes.now (omega arith) in
    (adding_ends _ _ _ _ (omega arith) c.loop-n.invariant, omega arith)
