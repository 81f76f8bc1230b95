-- `mesh::Mesh::is_astray` meets its contract: with no positions each corner is astray. Assumes nothing.
use Rattle.std.proofs.Common.{◌≡◌, ◌<◌, ◌/◌, ◌*◌, ◌+◌, [], length, get_or, ap, ◌∙◌, arith, rules}
use Rattle.mesh.specs.Limits.{width}
use Rattle.mesh.specs.Mesh.{corner_at, position_count, texture_count, normal_count}
use Rattle.mesh.specs.Table.{astray_at}
use Rattle.mesh.proofs.Corners.{first_chunks-corners_in, get_or-corners_in}
use Rattle.mesh.proofs.Narrow.{strays_astray}
use Rattle.mesh.specs.Seen.{seen}
use Rattle.mesh.proofs.Rows.{straying_begins, straying_turns, straying_ends, straying_all}
use Rattle.mesh.proofs.Mesh.is_astray.Goals as goal

pub returns-then-p-eq0 : goal.returns-then-p-eq0
returns-then-p-eq0 c = rw (c.is_empty.ensures, c.as_chunks.ensures.front_len) (straying_all (seen c.args.self.now) c.if-p-eq0.true)

pub loop-position-init : goal.loop-position-init
loop-position-init c = straying_begins (seen c.args.self.now)

pub loop-position-preserved : goal.loop-position-preserved
loop-position-preserved c =
    let m = seen c.args.self.now in
    let cs = c.args.self.now.corners.now in
    let k = c.loop-position.position-index in
    let within : k < length cs / width = omega arith in
    let corner : get_or c.as_chunks.result.0.now k [] ≡ corner_at cs k =
    ap (λ r. get_or r k []) (c.as_chunks.ensures.front ∙ first_chunks-corners_in cs) ∙ get_or-corners_in cs k within in
    let here : c.is_astray-found.result ≡ astray_at m (corner_at cs k) =
    c.is_astray-found.ensures
    ∙ rw (corner, c.narrowed-last.ensures, c.narrowed-t.ensures, c.narrowed-n.ensures)
    (strays_astray (position_count m) (texture_count m) (normal_count m) (get_or cs (width * k) 0) (get_or cs (width * k + 1) 0) (get_or cs (width * k + 2) 0)
    (omega (arith, c.if-p-eq0.false)) (search rules) (search rules) (search rules)) in
    rw here (straying_turns m c.loop-position.found k within c.loop-position.invariant)

pub returns : goal.returns
returns c = straying_ends (seen c.args.self.now) _ _ (omega arith) c.loop-position.invariant
