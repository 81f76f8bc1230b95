-- The pieces of a face take no more than its room. Assumes nothing.
use mathlib.Core.List.{List}
use Prim.Native.Nat.{ℕ, ◌+◌, ◌*◌, ◌≤◌}
use native.Mathlib.Omega.{arith}
use lib.ListN.{length}
use Rattle.mesh.specs.Mesh.{Ring}
use Rattle.grouping.specs.Push.{Placed, corner_count}
use Rattle.splitting.proofs.Pieces.{third}
use Rattle.folding.proofs.Pieces.{Sane}

-- the pieces of a face of n corners took no more than its room
pub record Took (n c f c' f' : ℕ) : Type 0 where
  pub corners : c' ≤ c + n
  pub faces : 3 * f' ≤ 3 * f + n

pub took : (r : Ring) (ps : List Ring) (o o' l l' : List ℕ) (c f c' f' : ℕ) → Sane r ps → Placed ps o o' l l' c f c' f' → Took (length r) c f c' f'
took r ps o o' l l' c f c' f' h w =
    let y : 3 * length ps ≤ corner_count ps = third ps h.faces in
    record { corners = omega (arith, w.more, h.fewer); faces = omega (arith, w.most, h.fewer) }
