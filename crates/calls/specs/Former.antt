-- The rule of document 01 for house wires, which request 5 of document 02 replaced, kept for one example: at each position it took the
-- unused hem edge with the smallest end. Which end is smallest goes by the numbers, so that one cover had another number of hems when its
-- faces stood in another order. No call goes by it. Assumes nothing.
use Rattle.std.specs.Prelude.{◌≡◌, true, false, cond, List, [], ◌∷◌, ℕ, zero, suc, eqb, length}
use Rattle.std.proofs.Math.Option.{Option, none, some}
use Rattle.mesh.specs.Mesh.{Mesh, faces}
use Rattle.unused.specs.Compaction.{compacted}
use Rattle.edges.specs.Edges.{Edge, edges_of, hems}
use Rattle.tracing.specs.Following.{lesser, least_start_lem, without, Walk, longer}
use Rattle.calls.specs.Begun.{touching, touching_later}

-- the smallest end of the edges that start at s
abbrev pub least_end : ℕ → List Edge → Option ℕ
least_end s [] = none
least_end s (e ∷ h) = cond (eqb s e.0) (lesser e.1 (least_end s h)) (least_end s h)

-- from c on, at each position by the unused hem edge with the smallest end; the wire closes when it first comes back to its first
-- position f. The first argument bounds the steps: the number of edges is enough.
unfoldable pub former_walk : ℕ → ℕ → ℕ → List Edge → Walk
former_walk zero f c h = ([], h)
former_walk (suc n) f c h =
    elim (least_end c h) [
      | none ↦ (c ∷ [], h)
      | some e ↦ elim (eqb f e) [ true ↦ (c ∷ [], without (c, e) h) | false ↦ longer c (former_walk n f e (without (c, e) h)) ]
    ]

-- begin at the smallest start of an unused hem edge, until none is left
unfoldable pub former_from : ℕ → ℕ → List Edge → List (List ℕ)
former_from zero m h = []
former_from (suc n) m h =
    elim (least_start_lem h) [ none ↦ [] | some s ↦ let w : Walk = former_walk m s s h in w.0 ∷ former_from n m w.1 ]

-- the hems of a mesh by that rule
unfoldable pub former_hems : Mesh → List (List ℕ)
former_hems m = former_from (length (hems (edges_of (faces m)))) (length (hems (edges_of (faces m)))) (hems (edges_of (faces m)))

-- the reason for request 5: two triangles with a third that touches them at one point had two hems by that rule, and with the last two
-- exchanged one; the rule of now has two in either (`TouchingHems`)
pub record OneHemBefore : Type 0 where
  pub two_before : former_hems (compacted touching) ≡ (0 ∷ 1 ∷ 2 ∷ 3 ∷ []) ∷ (2 ∷ 4 ∷ 5 ∷ []) ∷ []
  pub one_before : former_hems (compacted touching_later) ≡ (0 ∷ 1 ∷ 2 ∷ 3 ∷ 4 ∷ 2 ∷ 5 ∷ []) ∷ []
