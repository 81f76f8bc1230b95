-- Faces with their positions renumbered, and all else as it was. Assumes nothing.
use mathlib.Core.Path.{◌≡◌, refl, ap, ap₂}
use mathlib.Core.List.{List, [], ◌∷◌, map}
use Prim.Native.Nat.{ℕ}
use Rattle.mesh.specs.Mesh.{Ring, position}
use Rattle.order.specs.Demand.{by_position}
use Rattle.exports.specs.Covers.{renumbered_by}
use Rattle.renumbered.proofs.Joined.{repositioned}

module _ (g : ℕ → ℕ) where
  -- the faces with their positions renumbered
  abbrev pub rewritten : List Ring → List Ring
  rewritten fs = map (map (repositioned g)) fs

  pub ring_rewritten : (f : Ring) → map position (map (repositioned g) f) ≡ map (λ i. g i) (map position f)
  ring_rewritten [] = refl
  ring_rewritten (c ∷ f) = ap (λ (l : List ℕ). g (position c) ∷ l) (ring_rewritten f)

  pub rewritten_by : (fs : List Ring) → by_position (rewritten fs) ≡ renumbered_by g fs
  rewritten_by [] = refl
  rewritten_by (f ∷ fs) = ap₂ (λ (l : List ℕ) (ls : List (List ℕ)). l ∷ ls) (ring_rewritten f) (rewritten_by fs)
