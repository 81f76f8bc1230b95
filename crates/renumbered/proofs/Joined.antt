-- Positions that are renumbered one-to-one leave the very list of panels without the normals setting, whatever becomes of texture points
-- and normals: those may be taken for missing. Assumes nothing.
use mathlib.Core.Path.{◌≡◌, refl, sym, ap, ap₂, ◌∙◌}
use mathlib.Core.Bool.{Bool, true, false, ◌&&◌}
use mathlib.Core.List.{List, [], ◌∷◌, map}
use Prim.Native.Nat.{ℕ}
use Rattle.lists.specs.Lists.{has, every}
use Rattle.lists.proofs.Mapping.{every_map}
use Rattle.mesh.specs.Mesh.{Corner, Ring, position, texture, normal, mark}
use Rattle.panels.specs.Panels.{panels}
use Rattle.order.specs.Demand.{by_position}
use Rattle.order.specs.Pairs.{bare}
use Rattle.order.proofs.ByPosition.{barely, panels_barely}
use Rattle.renumbered.specs.Renumbered.{OneToOne}
use Rattle.renumbered.proofs.Normals.{panels_changed}

module _ (g : ℕ → ℕ) where
  -- a corner with its position renumbered
  abbrev pub repositioned : Corner → Corner
  repositioned c = g (position c) ∷ texture c ∷ normal c ∷ mark c ∷ []

  ring_repositioned : (r : List ℕ) → map bare (map (λ n. g n) r) ≡ map repositioned (map bare r)
  ring_repositioned [] = refl
  ring_repositioned (n ∷ r) = ap (λ (l : Ring). bare (g n) ∷ l) (ring_repositioned r)

  faces_repositioned : (fs : List (List ℕ)) → map (map bare) (map (map (λ n. g n)) fs) ≡ map (map repositioned) (map (map bare) fs)
  faces_repositioned [] = refl
  faces_repositioned (r ∷ fs) = ap₂ (λ (a : Ring) (b : List Ring). a ∷ b) (ring_repositioned r) (faces_repositioned fs)

  module _ (fs gs : List Ring) (ps : List ℕ) (one : OneToOne g ps)
      (inside : every (every (λ x. has x ps)) (by_position fs) ≡ true)
      (positions : by_position gs ≡ map (map (λ n. g n)) (by_position fs)) where
    abbrev within : Corner → Bool
    within c = has (position c) ps

    bare_within : (ls : List (List ℕ)) → every (every within) (map (map bare) ls) ≡ every (every (λ x. has x ps)) ls
    bare_within [] = refl
    bare_within (l ∷ ls) = λ i. every_map bare within l i && bare_within ls i

    pub panels_moved : panels false gs ≡ panels false fs
    panels_moved =
        sym (panels_barely gs)
        ∙ ap (panels false) (ap (map (map bare)) positions ∙ faces_repositioned (by_position fs))
        ∙ panels_changed repositioned within (λ a b h k. one (position a) (position b) h k) (λ a b h k. refl) false (barely fs) (bare_within (by_position fs) ∙ inside)
        ∙ panels_barely fs
