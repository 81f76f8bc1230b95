-- The edges of rings whose elements are changed are the edges, changed at both ends; and where every element passes a test, both ends of
-- every edge pass it. Assumes nothing.
use mathlib.Core.Path.{◌≡◌, refl, sym, ap, ap₂, ◌∙◌}
use mathlib.Core.Bool.{Bool, true, ◌&&◌}
use mathlib.Core.List.{List, [], ◌∷◌, ◌++◌, map, map-append, map-id}
use Rattle.lists.specs.Lists.{every}
use Rattle.lists.proofs.Bools.{and_left, and_right, and_both}
use Rattle.lists.proofs.Parts.{every_append}
use Rattle.edges.specs.Edges.{ring_edges, run_edges, mesh_edges}

module _ {A B : Type 0} (f : A → B) where
  abbrev pub both : A × A → B × B
  both e = (f e.0, f e.1)

  run_changed : (a : A) (r : List A) (z : A) → run_edges (f a) (map f r) (f z) ≡ map both (run_edges a r z)
  run_changed a [] z = refl
  run_changed a (b ∷ r) z = ap (λ (l : List (B × B)). (f a, f b) ∷ l) (run_changed b r z)

  pub ring_changed : (r : List A) → ring_edges (map f r) ≡ map both (ring_edges r)
  ring_changed [] = refl
  ring_changed (a ∷ r) = run_changed a r a

  pub edges_changed : (fs : List (List A)) → mesh_edges (map (map f) fs) ≡ map both (mesh_edges fs)
  edges_changed [] = refl
  edges_changed (r ∷ fs) =
      ap₂ (λ (a b : List (B × B)). a ++ b) (ring_changed r) (edges_changed fs) ∙ sym (map-append both (ring_edges r) (mesh_edges fs))

module _ {A : Type 0} (p : A → Bool) where
  abbrev pub both_pass : A × A → Bool
  both_pass e = p e.0 && p e.1

  run_passes : (a : A) (r : List A) (z : A) → p a ≡ true → p z ≡ true → every p r ≡ true → every both_pass (run_edges a r z) ≡ true
  run_passes a [] z h k l = and_both (both_pass (a, z)) true (and_both (p a) (p z) h k) refl
  run_passes a (b ∷ r) z h k l =
      let m = and_left (p b) (every p r) l in
      and_both (both_pass (a, b)) (every both_pass (run_edges b r z)) (and_both (p a) (p b) h m) (run_passes b r z m k (and_right (p b) (every p r) l))

  pub ring_passes : (r : List A) → every p r ≡ true → every both_pass (ring_edges r) ≡ true
  ring_passes [] l = refl
  ring_passes (a ∷ r) l = let m = and_left (p a) (every p r) l in run_passes a r a m m (and_right (p a) (every p r) l)

  pub edges_pass : (fs : List (List A)) → every (every p) fs ≡ true → every both_pass (mesh_edges fs) ≡ true
  edges_pass [] l = refl
  edges_pass (r ∷ fs) l =
      every_append both_pass (ring_edges r) (mesh_edges fs)
      ∙ and_both (every both_pass (ring_edges r)) (every both_pass (mesh_edges fs))
      (ring_passes r (and_left (every p r) (every (every p) fs) l))
      (edges_pass fs (and_right (every p r) (every (every p) fs) l))

-- rings whose elements are left alone
pub rings_own : {A : Type 0} (ls : List (List A)) → map (map (λ x. x)) ls ≡ ls
rings_own [] = refl
rings_own (l ∷ ls) = λ i. map-id l i ∷ rings_own ls i
