-- The edges of a ring: begun elsewhere it has the same, each as often. Assumes nothing.
use mathlib.Core.Path.{◌≡◌, refl, ap, ◌∙◌}
use mathlib.Core.Bool.{Bool}
use mathlib.Core.List.{List, [], ◌∷◌, ◌++◌, append_assoc, append-nil}
use Rattle.lists.specs.Lists.{count}
use Rattle.lists.proofs.Counting.{bump_plus, count_append}
use Rattle.verdicts.specs.Edges.{run_edges, ring_edges}

module _ {A : Type 0} where
  pub run_snoc : (a : A) (r : List A) (c z : A) → run_edges a (r ++ (c ∷ [])) z ≡ run_edges a r c ++ ((c, z) ∷ [])
  run_snoc a [] c z = refl
  run_snoc a (b ∷ r) c z = ap (λ l. (a, b) ∷ l) (run_snoc b r c z)

  -- one corner on
  ring_next : (p : A × A → Bool) (c : A) (r : List A) → count p (ring_edges (c ∷ r)) ≡ count p (ring_edges (r ++ (c ∷ [])))
  ring_next p c [] = refl
  ring_next p c (b ∷ r) =
      rw (run_snoc b r c b, count_append p (run_edges b r c) ((c, b) ∷ [])) (bump_plus (p (c, b)) (count p (run_edges b r c)))

  -- any number of corners on
  pub ring_turn : (p : A × A → Bool) (a b : List A) → count p (ring_edges (a ++ b)) ≡ count p (ring_edges (b ++ a))
  ring_turn p [] b = rw append-nil
  ring_turn p (x ∷ a) b =
      ring_next p x (a ++ b)
      ∙ ap (λ l. count p (ring_edges l)) (append_assoc a b (x ∷ []))
      ∙ ring_turn p a (b ++ (x ∷ []))
      ∙ ap (λ l. count p (ring_edges l)) (append_assoc b (x ∷ []) a)
