-- The turning step by step, as a loop takes it: at a hem edge it stands, elsewhere it has a step left, and how many steps are allowed
-- does not matter where they are enough. Assumes nothing.
use mathlib.Core.Path.{◌≡◌, refl, sym, ◌∙◌, subst}
use mathlib.Core.Bool.{true, false}
use mathlib.Core.List.{List}
use Prim.Native.Nat.{ℕ, zero, suc}
use Rattle.lists.proofs.Bools.{by_cases}
use Rattle.lists.proofs.Counting.{clash}
use Rattle.edges.specs.Edges.{Edge, flip}
use Rattle.turning.specs.Turning.{is_hem, turn_from}

module _ (next : Edge → Edge) (h : List Edge) where
  pub turn_none : (e : Edge) → turn_from next h zero e ≡ e
  unfolding turn_from
  turn_none e = refl

  pub turn_here : (n : ℕ) (e : Edge) → is_hem h e ≡ true → turn_from next h n e ≡ e
  unfolding turn_from
  turn_here zero e p = refl
  turn_here (suc n) e p = rw (p, turn_from)

  -- one crossing on, with one step fewer
  pub turn_cross : (n : ℕ) (e : Edge) → is_hem h e ≡ false → turn_from next h (suc n) e ≡ turn_from next h n (next (flip e))
  unfolding turn_from
  turn_cross n e p = rw (p, turn_from)

  pub turn_on :
      (n : ℕ) (e : Edge) → is_hem h e ≡ false → is_hem h (turn_from next h n e) ≡ true
      → (k : ℕ) × (n ≡ suc k) × (turn_from next h n e ≡ turn_from next h k (next (flip e)))
  turn_on zero e p q = clash (subst (λ x. is_hem h x ≡ true) (turn_none e) q) p
  turn_on (suc n) e p q = (n, refl, turn_cross n e p)

  -- any two numbers of steps that are enough
  pub turn_same :
      (n m : ℕ) (e : Edge) → is_hem h (turn_from next h n e) ≡ true → is_hem h (turn_from next h m e) ≡ true
      → turn_from next h n e ≡ turn_from next h m e
  turn_same zero m e p q = turn_none e ∙ sym (turn_here m e (subst (λ x. is_hem h x ≡ true) (turn_none e) p))
  turn_same (suc n) zero e p q = turn_here (suc n) e (subst (λ x. is_hem h x ≡ true) (turn_none e) q) ∙ sym (turn_none e)
  turn_same (suc n) (suc m) e p q = go (turn_same n m (next (flip e)))
    where
      go :
          (is_hem h (turn_from next h n (next (flip e))) ≡ true → is_hem h (turn_from next h m (next (flip e))) ≡ true
          → turn_from next h n (next (flip e)) ≡ turn_from next h m (next (flip e)))
          → turn_from next h (suc n) e ≡ turn_from next h (suc m) e
      go ih =
          by_cases (is_hem h e)
          (λ r. turn_here (suc n) e r ∙ sym (turn_here (suc m) e r))
          (λ r.
          turn_cross n e r
          ∙ ih (subst (λ x. is_hem h x ≡ true) (turn_cross n e r) p) (subst (λ x. is_hem h x ≡ true) (turn_cross m e r) q)
          ∙ sym (turn_cross m e r))
