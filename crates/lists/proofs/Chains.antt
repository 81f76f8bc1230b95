-- Connected: a chain of steps leads from the one number to the other. Assumes nothing.
use mathlib.Core.Path.{◌≡◌, refl, sym, subst}
use Prim.Native.Nat.{ℕ}

pub data Reach (R : ℕ → ℕ → Type 0) : ℕ → ℕ → Type 0 where
  here : {a b : ℕ} → a ≡ b → Reach R a b
  step : {a b c : ℕ} → R a b → Reach R b c → Reach R a c

module _ {R : ℕ → ℕ → Type 0} where
  pub reach_one : {a b : ℕ} → R a b → Reach R a b
  reach_one r = step r (here refl)

  pub reach_trans : {a b c : ℕ} → Reach R a b → Reach R b c → Reach R a c
  reach_trans {c = c} (here p) s = subst (λ x. Reach R x c) (sym p) s
  reach_trans (step r t) s = step r (reach_trans t s)

  pub reach_sym : ((a b : ℕ) → R a b → R b a) → {a b : ℕ} → Reach R a b → Reach R b a
  reach_sym h (here p) = here (sym p)
  reach_sym h (step {a = a} {b = b} r t) = reach_trans (reach_sym h t) (reach_one (h a b r))

-- each step of the one relation is a chain of the other: so is each chain
pub reach_bind : {R S : ℕ → ℕ → Type 0} → ((a b : ℕ) → R a b → Reach S a b) → {a b : ℕ} → Reach R a b → Reach S a b
reach_bind h (here p) = here p
reach_bind h (step {a = a} {b = b} r t) = reach_trans (h a b r) (reach_bind h t)
