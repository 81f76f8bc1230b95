-- The document's walk, a turn at a time: a point that is old, one that is new, and a run of points of which none is taken. Assumes
-- nothing.
use mathlib.Core.Path.{◌≡◌, refl, sym, ap, ◌∙◌, subst}
use mathlib.Core.Bool.{Bool, true, false}
use mathlib.Core.List.{List, [], ◌∷◌, ◌++◌}
use Prim.Native.Nat.{ℕ, zero, suc, ◌+◌, ◌-◌, ◌≤◌, ◌<◌}
use native.Mathlib.Omega.{arith}
use lib.Dec.{eqb}
use borrow.Author.Tests.{eqb-true, eqb-false}
use Rattle.lists.specs.Lists.{has}
use Rattle.lists.proofs.Bools.{by_cases}
use Rattle.nearby.specs.Walk.{descending, at, popped, walk}

module _ (r : ℕ → ℕ → Bool) (n : ℕ) (before : List ℕ) where
  pub turn_old : (f i : ℕ) (s g : List ℕ) → has i (before ++ g) ≡ true → walk r n before (suc f) (at (i ∷ s) g) ≡ walk r n before f (at s g)
  unfolding walk popped
  turn_old f i s g h = rw h

  pub turn_new :
      (f i : ℕ) (s g : List ℕ) → has i (before ++ g) ≡ false
      → walk r n before (suc f) (at (i ∷ s) g) ≡ walk r n before f (at (descending (r i) n ++ s) (g ++ (i ∷ [])))
  unfolding walk popped
  turn_new f i s g h = rw h

  pub walk_ends : (f : ℕ) (g : List ℕ) → walk r n before f (at [] g) ≡ at [] g
  unfolding walk popped
  walk_ends zero g = refl
  walk_ends (suc f) g = walk_ends f g

-- the numbers that pass, where the highest does, where it does not, and where there is none
pub keep : (p : ℕ → Bool) (k : ℕ) → p k ≡ true → descending p (suc k) ≡ k ∷ descending p k
unfolding descending
keep p k h = rw h

pub pass : (p : ℕ → Bool) (k : ℕ) → p k ≡ false → descending p (suc k) ≡ descending p k
unfolding descending
pass p k h = rw h

pub none : (p : ℕ → Bool) → descending p 0 ≡ []
unfolding descending
none p = refl

-- ---- a run of points that are not near, or old: the walk pops them, and takes none

pub record Past (r : ℕ → ℕ → Bool) (n : ℕ) (before : List ℕ) (i l m : ℕ) (s g : List ℕ) (f : ℕ) : Type 0 where
  pub fuel : ℕ
  pub spent : f ≤ fuel + (l - m)
  pub same : walk r n before f (at (descending (r i) l ++ s) g) ≡ walk r n before fuel (at (descending (r i) m ++ s) g)

module _ (r : ℕ → ℕ → Bool) (n : ℕ) (before : List ℕ) (i m : ℕ) (s g : List ℕ) where
  past_none : (f : ℕ) → Past r n before i m m s g f
  past_none f = record { fuel = f; spent = omega arith; same = refl }

  past_one :
      (l f f' : ℕ)
      → m ≤ l
      → f ≤ suc f'
      → walk r n before f (at (descending (r i) (suc l) ++ s) g) ≡ walk r n before f' (at (descending (r i) l ++ s) g)
      → Past r n before i l m s g f'
      → Past r n before i (suc l) m s g f
  past_one l f f' h a e p = record { fuel = p.fuel; spent = omega (arith, p.spent); same = e ∙ p.same }

  past_suc :
      (l f : ℕ) → m ≤ l → suc l - m ≤ f → (r i l ≡ true → has l (before ++ g) ≡ true)
      → ((f' : ℕ) → l - m ≤ f' → Past r n before i l m s g f')
      → Past r n before i (suc l) m s g f
  past_suc l zero h e o again = absurd (let z : m ≤ l = h in let y : suc l - m ≤ 0 = e in omega arith)
  past_suc l (suc f) h e o again =
      let z : m ≤ l = h in
      let y : suc l - m ≤ suc f = e in
      by_cases (r i l)
      (λ t.
      past_one l (suc f) f h (omega arith)
      (ap (λ (d : List ℕ). walk r n before (suc f) (at (d ++ s) g)) (keep (r i) l t) ∙ turn_old r n before f l (descending (r i) l ++ s) g (o t))
      (again f (omega arith)))
      (λ t.
      past_one l (suc f) (suc f) h (omega arith)
      (ap (λ (d : List ℕ). walk r n before (suc f) (at (d ++ s) g)) (pass (r i) l t))
      (again (suc f) (omega arith)))

  pub past :
      (l f : ℕ) → m ≤ l → l - m ≤ f → ((k : ℕ) → m ≤ k → k < l → r i k ≡ true → has k (before ++ g) ≡ true)
      → Past r n before i l m s g f
  past zero f h e o = let z : m ≤ 0 = h in let y : m ≡ 0 = omega arith in subst (λ (x : ℕ). Past r n before i x m s g f) y (past_none f)
  past (suc l) f h e o =
      by_cases (eqb (suc l) m)
      (λ t. subst (λ (x : ℕ). Past r n before i x m s g f) (sym (eqb-true (suc l) m t)) (past_none f))
      (λ t.
      let ne : suc l ≡ m → ⊥ = eqb-false (suc l) m t in
      let z : m ≤ suc l = h in
      let y : m ≤ l = omega arith in
      past_suc l f y e (o l y (omega arith)) (λ f' e'. past l f' y e' (λ k a b. o k a (let x : k < l = b in omega arith))))
