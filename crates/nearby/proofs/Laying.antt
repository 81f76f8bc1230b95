-- Groups that are laid out one after the other, and the rules' groups with that of one point more. Assumes nothing.
use mathlib.Core.Path.{◌≡◌, refl, ap, ◌∙◌}
use mathlib.Core.Bool.{Bool, true, false}
use mathlib.Core.List.{List, [], ◌∷◌, ◌++◌}
use Prim.Native.Nat.{ℕ, zero, suc, ◌+◌, ◌<◌}
use native.Mathlib.Omega.{arith}
use native.Mathlib.Numerals.{add-one}
use Rattle.lists.specs.Lists.{has, joined}
use Rattle.lists.specs.Numbers.{count_below}
use Rattle.nearby.specs.Walk.{group_from, groups_below}
use Rattle.nearby.specs.Engine.{group_at, laid_out}

-- ---- the groups, with those of point k

module _ (r : ℕ → ℕ → Bool) (n k : ℕ) where
  pub old_group : has k (joined (groups_below r n k)) ≡ true → groups_below r n (k + 1) ≡ groups_below r n k
  unfolding groups_below
  old_group e = rw (add-one, e)

  pub new_group :
      has k (joined (groups_below r n k)) ≡ false
      → groups_below r n (k + 1) ≡ groups_below r n k ++ (group_from r n (joined (groups_below r n k)) k ∷ [])
  unfolding groups_below
  new_group e = rw (add-one, e)

-- all below n pass
pub count_full : (p : ℕ → Bool) (n : ℕ) → ((k : ℕ) → k < n → p k ≡ true) → count_below p n ≡ n
unfolding count_below
count_full p zero h = refl
count_full p (suc n) h = rw (h n (omega arith), count_full p n (λ k l. h k (let z : k < n = l in omega arith)))

-- ---- what is laid out

pub laid_none : (order ends : List ℕ) → laid_out order ends 0 ≡ []
unfolding laid_out
laid_none order ends = refl

pub laid_more : (order ends : List ℕ) (k : ℕ) → laid_out order ends (k + 1) ≡ laid_out order ends k ++ (group_at order ends k ∷ [])
unfolding laid_out
laid_more order ends k = rw add-one

-- groups that are the same, one by one
pub laid_same :
    (order order' ends ends' : List ℕ) (c : ℕ) → ((k : ℕ) → k < c → group_at order' ends' k ≡ group_at order ends k)
    → laid_out order' ends' c ≡ laid_out order ends c
unfolding laid_out
laid_same order order' ends ends' zero h = refl
laid_same order order' ends ends' (suc c) h =
    ap (λ (l : List (List ℕ)). l ++ (group_at order' ends' c ∷ [])) (laid_same order order' ends ends' c (λ k l. h k (let z : k < c = l in omega arith)))
    ∙ ap (λ (g : List ℕ). laid_out order ends c ++ (g ∷ [])) (h c (omega arith))
