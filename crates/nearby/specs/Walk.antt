-- Groups of near points, walked with a stack, as document 01, 'Merging', has it. `r i j` says whether points i and j are near.
-- Assumes nothing.
use Rattle.std.specs.Prelude.{Bool, true, false, List, [], ◌∷◌, ◌++◌, ℕ, zero, suc, ◌+◌, ◌*◌}
use Rattle.lists.specs.Lists.{keep_if, has, joined}

-- the numbers below n that pass, the highest first: what pushing them in ascending order leaves on a stack, its top first
unfoldable pub descending : (ℕ → Bool) → ℕ → List ℕ
descending p zero = []
descending p (suc k) = keep_if (p k) k (descending p k)

-- a walk under way: what is still to be popped, and what was taken, in walk order
pub record Walk : Type 0 where
  pub stack : List ℕ
  pub group : List ℕ

abbrev pub at : List ℕ → List ℕ → Walk
at s g = record { stack = s; group = g }

abbrev pub unless_old : Bool → Walk → Walk → Walk
unless_old true old new = old
unless_old false old new = new

-- pop; if new, take it and push its near points in ascending order. New is what neither this group nor one before it has
unfoldable pub popped : (ℕ → ℕ → Bool) → ℕ → List ℕ → List ℕ → List ℕ → Walk
unfolding descending
popped r n before [] g = at [] g
popped r n before (i ∷ s) g = unless_old (has i (before ++ g)) (at s g) (at (descending (r i) n ++ s) (g ++ (i ∷ [])))

-- so many times
unfoldable pub walk : (ℕ → ℕ → Bool) → ℕ → List ℕ → ℕ → Walk → Walk
unfolding popped
walk r n before zero x = x
walk r n before (suc f) x = walk r n before f (popped r n before x.stack x.group)

-- often enough for n points: each of them is taken once, and pushes n points at most
abbrev pub often : ℕ → ℕ
often n = suc (n * (n + 1))

-- the group that is walked from i
unfoldable pub group_from : (ℕ → ℕ → Bool) → ℕ → List ℕ → ℕ → List ℕ
unfolding walk
group_from r n before i = (walk r n before (often n) (at (i ∷ []) [])).group

abbrev pub unless_has : Bool → List (List ℕ) → List (List ℕ) → List (List ℕ)
unless_has true old new = old
unless_has false old new = new

-- the groups of n points, each walked from its lowest index: those of the points below k
unfoldable pub groups_below : (ℕ → ℕ → Bool) → ℕ → ℕ → List (List ℕ)
unfolding group_from
groups_below r n zero = []
groups_below r n (suc k) =
    let gs = groups_below r n k in
    unless_has (has k (joined gs)) gs (gs ++ (group_from r n (joined gs) k ∷ []))

unfoldable pub groups : (ℕ → ℕ → Bool) → ℕ → List (List ℕ)
unfolding groups_below
groups r n = groups_below r n n
