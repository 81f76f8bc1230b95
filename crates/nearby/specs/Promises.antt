-- 'Groups are the connected sets of near points. A group is walked from its lowest index.' Proved in proofs/. Assumes nothing.
use Rattle.std.specs.Prelude.{◌≡◌, Bool, true, false, List, [], ◌∷◌, ℕ, ◌/◌, ◌<◌, eqb, ltb, length, Float}
use Rattle.lists.specs.Lists.{every, joined, count, together}
use Rattle.lists.proofs.Chains.{Reach}
use Rattle.lists.proofs.Members.{In}
use Rattle.nearby.specs.Pairs.{near_at}
use Rattle.nearby.specs.Walk.{groups}

-- near goes both ways
abbrev pub NearBothWays : Type 0
NearBothWays = (t : Float) (w : ℕ) (s : List Float) (i j : ℕ) → near_at t w s i j ≡ near_at t w s j i

-- two of n points that are near, where r says which are
abbrev pub Near : (ℕ → ℕ → Bool) → ℕ → ℕ → ℕ → Type 0
Near r n a b = (a < n) × (b < n) × (r a b ≡ true)

-- the first of a group is below all others
abbrev pub lowest_first : List ℕ → Bool
lowest_first [] = false
lowest_first (i ∷ g) = every (ltb i) g

-- gs are the connected sets of n points, each walked from its lowest index: each point stands in exactly one group, once; two points
-- stand in one group exactly where a chain of near points leads from the one to the other
pub record ConnectedSets (r : ℕ → ℕ → Bool) (n : ℕ) (gs : List (List ℕ)) : Type 0 where
  pub once : (i : ℕ) → i < n → count (eqb i) (joined gs) ≡ 1
  pub inside : (i : ℕ) → In i (joined gs) → i < n
  pub chained : (i j : ℕ) → together i j gs ≡ true → Reach (Near r n) i j
  pub grouped : (i j : ℕ) → i < n → Reach (Near r n) i j → together i j gs ≡ true
  pub lowest : every lowest_first gs ≡ true

-- the groups of the points of a list s, of width w, at a tolerance t
abbrev pub GroupsConnected : Type 0
GroupsConnected =
    (t : Float) (w : ℕ) (s : List Float) → ConnectedSets (near_at t w s) (length s / w) (groups (near_at t w s) (length s / w))
