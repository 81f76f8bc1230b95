-- The search for the first i, and for it the first j after i, with equal keys, and what it says: a ring is folded exactly where the
-- search finds a pair. Assumes nothing.
use mathlib.Core.Path.{◌≡◌, refl, sym, ◌∙◌}
use mathlib.Core.Bool.{Bool, true, false}
use mathlib.Core.List.{List, [], ◌∷◌, map}
use Prim.Native.Nat.{ℕ, zero, suc, ◌+◌, ◌-◌, ◌≤◌, ◌<◌}
use native.Mathlib.Nat.{le_of_suc-le-suc, not-suc-le-zero}
use native.Mathlib.Omega.{arith}
use lib.ListN.{length, get_or, length-map}
use lib.Dec.{ltb, eqb}
use borrow.Author.Tests.{ltb-true, ltb-false}
use Rattle.lists.specs.Lists.{has}
use Rattle.lists.proofs.Bools.{by_cases, true_false, or_left, or_right, or_neither}
use Rattle.lists.proofs.Numbers.{seek_low, seek_found, seek_before}
use Rattle.lists.proofs.Parts.{some_true_at, some_none}
use Rattle.splitting.specs.Splitting.{twice, mate_of, first_mated, folded_by, first_by, second_by}

-- ---- the mate of i stands after it, with its key, and none before it does

same_as : List ℕ → ℕ → ℕ → Bool
same_as ps i j = eqb (get_or ps i 0) (get_or ps j 0)

pub mate_after : (ps : List ℕ) (i : ℕ) → i < mate_of ps i
unfolding mate_of same_as
mate_after ps i = omega (arith, seek_low (same_as ps i) (length ps - (i + 1)) (i + 1))

pub mate_equal : (ps : List ℕ) (i : ℕ) → mate_of ps i < length ps → eqb (get_or ps i 0) (get_or ps (mate_of ps i) 0) ≡ true
unfolding mate_of same_as
mate_equal ps i h =
    seek_found (same_as ps i) (length ps - (i + 1)) (i + 1)
    (omega (arith, h, seek_low (same_as ps i) (length ps - (i + 1)) (i + 1)))

pub mate_first : (ps : List ℕ) (i j : ℕ) → i < j → j < mate_of ps i → eqb (get_or ps i 0) (get_or ps j 0) ≡ false
unfolding mate_of same_as
mate_first ps i j h l = seek_before (same_as ps i) (length ps - (i + 1)) (i + 1) j (omega arith) l

-- ---- the first i has a mate, and none before it does

has_mate : List ℕ → ℕ → Bool
has_mate ps i = ltb (mate_of ps i) (length ps)

pub first_mated_lem : (ps : List ℕ) → first_mated ps < length ps → mate_of ps (first_mated ps) < length ps
unfolding first_mated has_mate
first_mated_lem ps h = ltb-true _ _ (seek_found (has_mate ps) (length ps) 0 (omega (arith, h)))

pub first_first : (ps : List ℕ) (i : ℕ) → i < first_mated ps → length ps ≤ mate_of ps i
unfolding first_mated has_mate
first_first ps i h = ltb-false _ _ (seek_before (has_mate ps) (length ps) 0 i (omega arith) h)

-- ---- a number stands twice exactly where the search finds a pair

twice_at : (ps : List ℕ) (i j : ℕ) → i < j → j < length ps → eqb (get_or ps i 0) (get_or ps j 0) ≡ true → twice ps ≡ true
twice_at [] i j h l e = absurd (not-suc-le-zero l)
twice_at (p ∷ ps) zero zero h l e = absurd (not-suc-le-zero h)
twice_at (p ∷ ps) zero (suc j) h l e = or_left (has p ps) (twice ps) (some_true_at (eqb p) 0 ps j (le_of_suc-le-suc l) e)
twice_at (p ∷ ps) (suc i) zero h l e = absurd (not-suc-le-zero h)
twice_at (p ∷ ps) (suc i) (suc j) h l e =
    or_right (has p ps) (twice ps) (twice_at ps i j (le_of_suc-le-suc h) (le_of_suc-le-suc l) e)

twice_none : (ps : List ℕ) → ((i j : ℕ) → i < j → j < length ps → eqb (get_or ps i 0) (get_or ps j 0) ≡ false) → twice ps ≡ false
twice_none [] f = refl
twice_none (p ∷ ps) f =
    or_neither (has p ps) (twice ps)
    (some_none (eqb p) 0 ps (λ k h. f 0 (suc k) (omega arith) (let l : k < length ps = h in omega arith)))
    (twice_none ps (λ i j h l. f (suc i) (suc j) (let k : i < j = h in omega arith) (let k : j < length ps = l in omega arith)))

pub twice_found : (ps : List ℕ) → first_mated ps < length ps → twice ps ≡ true
twice_found ps h =
    twice_at ps (first_mated ps) (mate_of ps (first_mated ps)) (mate_after ps (first_mated ps)) (first_mated_lem ps h) (mate_equal ps (first_mated ps) (first_mated_lem ps h))

pub twice_missing : (ps : List ℕ) → length ps ≤ first_mated ps → twice ps ≡ false
twice_missing ps h =
    twice_none ps (λ i j a b.
    let m : length ps ≤ mate_of ps i = first_first ps i (let a' : i < j = a in let b' : j < length ps = b in omega arith) in
    mate_first ps i j a (let b' : j < length ps = b in omega arith))

-- ---- so with a ring

-- a folded ring has its pair: i before j, j within
pub record Pair {A : Type 0} (r : List A) (i j : ℕ) : Type 0 where
  pub ordered : i < j
  pub within : j < length r

module _ {A : Type 0} (key : A → ℕ) where
  pub folded_found : (r : List A) → first_by key r < length r → folded_by key r ≡ true
  unfolding folded_by
  folded_found r h = twice_found (map key r) (rw (length-map r key) h)

  pub folded_missing : (r : List A) → length r ≤ first_by key r → folded_by key r ≡ false
  unfolding folded_by
  folded_missing r h = twice_missing (map key r) (rw (length-map r key) h)

  pub folded_pair : (r : List A) → folded_by key r ≡ true → Pair r (first_by key r) (second_by key r)
  unfolding folded_by
  folded_pair r e =
      let ps = map key r in
      let n : length ps ≡ length r = length-map r key in
      by_cases (ltb (first_mated ps) (length ps))
      (λ b.
      let m : mate_of ps (first_mated ps) < length ps = first_mated_lem ps (ltb-true _ _ b) in
      record { ordered = mate_after ps (first_mated ps); within = omega arith })
      (λ b. true_false (sym e ∙ twice_missing ps (ltb-false _ _ b)))
