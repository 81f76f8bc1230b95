-- A list whose elements are changed, read at a place or from a place on; and tests that agree on what is looked at. Assumes nothing.
use mathlib.Core.Path.{◌≡◌, refl, ap₂}
use mathlib.Core.Bool.{Bool, true}
use mathlib.Core.List.{List, [], ◌∷◌, map}
use Prim.Native.Nat.{ℕ, zero, suc, ◌+◌, ◌≤◌, ◌<◌}
use native.Mathlib.Nat.{le_of_suc-le-suc, not-suc-le-zero}
use native.Mathlib.Omega.{arith}
use lib.ListN.{length, get_or, drop}
use Rattle.lists.specs.Lists.{only, keep_if, has}
use Rattle.lists.specs.Numbers.{seek, stop_at}
use Rattle.lists.proofs.Members.{in_head, in_tail}

module _ {A B : Type 0} (f : A → B) where
  -- what stands at a place of the changed list is what stood there, changed
  pub map_at : (d : A) (e : B) (l : List A) (k : ℕ) → k < length l → get_or (map f l) k e ≡ f (get_or l k d)
  map_at d e [] k h = absurd (not-suc-le-zero h)
  map_at d e (x ∷ l) zero h = refl
  map_at d e (x ∷ l) (suc k) h = map_at d e l k (le_of_suc-le-suc h)

  -- the rest of the changed list is the rest, changed
  pub map_drop : (n : ℕ) (l : List A) → map f (drop n l) ≡ drop n (map f l)
  map_drop zero l = refl
  map_drop (suc n) [] = refl
  map_drop (suc n) (x ∷ l) = map_drop n l

-- two tests that agree on the numbers of a list keep the same of them
pub only_same : (p q : ℕ → Bool) (l : List ℕ) → ((x : ℕ) → has x l ≡ true → p x ≡ q x) → only p l ≡ only q l
only_same p q [] h = refl
only_same p q (y ∷ l) h =
    ap₂ (λ (b : Bool) (t : List ℕ). keep_if b y t) (h y (in_head y l)) (only_same p q l (λ x i. h x (in_tail x y l i)))

-- two tests that agree on what is searched find the same
pub seek_same : (p q : ℕ → Bool) (c k : ℕ) → ((j : ℕ) → k ≤ j → j < k + c → p j ≡ q j) → seek p c k ≡ seek q c k
unfolding seek
seek_same p q zero k h = refl
seek_same p q (suc c) k h =
    ap₂ (λ (b : Bool) (n : ℕ). stop_at b k n)
    (h k (omega arith) (omega arith))
    (seek_same p q c (suc k) (λ j a b. h j (let a' : suc k ≤ j = a in omega arith) (let b' : j < suc k + c = b in omega arith)))
