-- Where points begin that can be compared, from point to point. Assumes nothing.
use mathlib.Core.Path.{◌≡◌, sym, subst}
use mathlib.Core.Bool.{true}
use mathlib.Core.List.{List, [], ◌∷◌}
use Prim.Native.Nat.{ℕ, suc, ◌≤◌, ◌<◌}
use lib.Dec.{eqb}
use borrow.Author.Tests.{eqb-true}
use Rattle.lists.specs.Lists.{has}
use Rattle.lists.proofs.Bools.{by_cases, true_false}
use native.Mathlib.Omega.{arith}
use lib.ListN.{length, get_or}
use Rattle.cellwise.specs.Order.{ByCell}
use Rattle.cellwise.specs.Blocks.{Low, Begun}

-- where a number stands in a list
has_place : (i : ℕ) (l : List ℕ) → has i l ≡ true → (p : ℕ) × (p < length l) × (get_or l p 0 ≡ i)
has_place i [] h = true_false (sym h)
has_place i (x ∷ l) h =
    by_cases (eqb i x)
    (λ t. (0, omega arith, sym (eqb-true i x t)))
    (λ t. let r = has_place i l (rw t at h) in (suc r.0, (let z : r.0 < length l = r.1 in omega arith), r.2))

pub place_of : {w n : ℕ} {cells order : List ℕ} → ByCell w n cells order → (i : ℕ) → i < n → (p : ℕ) × (p < n) × (get_or order p 0 ≡ i)
place_of {w} {n} {cells} {order} b i h =
    let r : (p : ℕ) × (p < length order) × (get_or order p 0 ≡ i) = has_place i order (b.placed i h) in
    (r.0, (let z : r.0 < length order = r.1 in omega (arith, b.long)), r.2)

-- the places of the points before p of the order are known, and all before s are too low for the one at p
pub record Starting (w n : ℕ) (cells order starts : List ℕ) (s p : ℕ) : Type 0 where
  pub room : n ≤ length starts
  pub upto : p ≤ n
  pub next : p < n → Low w n cells order (get_or order p 0) s
  pub known : (q : ℕ) → q < p → Low w n cells order (get_or order q 0) (get_or starts (get_or order q 0) 0)

module _ {w n : ℕ} {cells order : List ℕ} where
  pub starting_ends : {starts : List ℕ} {s p : ℕ} → ByCell w n cells order → n ≤ p → Starting w n cells order starts s p → Begun w n cells order starts
  starting_ends {starts} {s} {p} b h g = record {
    room = g.room;
    low = λ i l.
        let r = place_of b i l in
        subst (λ (j : ℕ). Low w n cells order j (get_or starts j 0)) r.2 (g.known r.0 (let z : r.0 < n = r.1 in omega arith));
  }
