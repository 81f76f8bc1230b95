-- The first number given, row by row, and what a number 0 says of every row. Assumes nothing.
use Rattle.std.proofs.Common.{◌≡◌, ℕ, zero, suc, Bool, true, false, ◌||◌, eqb, List, [], ◌∷◌, sym, refl, arith, eqb-true}
use mathlib.Core.Bool.{or-true}
use store.Seg.{eqb_same}
use Rattle.lists.specs.Lists.{has}
use Rattle.lists.proofs.Bools.{by_cases, true_false}
use Rattle.mesh.specs.Mesh.{Mesh}
use Rattle.mesh.specs.Table.{when, first_of, over_limits, uneven, misfit, ungrouped, astray, shape_rows, shape_number, mesh_number}

-- a number that is not 0 is the first; behind a 0 the search goes on
pub first_is : (n : ℕ) (ns : List ℕ) → (n ≡ 0 → ⊥) → first_of (n ∷ ns) ≡ n
first_is zero ns h = absurd (h refl)
first_is (suc n) ns h = refl

pub first_on : (n : ℕ) (ns : List ℕ) → n ≡ 0 → first_of (n ∷ ns) ≡ first_of ns
first_on n ns h = rw h

-- where the first number given is 0, none is given
pub first_head : (n : ℕ) (ns : List ℕ) → first_of (n ∷ ns) ≡ 0 → n ≡ 0
first_head zero ns h = refl
first_head (suc n) ns h = h

pub first_tail : (n : ℕ) (ns : List ℕ) → first_of (n ∷ ns) ≡ 0 → first_of ns ≡ 0
first_tail zero ns h = h
first_tail (suc n) ns h = absurd (let z : suc n ≡ 0 = h in omega arith)

pub when_not : (b : Bool) (n : ℕ) → when b (suc n) ≡ 0 → b ≡ false
when_not true n h = absurd (let z : suc n ≡ 0 = h in omega arith)
when_not false n h = refl

-- one row: its rule says so, or it does not
pub row_given : (b : Bool) (n : ℕ) (ns : List ℕ) → b ≡ true → first_of (when b (suc n) ∷ ns) ≡ suc n
row_given b n ns e = rw e

pub row_passed : (b : Bool) (n : ℕ) (ns : List ℕ) → b ≡ false → first_of (when b (suc n) ∷ ns) ≡ first_of ns
row_passed b n ns e = rw e

-- no row of 1 to 4 is given; no row of 1 to 5 is given
pub record Shaped (m : Mesh) : Type 0 where
  pub within : over_limits m ≡ false
  pub even : uneven m ≡ false
  pub fit : misfit m ≡ false
  pub grouped : ungrouped m ≡ false

pub record Clear (m : Mesh) : Type 0 where
  pub shaped : Shaped m
  pub found : astray m ≡ false

-- a number that stands among those of which the first given is 0 is itself 0, wherever it stands
none_given : (n : ℕ) (ns : List ℕ) → first_of ns ≡ 0 → has n ns ≡ true → n ≡ 0
none_given n [] h i = true_false (sym i)
none_given n (zero ∷ ns) h i =
    by_cases (eqb n 0)
    (λ e. eqb-true n 0 e)
    (λ e. none_given n ns h (let z : (eqb n 0 || has n ns) ≡ true = i in rw e at z))
none_given n (suc k ∷ ns) h i = absurd (let z : suc k ≡ 0 = h in omega arith)

-- whatever the order of the rows
pub shaped : (m : Mesh) → shape_number m ≡ 0 → Shaped m
unfolding shape_number
shaped m h = record {
  within = when_not (over_limits m) 0 (none_given (when (over_limits m) 1) (shape_rows m) h (simp (eqb_same, or-true)));
  even = when_not (uneven m) 1 (none_given (when (uneven m) 2) (shape_rows m) h (simp (eqb_same, or-true)));
  fit = when_not (misfit m) 2 (none_given (when (misfit m) 3) (shape_rows m) h (simp (eqb_same, or-true)));
  grouped = when_not (ungrouped m) 3 (none_given (when (ungrouped m) 4) (shape_rows m) h (simp (eqb_same, or-true)));
}

pub clear : (m : Mesh) → mesh_number m ≡ 0 → Clear m
unfolding mesh_number
clear m h = record {
  shaped = shaped m (first_head (shape_number m) (when (astray m) 5 ∷ []) h);
  found = when_not (astray m) 4 (first_head (when (astray m) 5) [] (first_tail (shape_number m) (when (astray m) 5 ∷ []) h));
}

-- and back
pub shaped_0 : (m : Mesh) → Shaped m → shape_number m ≡ 0
unfolding shape_number
shaped_0 m s = rw (s.within, s.even, s.fit, s.grouped)

pub clear_0 : (m : Mesh) → Clear m → mesh_number m ≡ 0
unfolding mesh_number
clear_0 m c = rw (shaped_0 m c.shaped, c.found)

-- lists that earn 1 to 4 earn nothing else
pub shape_first : (m : Mesh) → (shape_number m ≡ 0 → ⊥) → mesh_number m ≡ shape_number m
unfolding mesh_number
shape_first m h = first_is (shape_number m) (when (astray m) 5 ∷ []) h
