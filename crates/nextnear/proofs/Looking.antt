-- Looking through the runs of a point finds its next near point: what is in no run is not compared, so it is not near. Assumes nothing.
use mathlib.Core.Path.{◌≡◌, refl, sym, ap, ◌∙◌, subst}
use mathlib.Core.Logic.{inl, inr, ⊎_elim}
use mathlib.Core.Bool.{Bool, true, false, ◌&&◌}
use mathlib.Core.List.{List}
use Prim.Native.Nat.{ℕ, ◌+◌, ◌-◌, ◌≤◌, ◌<◌}
use native.Mathlib.Omega.{arith}
use lib.Dec.{leb, ltb}
use lib.ListN.{get_or}
use lib.Ieee.{Float}
use borrow.Author.Tests.{le-leb, lt-leb, lt-ltb, le-ltb, leb-true, ltb-true}
use Rattle.lists.proofs.Bools.{by_cases, and_left, and_right, and_false_right, true_false}
use Rattle.lists.proofs.Buckets.{lt_or_ge}
use Rattle.nearby.specs.Engine.{beside_at, near_by, fresh, Next}
use Rattle.nearby.proofs.Fresh.{not_beside}
use Rattle.cellwise.proofs.Starts.{place_of}
use Rattle.cellwise.specs.Blocks.{Low}
use Rattle.inreach.specs.Reach.{Skipped}
use Rattle.nextnear.specs.Looking.{wanted, Better, Placed}
use Rattle.paired.proofs.Both.{too_low}
use Rattle.inreach.proofs.Skipping.{apart}

-- ---- whether a point is wanted

module _ (t : Float) (w : ℕ) (s : List Float) (cells : List ℕ) (seen : List Bool) (i low from j : ℕ) where
  abbrev want : Bool
  want = wanted t w s cells seen i low from j

  abbrev new : Bool
  new = fresh (near_by t w s cells) seen i j

  pub not_fresh : new ≡ false → want ≡ false
  unfolding wanted
  not_fresh e = and_false_right (leb low j) (ltb j from && new) (and_false_right (ltb j from) new e)

  pub below_low : j < low → want ≡ false
  unfolding wanted
  below_low h = rw (lt-leb low j h)

  pub from_on : from ≤ j → want ≡ false
  unfolding wanted
  from_on h = and_false_right (leb low j) (ltb j from && new) (rw (le-ltb j from h))

  pub is_wanted : low ≤ j → j < from → new ≡ true → want ≡ true
  unfolding wanted
  is_wanted h l e = rw (le-leb low j h, lt-ltb j from l) e

  pub want_low : want ≡ true → low ≤ j
  unfolding wanted
  want_low e = leb-true low j (and_left (leb low j) (ltb j from && new) e)

  pub want_from : want ≡ true → j < from
  unfolding wanted
  want_from e = ltb-true j from (and_left (ltb j from) new (and_right (leb low j) (ltb j from && new) e))

  pub want_fresh : want ≡ true → new ≡ true
  unfolding wanted
  want_fresh e = and_right (ltb j from) new (and_right (leb low j) (ltb j from && new) e)

-- ---- one point

module _ {p : ℕ → Bool} {j best : ℕ} where
  pub better_none : p j ≡ false → Better p j best best
  better_none e = record { grown = omega arith; after = λ l. e; here = inl refl }

  pub better_one : best ≤ j → p j ≡ true → Better p j best (j + 1)
  better_one h e = record {
    grown = omega arith;
    after = λ l. absurd (let z : j + 1 ≤ j = l in omega arith);
    here = inr (omega arith, subst (λ (k : ℕ). p k ≡ true) (let z : j ≡ j + 1 - 1 = omega arith in z) e);
  }

-- ---- one run, from its end on

-- ---- all runs

-- the order is looked through up to the place q
pub record Looked (p : ℕ → Bool) (n : ℕ) (order : List ℕ) (best q : ℕ) : Type 0 where
  pub within : q ≤ n
  pub after : (k : ℕ) → k < q → best ≤ get_or order k 0 → p (get_or order k 0) ≡ false
  pub here : 0 < best → p (best - 1) ≡ true

module _ {w n : ℕ} {s : List Float} {cells order slabs rows runs starts : List ℕ} (g : Placed w n s cells order slabs rows runs starts) (t : Float) (seen : List Bool) (i low from : ℕ) (h : i < n) where
  abbrev test : ℕ → Bool
  test = wanted t w s cells seen i low from

  -- what is not compared is not wanted
  apart_not : (j : ℕ) → beside_at w cells i j ≡ false → test j ≡ false
  apart_not j e = not_fresh t w s cells seen i low from j (sym (not_beside t w s cells seen i j e))

  pub looked_begins : {q : ℕ} → q ≡ get_or starts i 0 → Looked test n order 0 q
  looked_begins {q} e =
      let b : Low w n cells order i (get_or starts i 0) = g.begun.low i h in
      record {
        within = omega (arith, b.inside);
        after = λ k l x.
            let z : k < q = l in
            apart_not (get_or order k 0)
            (apart w n cells g.listed.points i (get_or order k 0) h (g.tables.by_cell.below k (omega (arith, b.inside))) 0 (omega (arith, g.listed.points.least))
            (too_low _ _ (b.low k (omega arith))));
        here = λ z. absurd (let y : 0 < 0 = z in omega arith);
      }

  pub looked_none : {best q : ℕ} (r : ℕ) → Skipped (beside_at w cells i) order n q r → Looked test n order best q → Looked test n order best r
  looked_none {best} {q} r d a = record {
    within = d.inside;
    after = λ k l x. ⊎_elim (λ u. a.after k u x) (λ u. apart_not (get_or order k 0) (d.none k u l)) (lt_or_ge k q);
    here = a.here;
  }

  pub looked_ends : {best q : ℕ} → from ≤ n → n ≤ q → Looked test n order best q → Next (fresh (near_by t w s cells) seen i) low from best
  looked_ends {best} {q} u v a = record {
    after = λ j x y z.
        let k : best ≤ j = y in
        let l : j < from = z in
        let r : (p : ℕ) × (p < n) × (get_or order p 0 ≡ j) = place_of g.tables.by_cell j (omega arith) in
        let e : get_or order r.0 0 ≡ j = r.2 in
        let m : r.0 < n = r.1 in
        by_cases (fresh (near_by t w s cells) seen i j)
        (λ f. true_false (sym (is_wanted t w s cells seen i low from j x z f) ∙ sym (ap test e) ∙ a.after r.0 (omega arith) (omega arith)))
        (λ f. f);
    here = λ z.
        let e : test (best - 1) ≡ true = a.here z in
        let k : low ≤ best - 1 = want_low t w s cells seen i low from (best - 1) e in
        let l : best - 1 < from = want_from t w s cells seen i low from (best - 1) e in
        let m : 0 < best = z in
        (omega arith, omega arith, want_fresh t w s cells seen i low from (best - 1) e);
  }
