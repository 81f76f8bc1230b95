-- Tests on elements and on what stands beside them: one after the other in either order, and before or after the faces are grouped as
-- `push` does. Assumes nothing.
use mathlib.Core.Path.{◌≡◌, refl, ap, ap₂, ◌∙◌}
use mathlib.Core.Bool.{Bool, true, false, ◌&&◌}
use mathlib.Core.List.{List, [], ◌∷◌, ◌++◌, append-nil}
use Prim.Native.Nat.{ℕ, zero, suc, ◌<◌}
use native.Mathlib.Omega.{arith}
use lib.ListN.{length, get_or}
use lib.Dec.{eqb, leb, ltb}
use borrow.Author.Tests.{eqb-true, ltb-false}
use Rattle.lists.specs.Lists.{keep_if, only}
use Rattle.lists.proofs.Bools.{by_cases, or_false_left, or_false_right, or_neither}
use Rattle.mesh.specs.Mesh.{Ring}
use Rattle.mesh.specs.Table.{falls}
use Rattle.grouping.specs.Push.{is_triangle, is_quadrangle, is_larger, pushed, of_kind}
use Rattle.grouping.specs.Tags.{beside, pushed_beside}
use Rattle.grouping.proofs.Pushed.{behind_smaller}
use Rattle.grouping.proofs.Tags.{Along, none, more, along_length, along_append, along_beside}
use Rattle.grouping.proofs.Beside.{beside_append}

-- seen from the other list
pub along_back : {A B : Type 0} {Q : A → B → Type 0} {l : List A} {ts : List B} → Along Q l ts → Along (λ b a. Q a b) ts l
along_back none = none
along_back (more q h) = more q (along_back h)

-- at one place of both lists
pub along_at :
    {A B : Type 0} {Q : A → B → Type 0} {l : List A} {ts : List B} (d : A) (e : B) (k : ℕ) → Along Q l ts → k < length l
    → Q (get_or l k d) (get_or ts k e)
along_at d e k none h = absurd (let z : k < 0 = h in omega arith)
along_at d e zero (more q a) h = q
along_at d e (suc k) (more {l = l} q a) h = along_at d e k a (let z : suc k < suc (length l) = h in omega arith)

-- ---- two tests one after the other

module _ {A B : Type 0} {Q : A → B → Type 0} where
  -- one test on the elements, one on what stands beside them: in either order
  pub beside_swap : (p : A → Bool) (q : B → Bool) {l : List A} {ts : List B} → Along Q l ts
      → beside q (beside p l ts) (only p l) ≡ only p (beside q ts l)
  beside_swap p q none = refl
  beside_swap p q (more {a = a} {b = b} {l = l} {ts = ts} x h) =
      let i : beside q (beside p l ts) (only p l) ≡ only p (beside q ts l) = beside_swap p q h in
      by_cases (p a)
      (λ e. by_cases (q b) (λ f. rw (f, e, f) (ap (λ (r : List A). a ∷ r) i)) (λ f. rw (f, e, f) i))
      (λ e. by_cases (q b) (λ f. rw (f, e) i) (λ f. rw (f, e) i))

  -- two tests on the elements
  pub beside_twice : (p q : A → Bool) {l : List A} {ts : List B} → Along Q l ts
      → beside p (only q l) (beside q l ts) ≡ beside (λ a. q a && p a) l ts
  beside_twice p q none = refl
  beside_twice p q (more {a = a} {b = b} {l = l} {ts = ts} x h) =
      let i : beside p (only q l) (beside q l ts) ≡ beside (λ a. q a && p a) l ts = beside_twice p q h in
      by_cases (q a) (λ e. rw e (ap (keep_if (p a) b) i)) (λ e. rw e i)

  -- a test that no element passes, and tests that agree
  pub beside_never : (p : A → Bool) {l : List A} {ts : List B} → ((a : A) → p a ≡ false) → Along Q l ts → beside p l ts ≡ []
  beside_never p e none = refl
  beside_never p e (more {a = a} x h) = rw (e a) (beside_never p e h)

  pub beside_as : (p q : A → Bool) {l : List A} {ts : List B} → ((a : A) → p a ≡ q a) → Along Q l ts → beside p l ts ≡ beside q l ts
  beside_as p q e none = refl
  beside_as p q e (more {a = a} {b = b} {l = l} {ts = ts} x h) =
      ap₂ (λ (t : Bool) (r : List B). keep_if t b r) (e a) (beside_as p q e h)

-- ---- grouped faces

-- no size is of two groups
both : (a : Bool) → (a && a) ≡ a
both true = refl
both false = refl

other : (a b : Bool) → (a && b) ≡ false → (b && a) ≡ false
other true true e = e
other true false e = refl
other false true e = refl
other false false e = refl

three_four : (n : ℕ) → (eqb n 3 && eqb n 4) ≡ false
three_four n = by_cases (eqb n 3) (λ e. let z : n ≡ 3 = eqb-true n 3 e in rw z) (λ e. rw e)

three_five : (n : ℕ) → (eqb n 3 && leb 5 n) ≡ false
three_five n = by_cases (eqb n 3) (λ e. let z : n ≡ 3 = eqb-true n 3 e in rw z) (λ e. rw e)

four_five : (n : ℕ) → (eqb n 4 && leb 5 n) ≡ false
four_five n = by_cases (eqb n 4) (λ e. let z : n ≡ 4 = eqb-true n 4 e in rw z) (λ e. rw e)

module _ {Q : Ring → ℕ → Type 0} {l : List Ring} {ts : List ℕ} (h : Along Q l ts) where
  -- what stands beside the faces of a group is the same before and after the grouping
  three_parts : (p : Ring → Bool) → beside p (pushed l) (pushed_beside l ts)
      ≡ (beside (λ f. is_triangle f && p f) l ts ++ beside (λ f. is_quadrangle f && p f) l ts) ++ beside (λ f. is_larger f && p f) l ts
  unfolding pushed pushed_beside
  three_parts p =
      let t = along_beside is_triangle h in
      let q = along_beside is_quadrangle h in
      beside_append p (only is_triangle l ++ only is_quadrangle l) (only is_larger l) (beside is_triangle l ts ++ beside is_quadrangle l ts) (beside is_larger l ts)
      (along_length (along_append t q))
      ∙ ap₂ (λ (x y : List ℕ). x ++ y)
      (beside_append p (only is_triangle l) (only is_quadrangle l) (beside is_triangle l ts) (beside is_quadrangle l ts) (along_length t)
      ∙ ap₂ (λ (x y : List ℕ). x ++ y) (beside_twice p is_triangle h) (beside_twice p is_quadrangle h))
      (beside_twice p is_larger h)

  pub group_stays : (g : ℕ) → beside (of_kind g) (pushed l) (pushed_beside l ts) ≡ beside (of_kind g) l ts
  group_stays zero =
      three_parts (of_kind 0)
      ∙ rw (
        beside_as (λ f. is_triangle f && of_kind 0 f) (of_kind 0) (λ f. both (is_triangle f)) h,
        beside_never (λ f. is_quadrangle f && of_kind 0 f) (λ f. other (is_triangle f) (is_quadrangle f) (three_four (length f))) h,
        beside_never (λ f. is_larger f && of_kind 0 f) (λ f. other (is_triangle f) (is_larger f) (three_five (length f))) h,
        append-nil,
        append-nil,
      )
  group_stays (suc zero) =
      three_parts (of_kind 1)
      ∙ rw (
        beside_never (λ f. is_triangle f && of_kind 1 f) (λ f. three_four (length f)) h,
        beside_as (λ f. is_quadrangle f && of_kind 1 f) (of_kind 1) (λ f. both (is_quadrangle f)) h,
        beside_never (λ f. is_larger f && of_kind 1 f) (λ f. other (is_quadrangle f) (is_larger f) (four_five (length f))) h,
        append-nil,
      )
  group_stays (suc (suc g)) =
      three_parts (of_kind 2)
      ∙ rw (
        beside_never (λ f. is_triangle f && of_kind 2 f) (λ f. three_five (length f)) h,
        beside_never (λ f. is_quadrangle f && of_kind 2 f) (λ f. four_five (length f)) h,
        beside_as (λ f. is_larger f && of_kind 2 f) (of_kind 2) (λ f. both (is_larger f)) h,
      )

  -- of the grouped faces those whose tag passes a test, grouped: the same as these faces first, then the grouping
  pub pushed_from : (q : ℕ → Bool) → beside q (pushed_beside l ts) (pushed l) ≡ pushed (beside q ts l)
  unfolding pushed pushed_beside
  pushed_from q =
      let t = along_back (along_beside is_triangle h) in
      let r = along_back (along_beside is_quadrangle h) in
      beside_append q (beside is_triangle l ts ++ beside is_quadrangle l ts) (beside is_larger l ts) (only is_triangle l ++ only is_quadrangle l) (only is_larger l)
      (along_length (along_append t r))
      ∙ ap₂ (λ (x y : List Ring). x ++ y)
      (beside_append q (beside is_triangle l ts) (beside is_quadrangle l ts) (only is_triangle l) (only is_quadrangle l) (along_length t)
      ∙ ap₂ (λ (x y : List Ring). x ++ y) (beside_swap is_triangle q h) (beside_swap is_quadrangle q h))
      (beside_swap is_larger q h)

-- ---- numbers that do not fall

-- numbers that do not fall do not fall where only those stay that stand beside what passes a test
pub beside_rises : {A : Type 0} (p : A → Bool) (j : ℕ) (l : List A) (ts : List ℕ) → falls (j ∷ ts) ≡ false → falls (j ∷ beside p l ts) ≡ false
beside_rises p j [] ts e = refl
beside_rises p j (a ∷ l) [] e = refl
beside_rises p j (a ∷ l) (t ∷ ts) e =
    let x : ltb t j ≡ false = or_false_left (ltb t j) (falls (t ∷ ts)) e in
    let y : falls (t ∷ ts) ≡ false = or_false_right (ltb t j) (falls (t ∷ ts)) e in
    by_cases (p a)
    (λ c. rw c (or_neither (ltb t j) (falls (t ∷ beside p l ts)) x (beside_rises p t l ts y)))
    (λ c. rw c (beside_rises p j l ts (behind_smaller j t ts (ltb-false t j x) y)))
