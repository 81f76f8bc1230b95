-- The order of the uses: every use stands at one place of it, and uses of one edge stand together. Assumes nothing.
use mathlib.Core.Path.{◌≡◌, refl, sym, ap, ◌∙◌, subst}
use mathlib.Core.Bool.{Bool}
use mathlib.Core.List.{List, [], ◌∷◌}
use Prim.Native.Nat.{ℕ, zero, suc, ◌≤◌, ◌<◌}
use native.Mathlib.Omega.{arith}
use lib.Dec.{eqb}
use lib.ListN.{length, get_or}
use borrow.Author.Tests.{eqb-true, ne_eqb}
use Rattle.lists.specs.Lists.{count, span}
use Rattle.lists.specs.FirstUses.{place}
use Rattle.lists.proofs.Bools.{by_cases}
use Rattle.lists.proofs.Members.{Once}
use Rattle.lists.proofs.Places.{place-get_or}
use Rattle.sorting.specs.Sorting.{All}
use Rattle.sorting.specs.Digits.{Digit, digit, passed}
use Rattle.sorting.proofs.Laws.{sorted_count}
use Rattle.sorting.proofs.Rows.{Row, row_span, row_at}
use Rattle.sorting.proofs.Digits.{Columns, Upto, Agree, passed_row, passed_upto, upto_between}
use Rattle.mesh.specs.Mesh.{rings}
use Rattle.mesh.specs.Edges.{Edge, key, edges_of, Edged}
use Rattle.uses.specs.Uses.{Gathered}
use Rattle.uses.proofs.Reading.{use_at, lowers, highers, lower_at, higher_at}
use Rattle.uses.proofs.Gathering.{lower_column, higher_column, uses_order, order_row}

-- ---- none stands twice, and none is lost

span_before : (k a n : ℕ) → k < a → count (eqb k) (span a n) ≡ 0
span_before k a zero h = refl
span_before k a (suc n) h = rw (ne_eqb k a (λ e. omega arith)) (span_before k (suc a) n (omega arith))

pub span_once : (a n : ℕ) → Once (span a n)
span_once a zero k = omega arith
span_once a (suc n) k =
    by_cases (eqb k a)
    (λ e. let h : k ≡ a = eqb-true k a e in rw (e, span_before k (suc a) n (omega arith)) (omega arith))
    (λ e. rw e (span_once (suc a) n k))

pub passed_count : (q : ℕ → Bool) (u : ℕ) (ds : List Digit) (l : List ℕ) → Columns u ds → Row u l → count q (passed ds l) ≡ count q l
passed_count q u [] l c r = refl
passed_count q u (d ∷ ds) l c r =
    let keyed : All (λ i. get_or d.column i 0 < d.values) (passed ds l) =
    λ t h. c.0.below (get_or (passed ds l) t 0) ((passed_row u ds l c.1 r).below t h) in
    sorted_count q d.values d.column (passed ds l) keyed ∙ passed_count q u ds l c.1 r

-- ---- the uses of a mesh with n positions, sorted

module _ (cs s : List ℕ) (n : ℕ) (e : Edged cs s n) (l h d order : List ℕ) (g : Gathered n (edges_of (rings s cs)) l h d order) where
  abbrev es : List Edge
  es = edges_of (rings s cs)

  abbrev digits : List Digit
  digits = digit n (lowers es) ∷ digit n (highers es) ∷ []

  row : Row (length es) order
  row = order_row cs s n e l h d order g

  sorted : order ≡ passed digits (span 0 (length es))
  sorted = uses_order cs s n e l h d order g

  pub order_below : (i : ℕ) → i < length order → get_or order i 0 < length es
  order_below i k = row.below i k

  pub order_at : (u : ℕ) → u < length es → (i : ℕ) × (i < length order) × (get_or order i 0 ≡ u)
  order_at u k = row_at (length es) order row u k

  once : Once order
  once k =
      subst (λ (o : List ℕ). count (eqb k) o ≤ 1) (sym sorted)
      (let z : _ =
      passed_count (eqb k) (length es) digits (span 0 (length es)) (lower_column cs s n e, (higher_column cs s n e, tt)) (row_span (length es)) in
      let o : _ = span_once 0 (length es) k in omega arith)

  pub order_one : (i j : ℕ) → i < length order → j < length order → get_or order i 0 ≡ get_or order j 0 → i ≡ j
  order_one i j p q w = sym (place-get_or order i once p) ∙ ap (place order) w ∙ place-get_or order j once q

  -- ---- uses of one edge stand together

  agree : (u v : ℕ) → key (use_at es u) ≡ key (use_at es v) → Agree digits u v
  agree u v q = (
    lower_at es u ∙ ap (λ (k : Edge). k.0) q ∙ sym (lower_at es v),
    (higher_at es u ∙ ap (λ (k : Edge). k.1) q ∙ sym (higher_at es v), tt),
  )

  agreed : (u v : ℕ) → Agree digits u v → key (use_at es u) ≡ key (use_at es v)
  agreed u v a = λ i. (
    (sym (lower_at es u) ∙ a.0 ∙ lower_at es v) i,
    (sym (higher_at es u) ∙ a.1.0 ∙ higher_at es v) i,
  )

  upto : (p q : ℕ) → p ≤ q → q < length order → Upto digits (get_or order p 0) (get_or order q 0)
  upto p q i k =
      subst (λ (o : List ℕ). Upto digits (get_or o p 0) (get_or o q 0)) (sym sorted)
      (passed_upto digits (length es) p q i (subst (λ (o : List ℕ). q < length o) sorted k))

  -- what stands between two uses of one edge is a use of it
  pub order_between :
      (p q r : ℕ) → p ≤ q → q ≤ r → r < length order → key (use_at es (get_or order p 0)) ≡ key (use_at es (get_or order r 0))
      → key (use_at es (get_or order q 0)) ≡ key (use_at es (get_or order r 0))
  order_between p q r i j k w =
      agreed (get_or order q 0) (get_or order r 0)
      (upto_between digits (get_or order p 0) (get_or order q 0) (get_or order r 0) (upto p q i (omega arith)) (upto q r j k)
      (agree (get_or order p 0) (get_or order r 0) w))
