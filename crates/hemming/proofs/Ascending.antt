-- The order of the uses is by lower and higher position. Sorted by start it is by start and end: from one start the lower ends come first.
-- Assumes nothing.
use mathlib.Core.Path.{◌≡◌, refl, sym, ap, ◌∙◌, subst}
use mathlib.Core.Logic.{◌⊎◌, inl, inr}
use mathlib.Core.Bool.{Bool, true, false, cond}
use mathlib.Core.List.{List, [], ◌∷◌, map}
use Prim.Native.Nat.{ℕ, suc, ◌*◌, ◌≤◌, ◌<◌}
use native.Mathlib.Omega.{arith}
use lib.Dec.{eqb, leb}
use lib.ListN.{length, get_or}
use borrow.Author.Tests.{leb-true, leb-false}
use Rattle.lists.specs.Lists.{count, span}
use Rattle.lists.specs.FirstUses.{place}
use Rattle.lists.proofs.Bools.{by_cases}
use Rattle.lists.proofs.Members.{Once}
use Rattle.lists.proofs.Places.{in_at, place-get_or}
use Rattle.lists.proofs.Buckets.{length_table, table_at}
use Rattle.sorting.specs.Sorting.{sorted_by}
use Rattle.sorting.specs.Digits.{Digit, digit, passed}
use Rattle.sorting.proofs.Rows.{Row, row_span}
use Rattle.sorting.proofs.Digits.{Columns, Upto, passed_row, passed_upto}
use Rattle.mesh.specs.Limits.{width}
use Rattle.mesh.specs.Mesh.{rings}
use Rattle.edges.specs.Edges.{Edge, same, flip, key, before, edges_of}
use Rattle.edges.specs.Runs.{Edged}
use Rattle.edges.proofs.SameEdge.{Before, before_false, same_true}
use Rattle.uses.specs.Uses.{Gathered}
use Rattle.uses.proofs.Sides.{length_uses}
use Rattle.uses.proofs.Reading.{use_at, lowers, highers, lower_at, higher_at}
use Rattle.uses.proofs.Gathering.{lower_column, higher_column, uses_order}
use Rattle.tracing.specs.Answers.{corner_count}
use Rattle.crossing.proofs.Ordered.{span_once, passed_count}
use Rattle.hemming.proofs.Trails.{Rising}

-- ---- all places

-- for each of n places the position at which its edge starts: that of its corner
unfoldable pub start_row : List ℕ → ℕ → List ℕ
start_row cs n = map (λ u. get_or cs (width * u) 0) (span 0 n)

-- all places in the order of the uses, sorted by start
unfoldable pub all_by_start : List ℕ → ℕ → List ℕ → List ℕ
all_by_start cs n order = sorted_by n (start_row cs (corner_count cs)) order

-- ---- two edges

-- with one start, in the order by lower and higher position: the ends are in order too
ends_order : (c d : Edge) → c.0 ≡ d.0 → ((key c).0 < (key d).0) ⊎ (((key c).0 ≡ (key d).0) × ((key c).1 ≤ (key d).1)) → c.1 ≤ d.1
unfolding key
ends_order c d z k = go (leb c.0 c.1) refl (leb d.0 d.1) refl k
  where
    go :
        (a : Bool) → leb c.0 c.1 ≡ a → (b : Bool) → leb d.0 d.1 ≡ b
        → ((cond a c (flip c)).0 < (cond b d (flip d)).0) ⊎ (((cond a c (flip c)).0 ≡ (cond b d (flip d)).0) × ((cond a c (flip c)).1 ≤ (cond b d (flip d)).1))
        → c.1 ≤ d.1
    go true p true q (inl k) = absurd (let r : c.0 < d.0 = k in omega arith)
    go true p true q (inr k) = let r : c.1 ≤ d.1 = k.1 in r
    go true p false q (inl k) = absurd (let r : c.0 < d.1 = k in let y : d.1 < d.0 = leb-false d.0 d.1 q in omega arith)
    go true p false q (inr k) = absurd (let r : c.0 ≡ d.1 = k.0 in let y : d.1 < d.0 = leb-false d.0 d.1 q in omega arith)
    go false p true q (inl k) = let x : c.1 < c.0 = leb-false c.0 c.1 p in let y : d.0 ≤ d.1 = leb-true d.0 d.1 q in omega arith
    go false p true q (inr k) = let x : c.1 < c.0 = leb-false c.0 c.1 p in let y : d.0 ≤ d.1 = leb-true d.0 d.1 q in omega arith
    go false p false q (inl k) = let r : c.1 < d.1 = k in omega arith
    go false p false q (inr k) = let r : c.1 ≡ d.1 = k.0 in omega arith

-- not after, and another: before
rises_to : (c d : Edge) → same c d ≡ false → (c.0 < d.0) ⊎ ((c.0 ≡ d.0) × (c.1 ≤ d.1)) → before c d ≡ true
rises_to c d n k = by_cases (before c d) (λ q. q) (λ q. absurd (not_after k (before_false c d q n)))
  where
    not_after : (c.0 < d.0) ⊎ ((c.0 ≡ d.0) × (c.1 ≤ d.1)) → Before d c → ⊥
    not_after (inl p) (inl q) = omega arith
    not_after (inl p) (inr q) = omega arith
    not_after (inr p) (inl q) = omega arith
    not_after (inr p) (inr q) = omega arith

-- places each of which is before all those behind it
risen :
    (edge : ℕ → Edge) (l : List ℕ)
    → ((p q : ℕ) → p < q → q < length l → before (edge (get_or l p 0)) (edge (get_or l q 0)) ≡ true) → Rising edge l
risen edge [] h = tt
risen edge (u ∷ us) h = (
  λ x i.
      let r : (q : ℕ) × (q < length us) × (get_or us q 0 ≡ x) = in_at x us i in
      subst (λ (y : ℕ). before (edge u) (edge y) ≡ true) r.2 (h 0 (suc r.0) (omega arith) (let k : r.0 < length us = r.1 in omega arith)),
  risen edge us (λ p q a b. h (suc p) (suc q) (omega arith) (omega arith)),
)

-- ---- the sorted uses of a mesh with n positions, sorted by start

module _ (cs s : List ℕ) (n : ℕ) (e : Edged cs s n) (l h d order : List ℕ) (g : Gathered n (edges_of (rings s cs)) l h d order) where
  abbrev es : List Edge
  es = edges_of (rings s cs)

  abbrev sorted : List ℕ
  sorted = all_by_start cs n order

  pub uses_count : length (edges_of (rings s cs)) ≡ corner_count cs
  uses_count = length_uses cs s e.sound

  pub start_long : length (start_row cs (corner_count cs)) ≡ length (edges_of (rings s cs))
  unfolding start_row
  start_long = length_table (λ u. get_or cs (width * u) 0) (corner_count cs) ∙ sym uses_count

  pub start_at : (u : ℕ) → u < length (edges_of (rings s cs)) → get_or (start_row cs (corner_count cs)) u 0 ≡ get_or cs (width * u) 0
  unfolding start_row
  start_at u k = table_at (λ v. get_or cs (width * v) 0) (corner_count cs) u 0 (omega (arith, uses_count))

  pub start_below : (u : ℕ) → u < length (edges_of (rings s cs)) → get_or (start_row cs (corner_count cs)) u 0 < n
  start_below u k = subst (λ (x : ℕ). x < n) (sym (start_at u k)) (e.below u (omega (arith, uses_count)))

  abbrev digits : List Digit
  digits = digit n (start_row cs (corner_count cs)) ∷ digit n (lowers (edges_of (rings s cs))) ∷ digit n (highers (edges_of (rings s cs))) ∷ []

  columns : Columns (length (edges_of (rings s cs))) digits
  columns = (record { long = start_long; below = start_below }, (lower_column cs s n e, (higher_column cs s n e, tt)))

  sorted_is : all_by_start cs n order ≡ passed digits (span 0 (length (edges_of (rings s cs))))
  unfolding all_by_start
  sorted_is = ap (sorted_by n (start_row cs (corner_count cs))) (uses_order cs s n e l h d order g)

  pub sorted_row : Row (length (edges_of (rings s cs))) (all_by_start cs n order)
  sorted_row =
      subst (Row (length (edges_of (rings s cs)))) (sym sorted_is)
      (passed_row (length (edges_of (rings s cs))) digits (span 0 (length (edges_of (rings s cs)))) columns (row_span (length (edges_of (rings s cs)))))

  -- every place once
  pub sorted_all : (q : ℕ → Bool) → count q (all_by_start cs n order) ≡ count q (span 0 (length (edges_of (rings s cs))))
  sorted_all q =
      ap (count q) sorted_is
      ∙ passed_count q (length (edges_of (rings s cs))) digits (span 0 (length (edges_of (rings s cs)))) columns (row_span (length (edges_of (rings s cs))))

  once : Once (all_by_start cs n order)
  once k = let a : _ = sorted_all (eqb k) in let b : _ = span_once 0 (length (edges_of (rings s cs))) k in omega arith

  module _
      (begins : (u : ℕ) → u < length (edges_of (rings s cs)) → (use_at (edges_of (rings s cs)) u).0 ≡ get_or cs (width * u) 0)
      (one : (u v : ℕ) → u < length (edges_of (rings s cs)) → v < length (edges_of (rings s cs)) → use_at (edges_of (rings s cs)) u ≡ use_at (edges_of (rings s cs)) v → u ≡ v)
    where
      abbrev edge : ℕ → Edge
      edge u = use_at (edges_of (rings s cs)) u

      -- two places in order, by their edges
      upto_edges :
          (x y : ℕ) → x < length (edges_of (rings s cs)) → y < length (edges_of (rings s cs)) → Upto digits x y
          → ((edge x).0 < (edge y).0) ⊎ (((edge x).0 ≡ (edge y).0) × ((edge x).1 ≤ (edge y).1))
      upto_edges x y hx hy k = go k
        where
          sx : get_or (start_row cs (corner_count cs)) x 0 ≡ (edge x).0
          sx = start_at x hx ∙ sym (begins x hx)

          sy : get_or (start_row cs (corner_count cs)) y 0 ≡ (edge y).0
          sy = start_at y hy ∙ sym (begins y hy)

          then : (edge x).0 ≡ (edge y).0 → Upto (digit n (lowers (edges_of (rings s cs))) ∷ digit n (highers (edges_of (rings s cs))) ∷ []) x y → (edge x).1 ≤ (edge y).1
          then z (inl p) =
              ends_order (edge x) (edge y) z
              (inl (let a : _ = lower_at (edges_of (rings s cs)) x in let b : _ = lower_at (edges_of (rings s cs)) y in omega arith))
          then z (inr p) =
              ends_order (edge x) (edge y) z
              (inr (
                sym (lower_at (edges_of (rings s cs)) x) ∙ p.0 ∙ lower_at (edges_of (rings s cs)) y,
                higher p.1,
              ))
            where
              higher : Upto (digit n (highers (edges_of (rings s cs))) ∷ []) x y → (key (edge x)).1 ≤ (key (edge y)).1
              higher (inl q) = let a : _ = higher_at (edges_of (rings s cs)) x in let b : _ = higher_at (edges_of (rings s cs)) y in omega arith
              higher (inr q) = let a : _ = higher_at (edges_of (rings s cs)) x in let b : _ = higher_at (edges_of (rings s cs)) y in omega (arith, q.0)

          go : Upto digits x y → ((edge x).0 < (edge y).0) ⊎ (((edge x).0 ≡ (edge y).0) × ((edge x).1 ≤ (edge y).1))
          go (inl p) = inl (omega (arith, sx, sy))
          go (inr p) = let z : (edge x).0 ≡ (edge y).0 = sym sx ∙ p.0 ∙ sy in inr (z, then z p.1)

      pub sorted_rises : Rising edge (all_by_start cs n order)
      sorted_rises =
          risen edge (all_by_start cs n order)
          (λ p q a b.
          let hx : get_or (all_by_start cs n order) p 0 < length (edges_of (rings s cs)) = sorted_row.below p (omega arith) in
          let hy : get_or (all_by_start cs n order) q 0 < length (edges_of (rings s cs)) = sorted_row.below q b in
          rises_to (edge (get_or (all_by_start cs n order) p 0)) (edge (get_or (all_by_start cs n order) q 0))
          (by_cases (same (edge (get_or (all_by_start cs n order) p 0)) (edge (get_or (all_by_start cs n order) q 0)))
          (λ y.
          let w : get_or (all_by_start cs n order) p 0 ≡ get_or (all_by_start cs n order) q 0 =
          one (get_or (all_by_start cs n order) p 0) (get_or (all_by_start cs n order) q 0) hx hy
          (same_true (edge (get_or (all_by_start cs n order) p 0)) (edge (get_or (all_by_start cs n order) q 0)) y) in
          let v : p ≡ q =
          sym (place-get_or (all_by_start cs n order) p once (omega arith)) ∙ ap (place (all_by_start cs n order)) w ∙ place-get_or (all_by_start cs n order) q once b in
          absurd (omega arith))
          (λ y. y))
          (upto_edges (get_or (all_by_start cs n order) p 0) (get_or (all_by_start cs n order) q 0) hx hy
          (subst (λ (o : List ℕ). Upto digits (get_or o p 0) (get_or o q 0)) (sym sorted_is)
          (passed_upto digits (length (edges_of (rings s cs))) p q (omega arith) (subst (λ (o : List ℕ). q < length o) sorted_is b)))))
