-- How far the neighbours of each position lie from it, one edge more at a time. Positions and sums are flat lists, three numbers for
-- each position, and an edge of positions is three edges of their numbers. Assumes nothing.
use Rattle.std.proofs.Common.{◌≡◌, refl, sym, ap, ap₂, ◌∙◌, subst, false, List, [], ◌∷◌, ◌++◌, map, append-nil, append_assoc, ℕ, zero, suc, ◌+◌, ◌*◌, ◌/◌, ◌%◌, ◌≤◌, ◌<◌, arith}
use Rattle.std.proofs.Common.{eqb, length, get_or, drop, replicate, drop_of_length-le, drop-cons, Float, eqb-true, eq-eqb, ne_eqb}
use mathlib.Core.List.{map-append}
use lib.ListN.{length-replicate}
use lib.Ieee.{nan}
use borrow.Author.Tests.{eqb-false}
use Rattle.lists.specs.Lists.{each, span}
use Rattle.lists.proofs.Bools.{by_cases}
use Rattle.lists.proofs.Buckets.{each_span_cong}
use Rattle.lists.proofs.Parts.{each_append}
use Rattle.mesh.specs.Limits.{point_width}
use Rattle.verdicts.specs.Edges.{Edge}
use Rattle.floating.specs.Near.{nought}
use Rattle.smoothed.specs.Positions.{total_from, from, axes}
use Rattle.around.specs.Rows.{edge_at, edges_to, edges_in, neighbours_in}
use Rattle.around.specs.Steps.{both, passed}
use Rattle.around.proofs.Gathering.{steps, Gathered, both_long, both_gathers, filled_begins, Joins, neighbours_append, no_neighbours, at_lower, at_higher, elsewhere}
use Rattle.around.proofs.Edges.{edges_more, joins}
use Rattle.pulling.specs.Pulls.{pulls_in, tug, on_axis, threefold, PullRows}

-- ---- the neighbours of one number

-- number i of position v
abbrev number : ℕ → ℕ → ℕ
number i v = point_width * v + i

-- along an edge of numbers on the same axis
same_axis : (i v : ℕ) (k : Edge) → neighbours_in (on_axis i k ∷ []) (number i v) ≡ map (number i) (neighbours_in (k ∷ []) v)
same_axis i v k =
    by_cases (eqb v k.0)
    (λ l.
    at_lower (on_axis i k) (number i v) (eq-eqb (number i v) (number i k.0) (ap (number i) (eqb-true v k.0 l)))
    ∙ sym (ap (map (number i)) (at_lower k v l)))
    (λ l.
    let low : eqb (number i v) (number i k.0) ≡ false = ne_eqb (number i v) (number i k.0) (λ q. eqb-false v k.0 l (omega arith)) in
    by_cases (eqb v k.1)
    (λ h.
    at_higher (on_axis i k) (number i v) low (eq-eqb (number i v) (number i k.1) (ap (number i) (eqb-true v k.1 h)))
    ∙ sym (ap (map (number i)) (at_higher k v l h)))
    (λ h.
    let high : eqb (number i v) (number i k.1) ≡ false = ne_eqb (number i v) (number i k.1) (λ q. eqb-false v k.1 h (omega arith)) in
    elsewhere (on_axis i k) (number i v) low high ∙ sym (ap (map (number i)) (elsewhere k v l h))))

-- along one on another axis there is none
other_axis : (i j v : ℕ) (k : Edge) → i < point_width → j < point_width → (i ≡ j → ⊥) → neighbours_in (on_axis j k ∷ []) (number i v) ≡ []
other_axis i j v k a b d =
    elsewhere (on_axis j k) (number i v)
    (ne_eqb (number i v) (number j k.0) (λ q. d (apart k.0 q)))
    (ne_eqb (number i v) (number j k.1) (λ q. d (apart k.1 q)))
  where
    apart : (u : ℕ) → number i v ≡ number j u → i ≡ j
    apart u q = omega arith

three_ways : (k : Edge) (x : ℕ)
    → neighbours_in (threefold k) x ≡ neighbours_in (on_axis 0 k ∷ []) x ++ (neighbours_in (on_axis 1 k ∷ []) x ++ neighbours_in (on_axis 2 k ∷ []) x)
three_ways k x =
    neighbours_append (on_axis 0 k ∷ []) (on_axis 1 k ∷ on_axis 2 k ∷ []) x
    ∙ ap (λ (t : List ℕ). neighbours_in (on_axis 0 k ∷ []) x ++ t) (neighbours_append (on_axis 1 k ∷ []) (on_axis 2 k ∷ []) x)

data Axis : ℕ → Type 0 where
  first : Axis 0
  second : Axis 1
  third : Axis 2

one_way : {i : ℕ} → Axis i → (v : ℕ) (k : Edge) → neighbours_in (threefold k) (number i v) ≡ map (number i) (neighbours_in (k ∷ []) v)
one_way first v k =
    three_ways k (number 0 v)
    ∙ rw (same_axis 0 v k, other_axis 0 1 v k (omega arith) (omega arith) (λ q. omega arith), other_axis 0 2 v k (omega arith) (omega arith) (λ q. omega arith))
    (append-nil (map (number 0) (neighbours_in (k ∷ []) v)))
one_way second v k =
    three_ways k (number 1 v)
    ∙ rw (other_axis 1 0 v k (omega arith) (omega arith) (λ q. omega arith), same_axis 1 v k, other_axis 1 2 v k (omega arith) (omega arith) (λ q. omega arith))
    (append-nil (map (number 1) (neighbours_in (k ∷ []) v)))
one_way third v k =
    three_ways k (number 2 v)
    ∙ rw (other_axis 2 0 v k (omega arith) (omega arith) (λ q. omega arith), other_axis 2 1 v k (omega arith) (omega arith) (λ q. omega arith), same_axis 2 v k)

-- those of a number are the numbers of those of its position
flat_neighbours : {i : ℕ} → Axis i → (v : ℕ) (es : List Edge) → neighbours_in (each threefold es) (number i v) ≡ map (number i) (neighbours_in es v)
flat_neighbours {i} x v [] = no_neighbours (number i v) ∙ sym (ap (map (number i)) (no_neighbours v))
flat_neighbours {i} x v (k ∷ es) =
    neighbours_append (threefold k) (each threefold es) (number i v)
    ∙ ap₂ ◌++◌ (one_way x v k) (flat_neighbours x v es)
    ∙ sym (map-append (number i) (neighbours_in (k ∷ []) v) (neighbours_in es v))
    ∙ sym (ap (map (number i)) (neighbours_append (k ∷ []) es v))

-- ---- the sums of one position

steps_total : (ps : List Float) (i v : ℕ) (t : Float) (ws : List ℕ) → steps (tug ps (number i v)) t (map (number i) ws) ≡ total_from t (map (from ps i v) ws)
steps_total ps i v t [] = refl
steps_total ps i v t (w ∷ ws) = steps_total ps i v (tug ps (number i v) (number i w) t) ws

-- a flat list of three numbers for each of 0, 1, ..
flat_from : (d : Float) (l : List Float) (n a : ℕ) → point_width * a + point_width * n ≡ length l → drop (point_width * a) l ≡ each (λ v. axes (λ i. get_or l (number i v) d)) (span a n)
flat_from d l zero a e = drop_of_length-le l {i = point_width * a} (omega arith)
flat_from d l (suc n) a e =
    let x : point_width * a + 0 < length l = omega arith in
    let y : point_width * a + 1 < length l = omega arith in
    let z : point_width * a + 2 < length l = omega arith in
    let p : point_width * a ≡ point_width * a + 0 = omega arith in
    let q : suc (point_width * a + 0) ≡ point_width * a + 1 = omega arith in
    let r : suc (point_width * a + 1) ≡ point_width * a + 2 = omega arith in
    let s : suc (point_width * a + 2) ≡ point_width * suc a = omega arith in
    ap (λ (k : ℕ). drop k l) p
    ∙ drop-cons l (point_width * a + 0) d x
    ∙ ap (λ (k : ℕ). get_or l (number 0 a) d ∷ drop k l) q
    ∙ ap (λ (t : List Float). get_or l (number 0 a) d ∷ t) (drop-cons l (point_width * a + 1) d y)
    ∙ ap (λ (k : ℕ). get_or l (number 0 a) d ∷ get_or l (number 1 a) d ∷ drop k l) r
    ∙ ap (λ (t : List Float). get_or l (number 0 a) d ∷ get_or l (number 1 a) d ∷ t) (drop-cons l (point_width * a + 2) d z)
    ∙ ap (λ (k : ℕ). axes (λ i. get_or l (number i a) d) ++ drop k l) s
    ∙ ap (λ (t : List Float). axes (λ i. get_or l (number i a) d) ++ t) (flat_from d l n (suc a) (omega arith))

-- ---- the pass

-- the first e edges have pulled
pub record Pulled (ps : List Float) (ls hs : List ℕ) (l : List Float) (e : ℕ) : Type 0 where
  pub within : e ≤ length ls
  pub long : length l ≡ length ps
  pub gathered : Gathered (tug ps) nought (length ps) (each threefold (edges_to ls hs e)) (λ u. get_or l u nan)

-- an edge of positions, on one axis
axis_joins : (m i n : ℕ) (k : Edge) → i < point_width → point_width * n ≤ m → Joins n k → Joins m (on_axis i k)
axis_joins m i n k h b j =
    let x : k.0 < n = j.lower_below in
    let y : k.1 < n = j.higher_below in
    record { apart = λ q. j.apart (omega arith); lower_below = omega arith; higher_below = omega arith }

module _ (ps : List Float) (ls hs : List ℕ) where
  pub pull_begins : (l : List Float) → l ≡ replicate (length ps) nought → Pulled ps ls hs l 0
  unfolding edges_to
  pull_begins l q = record {
    within = omega arith;
    long = ap length q ∙ length-replicate (length ps) nought;
    gathered = filled_begins nan (tug ps) nought l (length ps) q;
  }

  -- three edges more
  three_gather :
      {es : List Edge} (k : Edge) (l : List Float) → Joins (length ps / point_width) k → length l ≡ length ps
      → Gathered (tug ps) nought (length ps) es (λ u. get_or l u nan)
      → Gathered (tug ps) nought (length ps) (es ++ threefold k) (λ u. get_or (passed nan (tug ps) (threefold k) l) u nan)
  three_gather {es} k l j m g =
      let n : ℕ = length ps / point_width in
      let l₁ : List Float = both nan (tug ps) (on_axis 0 k) l in
      let l₂ : List Float = both nan (tug ps) (on_axis 1 k) l₁ in
      let m₁ : length l₁ ≡ length ps = both_long nan (tug ps) (on_axis 0 k) l ∙ m in
      let m₂ : length l₂ ≡ length ps = both_long nan (tug ps) (on_axis 1 k) l₁ ∙ m₁ in
      let j₀ : Joins (length l) (on_axis 0 k) = axis_joins (length l) 0 n k (omega arith) (omega arith) j in
      let j₁ : Joins (length l₁) (on_axis 1 k) = axis_joins (length l₁) 1 n k (omega arith) (omega arith) j in
      let j₂ : Joins (length l₂) (on_axis 2 k) = axis_joins (length l₂) 2 n k (omega arith) (omega arith) j in
      let q : ((es ++ (on_axis 0 k ∷ [])) ++ (on_axis 1 k ∷ [])) ++ (on_axis 2 k ∷ []) ≡ es ++ threefold k = simp append_assoc in
      subst (λ (ks : List Edge). Gathered (tug ps) nought (length ps) ks (λ u. get_or (both nan (tug ps) (on_axis 2 k) l₂) u nan)) q
      (both_gathers nan (tug ps) nought (length ps) (on_axis 2 k) l₂ j₂
      (both_gathers nan (tug ps) nought (length ps) (on_axis 1 k) l₁ j₁
      (both_gathers nan (tug ps) nought (length ps) (on_axis 0 k) l j₀ g)))

  pub pull_turns :
      (l l' sums : List Float) (e a b : ℕ) → PullRows ps ls hs sums → e < length ls → a ≡ get_or ls e 0 → b ≡ get_or hs e 0
      → l' ≡ passed nan (tug ps) (threefold (a, b)) l → Pulled ps ls hs l e → Pulled ps ls hs l' (e + 1)
  pull_turns l l' sums e a b r h p q t c =
      let k : Edge = edge_at ls hs e in
      let new : List Float = passed nan (tug ps) (threefold k) l in
      let j : Joins (length ps / point_width) k = joins ls hs (length ps / point_width) e r.edges h in
      let z : l' ≡ new = t ∙ ap₂ (λ (x y : ℕ). passed nan (tug ps) (threefold (x, y)) l) p q in
      let more : each threefold (edges_to ls hs (e + 1)) ≡ each threefold (edges_to ls hs e) ++ threefold k =
      ap (each threefold) (edges_more ls hs e) ∙ each_append threefold (edges_to ls hs e) (k ∷ []) in
      record {
        within = omega arith;
        long = ap length z ∙ three_long k ∙ c.long;
        gathered =
            subst (λ (s : List Float). Gathered (tug ps) nought (length ps) (each threefold (edges_to ls hs (e + 1))) (λ u. get_or s u nan)) (sym z)
            (subst (λ (es : List Edge). Gathered (tug ps) nought (length ps) es (λ u. get_or new u nan)) (sym more) (three_gather k l j c.long c.gathered));
      }
    where
      three_long : (k : Edge) → length (passed nan (tug ps) (threefold k) l) ≡ length l
      three_long k =
          let l₁ : List Float = both nan (tug ps) (on_axis 0 k) l in
          let l₂ : List Float = both nan (tug ps) (on_axis 1 k) l₁ in
          both_long nan (tug ps) (on_axis 2 k) l₂ ∙ both_long nan (tug ps) (on_axis 1 k) l₁ ∙ both_long nan (tug ps) (on_axis 0 k) l

  -- a sum of one position on one axis
  sum_at :
      (l : List Float) (e : ℕ) → Pulled ps ls hs l e → {i : ℕ} → Axis i → (v : ℕ) → number i v < length ps
      → get_or l (number i v) nan ≡ total_from nought (map (from ps i v) (neighbours_in (edges_to ls hs e) v))
  sum_at l e c {i} x v h =
      let es : List Edge = edges_to ls hs e in
      c.gathered.at (number i v) h
      ∙ ap (steps (tug ps (number i v)) nought) (flat_neighbours x v es)
      ∙ steps_total ps i v nought (neighbours_in es v)

  sums_at :
      (l : List Float) (e : ℕ) → Pulled ps ls hs l e → (v : ℕ) → v < length ps / point_width
      → axes (λ i. get_or l (number i v) nan) ≡ axes (λ i. total_from nought (map (from ps i v) (neighbours_in (edges_to ls hs e) v)))
  sums_at l e c v h =
      ap₂ ◌∷◌ (sum_at l e c first v (omega arith))
      (ap₂ ◌∷◌ (sum_at l e c second v (omega arith)) (ap (λ (x : Float). x ∷ []) (sum_at l e c third v (omega arith))))

  pub pull_ends :
      (l : List Float) (e : ℕ) → length ps % point_width ≡ 0 → length ls ≤ e → Pulled ps ls hs l e
      → l ≡ pulls_in (edges_in ls hs) ps (length ps / point_width)
  unfolding pulls_in
  pull_ends l e w h c =
      let n : ℕ = length ps / point_width in
      let m : length l ≡ length ps = c.long in
      let z : e ≡ length ls = omega (arith, c.within) in
      flat_from nan l n 0 (omega arith)
      ∙ each_span_cong (λ v. axes (λ i. get_or l (number i v) nan)) (λ v. axes (λ i. total_from nought (map (from ps i v) (neighbours_in (edges_to ls hs e) v)))) 0 n
      (λ v o u. sums_at l e c v (omega arith))
      ∙ ap (λ (k : ℕ). each (λ v. axes (λ i. total_from nought (map (from ps i v) (neighbours_in (edges_to ls hs k) v)))) (span 0 n)) z
