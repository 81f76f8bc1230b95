-- The neighbours of a face, as the rules record them, are what its part of the row of entries stands for. Assumes nothing.
use mathlib.Core.Path.{◌≡◌, refl, sym, ap, ap₂, ◌∙◌, subst}
use mathlib.Core.Bool.{Bool}
use mathlib.Core.List.{List, [], ◌∷◌, map}
use Prim.Native.Nat.{ℕ, zero, suc, ◌+◌, ◌*◌, ◌-◌, ◌%◌, ◌≤◌, ◌<◌}
use native.Mathlib.Nat.{add-zero}
use native.Mathlib.Numerals.{add-one}
use native.Mathlib.Omega.{arith}
use lib.Dec.{eqb}
use lib.ListN.{length, get_or, drop}
use lib.Seq.{slice, get_or-drop, drop-drop}
use Rattle.lists.specs.Lists.{keep_if, only, each, span}
use Rattle.lists.proofs.Buckets.{length_span, span_at, start, start_grows}
use Rattle.lists.proofs.Mapping.{map_keep}
use Rattle.lists.proofs.Others.{eqb_flip}
use Rattle.sorting.specs.Sorting.{key_is, sorted_by, All}
use Rattle.sorting.proofs.Laws.{sorted_all, sorted_part, ends_at}
use Rattle.connected.specs.Search.{Join, neighbours}
use Rattle.connected.specs.Joins.{flat_join, flat_joins, joins_of}
use Rattle.connected.specs.Walk.{other_end, near_between, begin_of, Adjacent}
use Rattle.connected.proofs.Walking.{other_even, other_odd}

-- ---- flat joins

pub joins_back : (js : List Join) → joins_of (flat_joins js) ≡ js
unfolding joins_of flat_joins
joins_back [] = refl
joins_back (j ∷ js) = ap (λ (l : List Join). j ∷ l) (joins_back js)

length_flat : (js : List Join) → length (flat_joins js) ≡ 2 * length js
unfolding flat_joins
length_flat [] = refl
length_flat (j ∷ js) = let e : length (each flat_join js) ≡ 2 * length js = length_flat js in omega arith

pub flat_even : (js : List Join) → length (flat_joins js) % 2 ≡ 0
flat_even js = let e : length (flat_joins js) ≡ 2 * length js = length_flat js in omega arith

-- the entries of face f from a on, where the joins js stand there
near_from :
    (f : ℕ) (joins : List ℕ) (a : ℕ) (js : List Join) → a % 2 ≡ 0 → drop a joins ≡ flat_joins js
    → map (other_end joins) (only (key_is joins f) (span a (length (flat_joins js)))) ≡ neighbours f js
unfolding flat_joins
near_from f joins a [] w e = refl
near_from f joins a (j ∷ js) w e =
    map_keep (other_end joins) (key_is joins f a) a (keep_if (key_is joins f (suc a)) (suc a) (only (key_is joins f) (span (suc (suc a)) (length (each flat_join js)))))
    ∙ ap (keep_if (key_is joins f a) (other_end joins a)) (map_keep (other_end joins) (key_is joins f (suc a)) (suc a) (only (key_is joins f) (span (suc (suc a)) (length (each flat_join js)))))
    ∙ ap (λ (l : List ℕ). keep_if (key_is joins f a) (other_end joins a) (keep_if (key_is joins f (suc a)) (other_end joins (suc a)) l)) (near_from f joins (suc (suc a)) js (omega arith) behind)
    ∙ ap₂ (λ (b : Bool) (x : ℕ). keep_if b x (keep_if (key_is joins f (suc a)) (other_end joins (suc a)) (neighbours f js))) (ap (λ (x : ℕ). eqb x f) first ∙ eqb_flip j.0 f) (other_first)
    ∙ ap₂ (λ (b : Bool) (x : ℕ). keep_if (eqb f j.0) j.1 (keep_if b x (neighbours f js))) (ap (λ (x : ℕ). eqb x f) second ∙ eqb_flip j.1 f) (other_second)
  where
    first : get_or joins a 0 ≡ j.0
    first = ap (λ (i : ℕ). get_or joins i 0) (sym (add-zero a)) ∙ sym (get_or-drop a joins 0 0) ∙ ap (λ (l : List ℕ). get_or l 0 0) e

    second : get_or joins (suc a) 0 ≡ j.1
    second = ap (λ (i : ℕ). get_or joins i 0) (sym (add-one a)) ∙ sym (get_or-drop a joins 1 0) ∙ ap (λ (l : List ℕ). get_or l 1 0) e

    behind : drop (suc (suc a)) joins ≡ each flat_join js
    behind = ap (λ (i : ℕ). drop i joins) (let z : suc (suc a) ≡ a + 2 = omega arith in z) ∙ sym (drop-drop 2 a joins) ∙ ap (drop 2) e

    other_first : other_end joins a ≡ j.1
    other_first = sym (other_even joins a w) ∙ ap (λ (i : ℕ). get_or joins i 0) (add-one a) ∙ second

    other_second : other_end joins (suc a) ≡ j.0
    other_second =
        sym (other_odd joins (suc a) (λ z. let y : suc a % 2 ≡ 0 = z in omega arith)) ∙ ap (λ (i : ℕ). get_or joins i 0) (let z : suc a - 1 ≡ a = omega arith in z) ∙ first

-- ---- the part of the row that belongs to a face

module _ (joins order ends : List ℕ) (a : Adjacent joins order ends) where
  abbrev entries : List ℕ
  entries = span 0 (length joins)

  entry_keys : All (λ i. get_or joins i 0 < length ends) (span 0 (length joins))
  entry_keys t h =
      let l : length (span 0 (length joins)) ≡ length joins = length_span 0 (length joins) in
      let e : get_or (span 0 (length joins)) t 0 ≡ 0 + t = span_at 0 (length joins) t 0 (omega arith) in
      a.below (get_or (span 0 (length joins)) t 0) (omega arith)

  entry_below : All (λ i. i < length joins) (span 0 (length joins))
  entry_below t h =
      let l : length (span 0 (length joins)) ≡ length joins = length_span 0 (length joins) in
      let e : get_or (span 0 (length joins)) t 0 ≡ 0 + t = span_at 0 (length joins) t 0 (omega arith) in
      omega arith

  pub adjacent_entries : (p : ℕ) → p < length order → get_or order p 0 < length joins
  adjacent_entries =
      subst (λ (o : List ℕ). All (λ i. i < length joins) o) (sym a.ordered) (sorted_all (λ i. i < length joins) (length ends) joins (span 0 (length joins)) entry_below)

  pub adjacent_even : length joins % 2 ≡ 0
  adjacent_even = ap (λ (l : List ℕ). length l % 2) a.whole ∙ flat_even (joins_of joins)

  end_is : (x : ℕ) → x < length ends → get_or ends x 0 ≡ length (sorted_by (suc x) joins (span 0 (length joins)))
  end_is x h = ap (λ (l : List ℕ). get_or l x 0) a.ended ∙ ends_at (length ends) joins (span 0 (length joins)) x h

  begin_is : (x : ℕ) → x < length ends → begin_of ends x ≡ length (sorted_by x joins (span 0 (length joins)))
  unfolding begin_of sorted_by
  begin_is zero h = refl
  begin_is (suc x) h = end_is x (omega arith)

  pub adjacent_end : (x : ℕ) → x < length ends → get_or ends x 0 ≤ length order
  unfolding sorted_by start
  adjacent_end x h =
      let b : ℕ → List ℕ = λ k. only (key_is joins k) (span 0 (length joins)) in
      let e : get_or ends x 0 ≡ start b (suc x) = end_is x h in
      let o : length order ≡ start b (length ends) = ap length a.ordered in
      let g : start b (suc x) ≤ start b (length ends) = start_grows b (suc x) (length ends) h in
      omega arith

  -- the neighbours of face x, in the order they were recorded
  pub neighbours_are : (x : ℕ) → x < length ends → near_between joins order (begin_of ends x) (get_or ends x 0) ≡ neighbours x (joins_of joins)
  neighbours_are x h =
      ap (map (other_end joins))
      (ap₂ (λ (i k : ℕ). slice i k order) (begin_is x h) (end_is x h)
      ∙ ap (slice (length (sorted_by x joins (span 0 (length joins)))) (length (sorted_by (suc x) joins (span 0 (length joins))))) a.ordered
      ∙ sorted_part (length ends) joins (span 0 (length joins)) x h
      ∙ ap (λ (n : ℕ). only (key_is joins x) (span 0 n)) (ap length a.whole))
      ∙ near_from x joins 0 (joins_of joins) refl a.whole
