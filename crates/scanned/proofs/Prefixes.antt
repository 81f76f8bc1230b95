-- The first keys, and one key more: new, or seen before. Assumes nothing.
use mathlib.Core.Path.{◌≡◌, sym, ap, ◌∙◌}
use mathlib.Core.Bool.{true, false}
use mathlib.Core.List.{List, [], ◌∷◌, ◌++◌, map, map-append}
use Prim.Native.Nat.{ℕ, ◌+◌, ◌-◌, ◌≤◌, ◌<◌}
use native.Mathlib.Nat.{zero-add}
use native.Mathlib.Omega.{arith}
use lib.Dec.{eqb}
use lib.ListN.{length, get_or, take}
use lib.Seq.{take_at}
use borrow.Author.Tests.{ne_eqb}
use Rattle.lists.specs.Lists.{has, span}
use Rattle.lists.specs.FirstUses.{first_uses, place}
use Rattle.lists.proofs.Buckets.{span_add, span_snoc, length_table, table_at}
use Rattle.lists.proofs.Parts.{some_none}
use Rattle.lists.proofs.FirstUses.{has-first_uses, new_to, first_uses-append, first_uses-old, first_uses-new}
use Rattle.lists.proofs.Places.{place_below, place_append, place_new, has_get_d}
use Rattle.scanned.specs.Seen.{upto, seen}

module _ (key : ℕ → ℕ) where
  pub upto_long : (n : ℕ) → length (upto key n) ≡ n
  upto_long n = length_table key n

  pub upto_at : (n y : ℕ) → y < n → get_or (upto key n) y 0 ≡ key y
  upto_at n y h = table_at key n y 0 h

  pub upto_more : (n : ℕ) → upto key (n + 1) ≡ upto key n ++ (key n ∷ [])
  upto_more n =
      ap (map key) (span_snoc 0 n ∙ ap (λ (m : ℕ). span 0 n ++ (m ∷ [])) (zero-add n)) ∙ map-append key (span 0 n) (n ∷ [])

  pub upto_take : (k n : ℕ) → k ≤ n → take k (upto key n) ≡ upto key k
  upto_take k n h =
      let e : n ≡ k + (n - k) = omega arith in
      ap (λ (m : ℕ). take k (upto key m)) e
      ∙ ap (λ (l : List ℕ). take k (map key l)) (span_add 0 k (n - k))
      ∙ ap (take k) (map-append key (span 0 k) (span (0 + k) (n - k)))
      ∙ take_at (upto key k) (map key (span (0 + k) (n - k))) k (upto_long k)

  -- a key before n is there
  pub has_upto : (n y : ℕ) → y < n → has (key y) (upto key n) ≡ true
  has_upto n y h =
      let l : length (upto key n) ≡ n = upto_long n in
      ap (λ (k : ℕ). has k (upto key n)) (sym (upto_at n y h)) ∙ has_get_d (upto key n) y (omega arith)

  pub has_seen : (n y : ℕ) → y < n → has (key y) (seen key n) ≡ true
  has_seen n y h = has-first_uses (key y) (upto key n) ∙ has_upto n y h

  -- one that no key before n is
  pub has_none : (n k : ℕ) → ((y : ℕ) → y < n → k ≡ key y → ⊥) → has k (upto key n) ≡ false
  has_none n k f =
      some_none (eqb k) 0 (upto key n)
      (λ y h.
      let l : length (upto key n) ≡ n = upto_long n in
      let i : y < n = omega arith in
      ne_eqb k (get_or (upto key n) y 0) (λ e. f y i (e ∙ upto_at n y i)))

  -- one key more
  pub seen_old : (n : ℕ) → has (key n) (upto key n) ≡ true → seen key (n + 1) ≡ seen key n
  seen_old n h = ap first_uses (upto_more n) ∙ first_uses-old (upto key n) (key n) h

  pub seen_new : (n : ℕ) → has (key n) (upto key n) ≡ false → seen key (n + 1) ≡ seen key n ++ (key n ∷ [])
  seen_new n h = ap first_uses (upto_more n) ∙ first_uses-new (upto key n) (key n) h

  -- more keys do not move one that is there
  pub seen_prefix : (n u : ℕ) → n ≤ u → seen key u ≡ seen key n ++ new_to (seen key n) (first_uses (map key (span n (u - n))))
  seen_prefix n u h =
      let e : u ≡ n + (u - n) = omega arith in
      ap (seen key) e
      ∙ ap (λ (l : List ℕ). first_uses (map key l)) (span_add 0 n (u - n))
      ∙ ap first_uses (map-append key (span 0 n) (span (0 + n) (u - n)))
      ∙ ap (λ (m : ℕ). first_uses (upto key n ++ map key (span m (u - n)))) (zero-add n)
      ∙ first_uses-append (upto key n) (map key (span n (u - n)))

  pub place_stays : (n u y : ℕ) → n ≤ u → y < n → place (seen key u) (key y) ≡ place (seen key n) (key y)
  place_stays n u y h l =
      ap (λ (s : List ℕ). place s (key y)) (seen_prefix n u h) ∙ place_append (seen key n) _ (key y) (has_seen n y l)

  -- the number of key n, among those up to u: seen before, it is below how many were seen; new, it is that
  pub number_old : (n u : ℕ) → n < u → has (key n) (upto key n) ≡ true → place (seen key u) (key n) < length (seen key n)
  number_old n u l h =
      let s : has (key n) (seen key n) ≡ true = has-first_uses (key n) (upto key n) ∙ h in
      let e : place (seen key u) (key n) ≡ place (seen key n) (key n) =
      ap (λ (t : List ℕ). place t (key n)) (seen_prefix n u (omega arith)) ∙ place_append (seen key n) _ (key n) s in
      let b : place (seen key n) (key n) < length (seen key n) = place_below (seen key n) (key n) s in
      omega arith

  pub number_new : (n u : ℕ) → n < u → has (key n) (upto key n) ≡ false → place (seen key u) (key n) ≡ length (seen key n)
  number_new n u l h =
      place_stays (n + 1) u n (omega arith) (omega arith)
      ∙ ap (λ (t : List ℕ). place t (key n)) (seen_new n h)
      ∙ place_new (seen key n) (key n) (has-first_uses (key n) (upto key n) ∙ h)
