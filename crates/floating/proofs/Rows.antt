-- Where a point stands in a flat list: its row is its coordinates; a row of a list that was mapped is the row, mapped. Assumes nothing.
use mathlib.Core.Path.{◌≡◌, refl, sym, ap, ◌∙◌, subst}
use mathlib.Core.Bool.{Bool, false}
use mathlib.Core.List.{List, [], ◌∷◌, map}
use Prim.Native.Nat.{ℕ, zero, suc, ◌+◌, ◌*◌, ◌≤◌, ◌<◌}
use native.Mathlib.Nat.{mul-suc, mul-le-mul_left}
use native.Mathlib.Omega.{arith}
use lib.ListN.{length, get_or, take, drop}
use lib.Seq.{drop-cons}
use lib.Ieee.{Float, nan, binary64, add}
use Rattle.lists.specs.Lists.{some}
use Rattle.lists.proofs.Copies.{map_take}
use Rattle.lists.proofs.Parts.{some_take, some_drop}
use Rattle.floating.specs.Points.{coordinates, leading, point, point_at, points_of, row}
use Rattle.floating.specs.Near.{square, sum_from, squared}
use Rattle.floating.specs.declared.Point.{Point}

-- point i of n fits
pub row_fits : (w i n : ℕ) → i < n → w * i + w ≤ w * n
row_fits w i n h = subst (λ (k : ℕ). k ≤ w * n) (mul-suc w i) (mul-le-mul_left w h)

module _ {A : Type 0} where
  -- one element, and the rest of the row
  next : (d : A) (s : List A) (w a : ℕ) → a < length s → take (suc w) (drop a s) ≡ get_or s a d ∷ take w (drop (suc a) s)
  next d s w a h = ap (take (suc w)) (drop-cons s a d h)

  pub row_two : (d : A) (s : List A) (i : ℕ) → 2 * i + 2 ≤ length s → row 2 s i ≡ (get_or s (2 * i) d ∷ get_or s (2 * i + 1) d ∷ [])
  unfolding row
  row_two d s i h =
      let e : 2 * i + 1 ≡ suc (2 * i) = omega arith in
      rw (next d s 1 (2 * i) (omega arith), next d s 0 (suc (2 * i)) (omega arith), e)

  pub row_three : (d : A) (s : List A) (i : ℕ) → 3 * i + 3 ≤ length s → row 3 s i ≡ (get_or s (3 * i) d ∷ get_or s (3 * i + 1) d ∷ get_or s (3 * i + 2) d ∷ [])
  unfolding row
  row_three d s i h =
      let e : 3 * i + 1 ≡ suc (3 * i) = omega arith in
      let f : 3 * i + 2 ≡ suc (suc (3 * i)) = omega arith in
      rw (next d s 2 (3 * i) (omega arith), next d s 1 (suc (3 * i)) (omega arith), next d s 0 (suc (suc (3 * i))) (omega arith), e, f)

module _ {A B : Type 0} (f : A → B) where
  drop_map : (n : ℕ) (s : List A) → drop n (map f s) ≡ map f (drop n s)
  drop_map zero s = refl
  drop_map (suc n) [] = refl
  drop_map (suc n) (x ∷ s) = drop_map n s

  pub row_map : (w : ℕ) (s : List A) (i : ℕ) → row w (map f s) i ≡ map f (row w s i)
  unfolding row
  row_map w s i = ap (take w) (drop_map (w * i) s) ∙ sym (map_take f w (drop (w * i) s))

-- what no element of a list passes, none of a row passes
module _ {A : Type 0} (p : A → Bool) where
  pub some_row : (w : ℕ) (s : List A) (i : ℕ) → some p s ≡ false → some p (row w s i) ≡ false
  unfolding row
  some_row w s i h = some_take p w (drop (w * i) s) (some_drop p (w * i) s h)

-- ---- coordinates

pub point_row : (s : List Float) (i : ℕ) → 3 * i + 3 ≤ length s → coordinates (point_at s i) ≡ row 3 s i
unfolding point_at
point_row s i h = sym (row_three nan s i h)

-- a width that is not 2 is 3
pub three : (w : ℕ) → (w ≡ 2 → ⊥) → 2 ≤ w → w ≤ 3 → w ≡ 3
three w a b c = omega arith

-- point i at a width that is 2, with any third coordinate, and at one that is 3
pub attr_two :
    (w : ℕ) (s : List Float) (i : ℕ) (z : Float) → w ≡ 2 → w * i + w ≤ length s
    → leading w (point (get_or s (w * i) nan) (get_or s (w * i + 1) nan) z) ≡ row w s i
attr_two w s i z e =
    subst (λ (k : ℕ). k * i + k ≤ length s → leading k (point (get_or s (k * i) nan) (get_or s (k * i + 1) nan) z) ≡ row k s i) (sym e)
    (λ h. sym (row_two nan s i h))

pub attr_three :
    (w : ℕ) (s : List Float) (i : ℕ) → w ≡ 3 → w * i + w ≤ length s
    → leading w (point (get_or s (w * i) nan) (get_or s (w * i + 1) nan) (get_or s (w * i + 2) nan)) ≡ row w s i
attr_three w s i e =
    subst (λ (k : ℕ). k * i + k ≤ length s → leading k (point (get_or s (k * i) nan) (get_or s (k * i + 1) nan) (get_or s (k * i + 2) nan)) ≡ row k s i) (sym e)
    (λ h. sym (row_three nan s i h))

-- a point of width 3 is its row
pub attr_point : (s : List Float) (i : ℕ) (p : Point) → 3 * i + 3 ≤ length s → leading 3 p ≡ row 3 s i → p ≡ point_at s i
attr_point s i p h e = ap (λ (l : List Float). get_or (points_of l) 0 p) (e ∙ sym (point_row s i h))

-- ---- the squared distance at a width that is 2, and at one that is 3

pub squared_two : (w : ℕ) (p q : Point) → w ≡ 2 → add binary64 (square p.x q.x) (square p.y q.y) ≡ squared (leading w p) (leading w q)
unfolding squared sum_from
squared_two w p q e = subst (λ (k : ℕ). add binary64 (square p.x q.x) (square p.y q.y) ≡ squared (leading k p) (leading k q)) (sym e) refl

pub squared_three : (w : ℕ) (p q : Point) → w ≡ 3 → add binary64 (add binary64 (square p.x q.x) (square p.y q.y)) (square p.z q.z) ≡ squared (leading w p) (leading w q)
unfolding squared sum_from
squared_three w p q e = subst (λ (k : ℕ). add binary64 (add binary64 (square p.x q.x) (square p.y q.y)) (square p.z q.z) ≡ squared (leading k p) (leading k q)) (sym e) refl
