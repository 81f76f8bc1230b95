-- Cells as numbers from 0: 'differ by at most 2' is said of the places as of the signed cells themselves, |a - b| ≤ 2.
-- Assumes nothing.
use mathlib.Core.Path.{◌≡◌, refl, sym, ap, ◌∙◌}
use mathlib.Core.Bool.{Bool, true, false, ◌&&◌, cond}
use mathlib.Core.List.{[], ◌∷◌, map}
use Prim.Native.Nat.{ℕ, zero, suc, ◌+◌, ◌-◌, ◌*◌, ◌/◌, ◌^◌, ◌≤◌, ◌<◌}
use native.Mathlib.Nat.{div-lt_iff_lt-mul}
use native.Mathlib.Omega.{arith}
use lib.Dec.{leb, ltb}
use lib.IntN.{ℤ, pos, negsuc, nat_abs, sub_ℕ, ◌-ℤ◌}
use lib.Ieee.{Float, nan, inf, fin, up, down}
use lib.Ieee.Fits.{down_pos}
use borrow.Author.Tests.{le-leb, lt-leb, leb-true, leb-false, ltb-true, ltb-false}
use Rattle.lists.specs.Lists.{some}
use Rattle.lists.proofs.Bools.{true_false, or_false_left, or_false_right}
use Rattle.floating.specs.Limits.{far, quotient, distant}
use Rattle.floating.specs.Cells.{signed, cut, cell, within, compared, place, beside, besides}
use Rattle.floating.specs.Promises.{ComparedByPlaces}

-- ---- two integers, and their places above -B

abbrev up_to : ℕ → ℤ → ℕ
up_to B (pos n) = B + n
up_to B (negsuc n) = B - suc n

abs_sub : (a b : ℕ) → nat_abs (sub_ℕ a b) ≡ (a - b) + (b - a)
abs_sub a b = go (ltb a b) refl
  where
    go : (t : Bool) → ltb a b ≡ t → nat_abs (cond t (negsuc (b - suc a)) (pos (a - b))) ≡ (a - b) + (b - a)
    go true e = let l = ltb-true a b e in omega arith
    go false e = let l = ltb-false a b e in omega arith

apart : (B : ℕ) (a b : ℤ) → nat_abs a ≤ B → nat_abs b ≤ B → nat_abs (a -ℤ b) ≡ (up_to B a - up_to B b) + (up_to B b - up_to B a)
apart B (pos a) (pos zero) p q = omega arith
apart B (pos a) (pos (suc b)) p q = abs_sub a (suc b) ∙ omega arith
apart B (pos a) (negsuc b) p q = let h : suc b ≤ B = q in omega arith
apart B (negsuc a) (pos zero) p q = let h : suc a ≤ B = p in abs_sub 0 (suc a) ∙ omega arith
apart B (negsuc a) (pos (suc b)) p q = let h : suc a ≤ B = p in omega arith
apart B (negsuc a) (negsuc b) p q = let h : suc a ≤ B = p in let g : suc b ≤ B = q in abs_sub (suc b) (suc a) ∙ omega arith

by_place : (x y : ℕ) → leb ((x - y) + (y - x)) 2 ≡ beside x y
by_place x y = go (leb x (y + 2)) refl (leb y (x + 2)) refl
  where
    go : (t : Bool) → leb x (y + 2) ≡ t → (u : Bool) → leb y (x + 2) ≡ u → leb ((x - y) + (y - x)) 2 ≡ (t && u)
    go true e true f = let l = leb-true x (y + 2) e in let m = leb-true y (x + 2) f in le-leb ((x - y) + (y - x)) 2 (omega arith)
    go true e false f = let m = leb-false y (x + 2) f in lt-leb ((x - y) + (y - x)) 2 (omega arith)
    go false e u f = let l = leb-false x (y + 2) e in lt-leb ((x - y) + (y - x)) 2 (omega arith)

place_is : (a : ℤ) → place a ≡ up_to (2 ^ 53) a
unfolding place
place_is (pos n) = refl
place_is (negsuc n) = refl

-- two cells of magnitude 2^53 at most differ by at most 2 exactly where their places do
pub beside_is : (a b : ℤ) → nat_abs a ≤ 2 ^ 53 → nat_abs b ≤ 2 ^ 53 → beside (place a) (place b) ≡ within a b
beside_is a b p q =
    rw (place_is a, place_is b)
    (sym (ap (λ (n : ℕ). leb n 2) (apart (2 ^ 53) a b p q) ∙ by_place (up_to (2 ^ 53) a) (up_to (2 ^ 53) b)))

-- ---- the cell of a quotient below 2^53

abs_signed : (s : Bool) (n : ℕ) → nat_abs (signed s n) ≡ n
abs_signed false n = refl
abs_signed true zero = refl
abs_signed true (suc n) = refl

pub cut_small : (q : Float) → far q ≡ false → nat_abs (cut q) < 2 ^ 53
unfolding far cut
cut_small nan h = true_false h
cut_small (inf s) h = true_false h
cut_small (fin s m e) h =
    let z : nat_abs (signed s (m * up e / down e)) ≡ m * up e / down e = abs_signed s (m * up e / down e) in
    let l : m * up e / down e < 2 ^ 53 = (div-lt_iff_lt-mul (down_pos e)).1 (leb-false (2 ^ 53 * down e) (m * up e) h) in
    omega arith

-- ---- points

-- one number more of a row
abbrev placed : Float → Float → ℕ
placed t x = place (cell t x)

pub compared_is : ComparedByPlaces
unfolding compared
compared_is t [] qs h k = refl
compared_is t (p ∷ ps) [] h k = refl
compared_is t (p ∷ ps) (q ∷ qs) h k =
    let a : nat_abs (cell t p) < 2 ^ 53 = cut_small (quotient t p) (or_false_left (distant t p) (some (distant t) ps) h) in
    let b : nat_abs (cell t q) < 2 ^ 53 = cut_small (quotient t q) (or_false_left (distant t q) (some (distant t) qs) k) in
    ap (λ (u : Bool). u && besides (map (placed t) ps) (map (placed t) qs)) (beside_is (cell t p) (cell t q) (omega arith) (omega arith))
    ∙ ap (λ (u : Bool). within (cell t p) (cell t q) && u) (compared_is t ps qs (or_false_right (distant t p) (some (distant t) ps) h) (or_false_right (distant t q) (some (distant t) qs) k))
