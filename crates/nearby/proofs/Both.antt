-- Nearness goes both ways: point i is near point j exactly where j is near i. Two coordinates taken from each other the other way
-- round give the same number with the other sign, or the same zero; so the square is the same. Assumes nothing.
use mathlib.Core.Path.{◌≡◌, refl, sym, ap, ◌∙◌}
use mathlib.Core.Bool.{Bool, true, false, not, ◌&&◌, cond}
use mathlib.Core.List.{List, [], ◌∷◌}
use Prim.Native.Nat.{ℕ, zero, suc, ◌+◌, ◌-◌, ◌*◌, ◌^◌, ◌≤◌, ◌<◌}
use native.Mathlib.Nat.{add_comm, mul_comm}
use native.Mathlib.Omega.{arith}
use lib.Dec.{leb, ltb}
use lib.IntN.{ℤ, pos, negsuc, neg_ℤ, nat_abs, ◌-ℤ◌, ◌+ℤ◌, neg_ℤ-neg_ℤ, neg_ℤ-+ℤ, +ℤ_comm}
use lib.Ieee.{Float, nan, inf, fin, Format, binary64, prec, emax, low, up, down, unlike, odd, units, round, neg, sum, add, sub, mul, lt}
use borrow.Author.Tests.{ltb-true, ltb-false}
use Rattle.floating.specs.Points.{row}
use Rattle.floating.specs.Cells.{cell, within, compared}
use Rattle.floating.specs.Near.{square, sum_from, squared, below, near}
use Rattle.nearby.specs.Promises.{NearBothWays}

-- ---- cells

abs_neg : (k : ℤ) → nat_abs (neg_ℤ k) ≡ nat_abs k
abs_neg (pos zero) = refl
abs_neg (pos (suc n)) = refl
abs_neg (negsuc n) = refl

within_both : (a b : ℤ) → within a b ≡ within b a
within_both a b =
    ap
    (λ (n : ℕ). leb n 2)
    (sym (abs_neg (a -ℤ b)) ∙ ap nat_abs (neg_ℤ-+ℤ a (neg_ℤ b) ∙ ap (λ (k : ℤ). neg_ℤ a +ℤ k) (neg_ℤ-neg_ℤ b) ∙ +ℤ_comm (neg_ℤ a) b))

compared_both : (t : Float) (ps qs : List Float) → compared t ps qs ≡ compared t qs ps
unfolding compared
compared_both t [] [] = refl
compared_both t [] (q ∷ qs) = refl
compared_both t (p ∷ ps) [] = refl
compared_both t (p ∷ ps) (q ∷ qs) =
    ap (λ (u : Bool). u && compared t ps qs) (within_both (cell t p) (cell t q))
    ∙ ap (λ (u : Bool). within (cell t q) (cell t p) && u) (compared_both t ps qs)

-- ---- a square does not ask for the sign

module _ (f : Format) where
  abbrev times : Float → Float
  times x = mul f x x

  like : (s : Bool) → unlike s s ≡ false
  like true = refl
  like false = refl

  fin_times : (s t : Bool) (m : ℕ) (e : ℤ) → times (fin s m e) ≡ times (fin t m e)
  unfolding mul
  fin_times s t m e = ap (λ (b : Bool). round f b (m * up e * (m * up e)) (down e * down e)) (like s ∙ sym (like t))

  inf_times : (s t : Bool) → times (inf s) ≡ times (inf t)
  unfolding mul
  inf_times s t = ap inf (like s ∙ sym (like t))

  odd_times : (d : ℕ) (s t : Bool) (q k l : ℕ) → times (odd d s q k l) ≡ times (odd d t q k l)
  unfolding odd
  odd_times d s t zero k l = fin_times s t zero (pos zero)
  odd_times d s t (suc q) k l = fin_times s t _ _

  units_times : (s t : Bool) (q k : ℕ) → times (units f s q k) ≡ times (units f t q k)
  unfolding units
  units_times s t q k = go (ltb (q * 2 ^ k) (2 ^ (low f + suc (emax f)))) (suc (prec f)) (low f)
    where
      go : (b : Bool) (d l : ℕ) → times (cond b (odd d s q k l) (inf s)) ≡ times (cond b (odd d t q k l) (inf t))
      go true d l = odd_times d s t q k l
      go false d l = inf_times s t

  round_times : (s t : Bool) (a c : ℕ) → times (round f s a c) ≡ times (round f t a c)
  unfolding round
  round_times s t a c = units_times s t _ _

  -- a - b and b - a, with one sign and with two
  less_times :
      (s : Bool) (a b c : ℕ) (x y : Bool)
      → ltb a b ≡ x
      → ltb b a ≡ y
      → times (cond x (round f (not s) (b - a) c) (round f (s && y) (a - b) c)) ≡ times (cond y (round f (not s) (a - b) c) (round f (s && x) (b - a) c))
  less_times s a b c true true p q = absurd (let l : a < b = ltb-true a b p in let m : b < a = ltb-true b a q in omega arith)
  less_times s a b c true false p q = round_times (not s) (s && true) (b - a) c
  less_times s a b c false true p q = round_times (s && true) (not s) (a - b) c
  less_times s a b c false false p q =
      let l : b ≤ a = ltb-false a b p in
      let m : a ≤ b = ltb-false b a q in
      let e : a - b ≡ b - a = omega arith in
      ap (λ (n : ℕ). times (round f (s && false) n c)) e

  more_times : (s t : Bool) (a b c : ℕ) → times (round f s (a + b) c) ≡ times (round f t (b + a) c)
  more_times s t a b c = ap (λ (n : ℕ). times (round f s n c)) (add_comm a b) ∙ round_times s t (b + a) c

  sum_times : (s t : Bool) (a b c : ℕ) → times (sum f s a (not t) b c) ≡ times (sum f t b (not s) a c)
  unfolding sum
  sum_times true true a b c = less_times true a b c (ltb a b) (ltb b a) refl refl
  sum_times true false a b c = more_times true false a b c
  sum_times false true a b c = more_times false true a b c
  sum_times false false a b c = less_times false a b c (ltb a b) (ltb b a) refl refl

  sub_times : (p q : Float) → times (sub f p q) ≡ times (sub f q p)
  unfolding sub add neg
  sub_times nan nan = refl
  sub_times nan (inf t) = refl
  sub_times nan (fin t n d) = refl
  sub_times (inf s) nan = refl
  sub_times (inf true) (inf true) = refl
  sub_times (inf true) (inf false) = inf_times true false
  sub_times (inf false) (inf true) = inf_times false true
  sub_times (inf false) (inf false) = refl
  sub_times (inf s) (fin t n d) = inf_times s (not s)
  sub_times (fin s m e) nan = refl
  sub_times (fin s m e) (inf t) = inf_times (not t) t
  sub_times (fin s m e) (fin t n d) =
      sum_times s t (m * up e * down d) (n * up d * down e) (down e * down d)
      ∙ ap (λ (c : ℕ). times (sum f t (n * up d * down e) (not s) (m * up e * down d) c)) (mul_comm (down e) (down d))

-- ---- distances, and nearness

square_both : (p q : Float) → square p q ≡ square q p
square_both = sub_times binary64

sum_both : (a : Float) (ps qs : List Float) → sum_from a ps qs ≡ sum_from a qs ps
unfolding sum_from
sum_both a [] [] = refl
sum_both a [] (q ∷ qs) = refl
sum_both a (p ∷ ps) [] = refl
sum_both a (p ∷ ps) (q ∷ qs) =
    ap (λ (x : Float). sum_from (add binary64 a x) ps qs) (square_both p q) ∙ sum_both (add binary64 a (square q p)) ps qs

squared_both : (ps qs : List Float) → squared ps qs ≡ squared qs ps
unfolding squared
squared_both [] [] = refl
squared_both [] (q ∷ qs) = refl
squared_both (p ∷ ps) [] = refl
squared_both (p ∷ ps) (q ∷ qs) = ap (λ (x : Float). sum_from x ps qs) (square_both p q) ∙ sum_both (square q p) ps qs

near_rows : (t : Float) (ps qs : List Float) → near t ps qs ≡ near t qs ps
unfolding near
near_rows t ps qs =
    ap (λ (u : Bool). u && below t ps qs) (compared_both t ps qs)
    ∙ ap (λ (x : Float). compared t qs ps && lt x (mul binary64 t t)) (squared_both ps qs)

pub near_both : NearBothWays
near_both t w s i j = near_rows t (row w s i) (row w s j)
