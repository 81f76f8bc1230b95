-- The engine's cells and tests are the rules' own: cells as places, `beside_at` as `compared_at`, `near_by` as `near_at`. Assumes nothing.
use mathlib.Core.Path.{◌≡◌, refl, sym, ◌∙◌, subst}
use mathlib.Core.Bool.{false, ◌&&◌}
use mathlib.Core.List.{List, [], ◌∷◌, map}
use Prim.Native.Nat.{ℕ, zero, suc, ◌+◌, ◌^◌, ◌≤◌, ◌<◌}
use native.Mathlib.Omega.{arith}
use lib.IntN.{ℤ, pos, negsuc, nat_abs}
use lib.ListN.{length, get_or, set, length-map, get_or-map}
use lib.Seq.{sets}
use lib.Ieee.{Float, nan}
use Rattle.lists.specs.Lists.{some}
use Rattle.lists.proofs.Parts.{some_false_at}
use Rattle.lists.proofs.Writing.{Copying, copy_turns, copy_ends}
use Rattle.floating.specs.Limits.{far, quotient, distant}
use Rattle.floating.specs.Points.{row}
use Rattle.floating.specs.Cells.{cell, cut, place}
use Rattle.floating.specs.Near.{below, near}
use Rattle.floating.proofs.Places.{cut_small, compared_is}
use Rattle.floating.proofs.Rows.{row_map, some_row}
use Rattle.nearby.specs.Pairs.{compared_at, near_at}
use Rattle.nearby.specs.Engine.{cells_of, beside_at, near_by, Small}

abbrev placed : Float → Float → ℕ
placed t x = place (cell t x)

-- ---- filling the cells

pub cells_near : (t : Float) (s : List Float) (k : ℕ) → some (distant t) s ≡ false → k < length s → far (quotient t (get_or s k nan)) ≡ false
cells_near t s k h l = some_false_at (distant t) nan s k h l

pub length_cells : (t : Float) (s : List Float) → length (cells_of t s) ≡ length s
unfolding cells_of
length_cells t s = length-map s (placed t)

pub cells_turn :
    (t : Float) (s : List Float) (l l' : List ℕ) (k v : ℕ)
    → k < length s
    → v ≡ place (cut (quotient t (get_or s k nan)))
    → Copying (cells_of t s) l l' 0 k
    → Copying (cells_of t s) l (set l' k v) 0 (k + 1)
unfolding cells_of
cells_turn t s l l' k v h e g =
    let i : v ≡ get_or (map (placed t) s) k (placed t nan) = e ∙ sym (get_or-map (placed t) s k nan) in
    let z : 0 + k ≡ k = omega arith in
    subst (λ (j : ℕ). Copying (map (placed t) s) l (set l' j v) 0 (k + 1)) z
    (subst (λ (x : ℕ). Copying (map (placed t) s) l (set l' (0 + k) x) 0 (k + 1)) (sym i)
    (copy_turns (placed t nan) (map (placed t) s) l l' 0 k (omega (arith, length-map s (placed t))) g))

pub cells_end : (t : Float) (s : List Float) (l l' : List ℕ) (k : ℕ) → length s ≤ k → Copying (cells_of t s) l l' 0 k → l' ≡ sets l 0 (cells_of t s)
cells_end t s l l' k h g = copy_ends 0 (cells_of t s) l l' 0 k (omega (arith, length_cells t s)) g

-- ---- a place is below 2^54

place_small : (z : ℤ) → nat_abs z < 2 ^ 53 → place z ≤ 2 ^ 54
unfolding place
place_small (pos n) h = let l : n < 2 ^ 53 = h in omega arith
place_small (negsuc n) h = let l : suc n < 2 ^ 53 = h in omega arith

pub cells_small : (t : Float) (s : List Float) → some (distant t) s ≡ false → Small (cells_of t s)
unfolding cells_of
cells_small t s h = record {
  each = λ k l.
      let m : k < length s = omega (arith, length-map s (placed t)) in
      let e : get_or (map (placed t) s) k (placed t nan) ≡ placed t (get_or s k nan) = get_or-map (placed t) s k nan in
      let d : get_or (map (placed t) s) k 0 ≡ get_or (map (placed t) s) k (placed t nan) = same (map (placed t) s) k 0 (placed t nan) l in
      let q : placed t (get_or s k nan) ≤ 2 ^ 54 = place_small (cell t (get_or s k nan)) (cut_small (quotient t (get_or s k nan)) (cells_near t s k h m)) in
      omega arith;
}
  where
    same : (l : List ℕ) (k a b : ℕ) → k < length l → get_or l k a ≡ get_or l k b
    same [] k a b h = absurd (let z : suc k ≤ 0 = h in omega arith)
    same (x ∷ l) zero a b h = refl
    same (x ∷ l) (suc k) a b h = same l k a b (let z : suc k < suc (length l) = h in omega arith)

-- ---- the tests

module _ (t : Float) (w : ℕ) (s : List Float) (h : some (distant t) s ≡ false) where
  beside_each : (i j : ℕ) → beside_at w (cells_of t s) i j ≡ compared_at t w s i j
  unfolding beside_at cells_of
  beside_each i j =
      rw (row_map (placed t) w s i, row_map (placed t) w s j)
      (compared_is t (row w s i) (row w s j) (some_row (distant t) w s i h) (some_row (distant t) w s j h))

  pub beside_agrees : beside_at w (cells_of t s) ≡ compared_at t w s
  beside_agrees = λ k i j. beside_each i j k

  pub near_agrees : near_by t w s (cells_of t s) ≡ near_at t w s
  unfolding near_by near
  near_agrees = λ k i j. beside_each i j k && below t (row w s i) (row w s j)
