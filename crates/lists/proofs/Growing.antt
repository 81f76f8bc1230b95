-- A list that is being written: what stands there, with what is left written behind it, is the whole. Assumes nothing.
use mathlib.Core.Path.{◌≡◌, refl, sym, ap, ◌∙◌}
use mathlib.Core.List.{List, [], ◌∷◌, ◌++◌}
use Prim.Native.Nat.{ℕ, suc, ◌+◌, ◌≤◌}
use native.Mathlib.Numerals.{add-one}
use native.Mathlib.Omega.{arith}
use lib.ListN.{length, set, length-append, length-set}
use lib.Seq.{sets, length-sets}
use Rattle.lists.proofs.Writing.{sets_append}

-- l₀ is to have `all` from b on; l is as it stands now, and `left` is still to be written, from `at` on
pub record Growing {A : Type 0} (l₀ l : List A) (b at : ℕ) (all left : List A) : Type 0 where
  pub rest : sets l at left ≡ sets l₀ b all
  pub place : at + length left ≡ b + length all
  pub long : length l ≡ length l₀

module _ {A : Type 0} where
  pub grow_begins : (l : List A) (b : ℕ) (all : List A) → Growing l l b b all all
  grow_begins l b all = record { rest = refl; place = refl; long = refl }

  -- one element more is written
  pub grow_turns : (l₀ l : List A) (b at : ℕ) (all : List A) (x : A) (left : List A) → Growing l₀ l b at all (x ∷ left) → Growing l₀ (set l at x) b (at + 1) all left
  grow_turns l₀ l b at all x left g = record {
    rest = ap (λ (k : ℕ). sets (set l at x) k left) (add-one at) ∙ g.rest;
    place = let e : at + suc (length left) ≡ b + length all = g.place in omega arith;
    long = length-set l at x ∙ g.long;
  }

  -- several at once
  pub grow_part : (l₀ l : List A) (b at : ℕ) (all new left : List A) → Growing l₀ l b at all (new ++ left) → Growing l₀ (sets l at new) b (at + length new) all left
  grow_part l₀ l b at all new left g = record {
    rest = sym (sets_append l at new left) ∙ g.rest;
    place = let e : at + length (new ++ left) ≡ b + length all = g.place in let n : length (new ++ left) ≡ length new + length left = length-append new left in omega arith;
    long = length-sets l at new ∙ g.long;
  }

  -- nothing is left
  pub grow_ends : (l₀ l : List A) (b at : ℕ) (all : List A) → Growing l₀ l b at all [] → l ≡ sets l₀ b all
  grow_ends l₀ l b at all g = g.rest

  -- there is room for what is left
  pub grow_room : (l₀ l : List A) (b at : ℕ) (all left : List A) → b + length all ≤ length l₀ → Growing l₀ l b at all left → at + length left ≤ length l
  grow_room l₀ l b at all left h g = omega (arith, g.place, g.long)
