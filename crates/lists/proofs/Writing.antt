-- Growing a slice: what was written from a place on, and one thing more after it. Assumes nothing.
use mathlib.Core.Path.{◌≡◌, refl, ap, ◌∙◌}
use mathlib.Core.List.{List, [], ◌∷◌, ◌++◌}
use Prim.Native.Nat.{ℕ, suc, ◌+◌, ◌≤◌, ◌<◌}
use native.Mathlib.Nat.{add-zero, add-suc, suc-add, zero-add}
use native.Mathlib.Numerals.{add-one}
use native.Mathlib.Omega.{arith}
use lib.ListN.{length, get_or, take, drop, set, length-set, length-append}
use lib.Seq.{take_at, sets, take-suc, length-take-le, take-length, sets-eq}

module _ {A : Type 0} where
  -- first a, then b behind it
  pub sets_append : (l : List A) (i : ℕ) (a b : List A) → sets l i (a ++ b) ≡ sets (sets l i a) (i + length a) b
  sets_append l i [] b = rw add-zero
  sets_append l i (x ∷ a) b = rw (add-suc, ← suc-add) (sets_append (set l i x) (suc i) a b)

  -- one element behind what is written
  pub sets_snoc : (l : List A) (i : ℕ) (a : List A) (x : A) → sets l i (a ++ (x ∷ [])) ≡ set (sets l i a) (i + length a) x
  sets_snoc l i a x = sets_append l i a (x ∷ [])

  -- a copy, one element further
  pub copy_step : (d : A) (l s : List A) (b t : ℕ) → t < length s → set (sets l b (take t s)) (b + t) (get_or s t d) ≡ sets l b (take (t + 1) s)
  copy_step d l s b t h =
      let n : length (take t s) ≡ t = length-take-le t s (omega arith) in
      rw (add-one t, take-suc s t d h, sets_append, n)

  -- what is written from 0 on stands in front of what was there
  pub sets_front : (l vs : List A) → length vs ≤ length l → sets l 0 vs ≡ vs ++ drop (length vs) l
  sets_front l vs h = sets-eq vs l 0 (omega arith) ∙ ap (λ (k : ℕ). vs ++ drop k l) (zero-add (length vs))

  -- the front that ends with what is written
  pub take_sets : (l : List A) (i : ℕ) (vs : List A) (n : ℕ) → n ≡ i + length vs → n ≤ length l → take n (sets l i vs) ≡ take i l ++ vs
  take_sets l i vs n e h =
      let a : length (take i l) ≡ i = length-take-le i l (omega arith) in
      ap (take n) (sets-eq vs l i (omega arith))
      ∙ take_at (take i l ++ vs) (drop (i + length vs) l) n (omega (arith, length-append (take i l) vs))

-- A copy under way: l' is l with the first t elements of s written from b on.
pub record Copying {A : Type 0} (s l l' : List A) (b t : ℕ) : Type 0 where
  pub within : t ≤ length s
  pub copied : l' ≡ sets l b (take t s)
  pub long : length l' ≡ length l

module _ {A : Type 0} (d : A) where
  pub copy_begins : (s l : List A) (b : ℕ) → Copying s l l b 0
  copy_begins s l b = record { within = omega arith; copied = refl; long = refl }

  pub copy_turns : (s l l' : List A) (b t : ℕ) → t < length s → Copying s l l' b t → Copying s l (set l' (b + t) (get_or s t d)) b (t + 1)
  copy_turns s l l' b t h c = record {
    within = omega arith;
    copied = rw c.copied (copy_step d l s b t h);
    long = length-set l' (b + t) (get_or s t d) ∙ c.long;
  }

  pub copy_ends : (s l l' : List A) (b t : ℕ) → length s ≤ t → Copying s l l' b t → l' ≡ sets l b s
  copy_ends s l l' b t h c =
      let e : t ≡ length s = omega (arith, c.within) in
      c.copied ∙ ap (λ (n : ℕ). sets l b (take n s)) e ∙ ap (sets l b) (take-length s)
