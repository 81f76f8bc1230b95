-- Stores to places in a row are one piece that is written. Assumes nothing.
use mathlib.Core.Path.{◌≡◌, sym, ap, ◌∙◌}
use mathlib.Core.List.{List, [], ◌∷◌, ◌++◌}
use Prim.Native.Nat.{ℕ, suc, ◌+◌, ◌≤◌, ◌<◌}
use native.Mathlib.Numerals.{towards_suc}
use native.Mathlib.Omega.{arith}
use lib.ListN.{length, get_or, take, drop, set}
use lib.Seq.{sets, sets-eq, drop-cons}
use Rattle.std.proofs.lemmas.List.{append_assoc, drop-drop}
use borrow.Rule.Slice.PartMut.{put_mid}

module _ {A : Type 0} (l : List A) (b : ℕ) where
  pub two_stores : (x y : A) → set (set l b x) (b + 1) y ≡ sets l b (x ∷ y ∷ [])
  two_stores x y = simp towards_suc

  pub three_stores : (x y z : A) → set (set (set l b x) (b + 1) y) (b + 2) z ≡ sets l b (x ∷ y ∷ z ∷ [])
  three_stores x y z = simp towards_suc

-- two or three elements of a list that go to places in a row of another are a part that is copied
module _ {A : Type 0} (d : A) (from to : List A) (a b : ℕ) where
  pub copy_two : a + 2 ≤ length from → set (set to b (get_or from a d)) (b + 1) (get_or from (a + 1) d) ≡ sets to b (take 2 (drop a from))
  copy_two h =
      let x : a < length from = omega arith in
      let y : suc a < length from = omega arith in
      simp towards_suc (rw (drop-cons from a d x, drop-cons from (suc a) d y))

  pub copy_three :
      a + 3 ≤ length from
      → set (set (set to b (get_or from a d)) (b + 1) (get_or from (a + 1) d)) (b + 2) (get_or from (a + 2) d) ≡ sets to b (take 3 (drop a from))
  copy_three h =
      let x : a < length from = omega arith in
      let y : suc a < length from = omega arith in
      let z : suc (suc a) < length from = omega arith in
      simp towards_suc (rw (drop-cons from a d x, drop-cons from (suc a) d y, drop-cons from (suc (suc a)) d z))

module _ {A : Type 0} where
  -- what stands in a part of a list, of k places from the a-th on, is written there one after the other
  pub put_mid-sets : (a k : ℕ) (xs ys zs : List A) → ys ≡ zs → length zs ≡ k → a + length zs ≤ length xs → put_mid a k xs ys ≡ sets xs a zs
  put_mid-sets a k xs ys zs e q fits =
      ap (λ l. take a xs ++ (l ++ drop k (drop a xs))) e
      ∙ ap (λ l. take a xs ++ (zs ++ l)) (drop-drop k a xs ∙ ap (λ n. drop (a + n) xs) (sym q))
      ∙ sym (sets-eq zs xs a fits ∙ append_assoc (take a xs) zs _)
