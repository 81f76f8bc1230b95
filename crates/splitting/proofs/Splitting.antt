-- How a ring is split: the depth is enough, a folded ring gives the pieces of its two rings, any other itself; so that every law of
-- the pieces is one induction. Assumes nothing.
use mathlib.Core.Path.{◌≡◌, refl, sym, ap, ap₂, ◌∙◌}
use mathlib.Core.Bool.{true, false}
use mathlib.Core.List.{List, [], ◌∷◌, ◌++◌}
use Prim.Native.Nat.{ℕ, zero, suc, ◌-◌, ◌≤◌, ◌<◌}
use native.Mathlib.Omega.{arith}
use lib.ListN.{length, take, drop, length-append, length-drop}
use lib.Seq.{length-take-le}
use Rattle.lists.proofs.Bools.{by_cases}
use Rattle.lists.proofs.Copies.{length_part}
use Rattle.splitting.specs.Splitting.{folded_by, first_by, second_by, between, around, split_by_in, split_by}
use Rattle.splitting.proofs.Search.{Pair, folded_pair}

-- ---- the two rings of a pair

module _ {A : Type 0} (r : List A) (i j : ℕ) (p : Pair r i j) where
  pub length_between : length (between r i j) ≡ j - i
  length_between = length_part r i (j - i) (omega arith)

  pub length_around : length (around r i j) ≡ length r - (j - i)
  length_around =
      let a : length (drop j r) ≡ length r - j = length-drop j r in
      let b : length (take i r) ≡ i = length-take-le i r (omega arith) in
      length-append (drop j r) (take i r) ∙ (omega arith)

module _ {A : Type 0} (key : A → ℕ) where
  abbrev pub one : List A → List A
  one r = between r (first_by key r) (second_by key r)

  abbrev pub two : List A → List A
  two r = around r (first_by key r) (second_by key r)

  -- both are shorter
  pub shorter_one : (r : List A) → folded_by key r ≡ true → length (one r) < length r
  shorter_one r e =
      let p = folded_pair key r e in
      let l = length_between r (first_by key r) (second_by key r) p in
      omega (arith, l, p.within)

  pub shorter_two : (r : List A) → folded_by key r ≡ true → length (two r) < length r
  shorter_two r e =
      let p = folded_pair key r e in
      let l = length_around r (first_by key r) (second_by key r) p in
      omega (arith, l, p.ordered, p.within)

  -- ---- one turn

  in_whole : (f : ℕ) (r : List A) → folded_by key r ≡ false → split_by_in key f r ≡ r ∷ []
  unfolding split_by_in
  in_whole zero r e = refl
  in_whole (suc f) r e = rw (e, split_by_in)

  in_cut : (f : ℕ) (r : List A) → folded_by key r ≡ true → split_by_in key (suc f) r ≡ split_by_in key f (one r) ++ split_by_in key f (two r)
  unfolding split_by_in
  in_cut f r e = rw (e, split_by_in)

  none_unfolded : (r : List A) → length r ≤ 0 → folded_by key r ≡ false
  unfolding folded_by
  none_unfolded [] h = refl
  none_unfolded (c ∷ r) h = absurd (let z : suc (length r) ≤ 0 = h in omega arith)

  -- every depth from the ring's length on gives the same
  enough : (f g : ℕ) (r : List A) → length r ≤ f → length r ≤ g → split_by_in key f r ≡ split_by_in key g r
  enough zero g r h k = let e = none_unfolded r h in in_whole zero r e ∙ sym (in_whole g r e)
  enough (suc f) zero r h k = let e = none_unfolded r k in in_whole (suc f) r e ∙ sym (in_whole zero r e)
  enough (suc f) (suc g) r h k =
      by_cases (folded_by key r)
      (λ e.
      let a = shorter_one r e in
      let b = shorter_two r e in
      in_cut f r e
      ∙ ap₂ (λ (x y : List (List A)). x ++ y) (enough f g (one r) (omega (arith, a, h)) (omega (arith, a, k))) (enough f g (two r) (omega (arith, b, h)) (omega (arith, b, k)))
      ∙ sym (in_cut g r e))
      (λ e. in_whole (suc f) r e ∙ sym (in_whole (suc g) r e))

  pub split_whole : (r : List A) → folded_by key r ≡ false → split_by key r ≡ r ∷ []
  unfolding split_by
  split_whole r e = in_whole (length r) r e

  pub split_cut : (r : List A) → folded_by key r ≡ true → split_by key r ≡ split_by key (one r) ++ split_by key (two r)
  unfolding split_by
  split_cut r e = go r e (length r) refl
    where
      go : (s : List A) → folded_by key s ≡ true → (n : ℕ) → length s ≡ n → split_by_in key (length s) s ≡ split_by_in key (length (one s)) (one s) ++ split_by_in key (length (two s)) (two s)
      go s t zero l = absurd (omega (arith, l, shorter_one s t))
      go s t (suc n) l =
          let a = shorter_one s t in
          let b = shorter_two s t in
          ap (λ (k : ℕ). split_by_in key k s) l
          ∙ in_cut n s t
          ∙ ap₂ (λ (x y : List (List A)). x ++ y) (enough n (length (one s)) (one s) (omega (arith, a, l)) (omega arith)) (enough n (length (two s)) (two s) (omega (arith, b, l)) (omega arith))

  -- ---- what holds of a ring that is not folded, and of a folded one where it holds of its two rings, holds of every ring

  module _ (P : List A → List (List A) → Type 0)
      (whole : (r : List A) → folded_by key r ≡ false → P r (r ∷ []))
      (cut : (r : List A) → folded_by key r ≡ true → (a b : List (List A)) → P (one r) a → P (two r) b → P r (a ++ b)) where
    in_all : (f : ℕ) (r : List A) → length r ≤ f → P r (split_by_in key f r)
    in_all zero r h = let e = none_unfolded r h in rw (in_whole zero r e) (whole r e)
    in_all (suc f) r h =
        by_cases (folded_by key r)
        (λ e.
        let a = shorter_one r e in
        let b = shorter_two r e in
        rw (in_cut f r e) (cut r e (split_by_in key f (one r)) (split_by_in key f (two r)) (in_all f (one r) (omega (arith, a, h))) (in_all f (two r) (omega (arith, b, h)))))
        (λ e. rw (in_whole (suc f) r e) (whole r e))

    pub split_all : (r : List A) → P r (split_by key r)
    unfolding split_by
    split_all r = in_all (length r) r (omega arith)
