-- The front of a list, or its rest, filled with one thing. Assumes nothing.
use Rattle.std.proofs.Common.{◌≡◌, ℕ, ◌-◌, ◌≤◌, List, ◌++◌, length, drop, replicate, sym, ap, ◌∙◌, arith}
use Rattle.std.proofs.lemmas.List.{length-replicate}
use Rattle.std.proofs.lemmas.List.Edits.{sets}
use borrow.Rule.Slice.PartMut.{put_mid}
use Rattle.lists.proofs.Stores.{put_mid-sets}
use Rattle.lists.proofs.Writing.{sets_front}

module _ {A : Type 0} (x : A) (n : ℕ) (l : List A) where
  -- the row in front of what was there
  pub fill_front : n ≤ length l → sets l 0 (replicate n x) ≡ replicate n x ++ drop n l
  fill_front h =
      let e : length (replicate n x) ≡ n = length-replicate n x in
      sets_front l (replicate n x) (omega arith) ∙ ap (λ (k : ℕ). replicate n x ++ drop k l) e

  pub front_filled : (ys : List A) (k : ℕ) → n ≤ length l → ys ≡ replicate k x → k ≡ n → ys ++ drop n l ≡ sets l 0 (replicate n x)
  front_filled ys k h e m = ap (λ (t : List A). t ++ drop n l) (e ∙ ap (λ (j : ℕ). replicate j x) m) ∙ sym (fill_front h)

  pub rest_filled : (ys : List A) (k : ℕ) → n ≤ length l → ys ≡ replicate k x → k ≡ length l - n
      → put_mid n (length l - n) l ys ≡ sets l n (replicate (length l - n) x)
  rest_filled ys k h e m =
      let i : length (replicate (length l - n) x) ≡ length l - n = length-replicate (length l - n) x in
      put_mid-sets n (length l - n) l ys (replicate (length l - n) x) (e ∙ ap (λ (j : ℕ). replicate j x) m) i (omega arith)
