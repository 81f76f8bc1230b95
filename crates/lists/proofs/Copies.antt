-- Copies of a part of a list, one element further at a time, and what stands there in the end. Assumes nothing.
use mathlib.Core.Path.{◌≡◌, refl, sym, ap, ◌∙◌}
use mathlib.Core.List.{List, [], ◌∷◌, ◌++◌, map, append-nil}
use Prim.Native.Nat.{ℕ, zero, suc, ◌+◌, ◌-◌, ◌≤◌, ◌<◌}
use native.Mathlib.Nat.{zero-add, add-zero, add-suc, sub-zero}
use native.Mathlib.Omega.{arith}
use lib.ListN.{length, get_or, take, drop, set, length-drop, take-append-drop}
use lib.Seq.{sets, length-take-le, get_or-take, get_or-drop, drop-length, take-nil, take-append_seam, take-set-le, drop-set-add}
use Rattle.lists.proofs.Writing.{Copying, copy_turns, sets_front}

module _ {A : Type 0} where
  -- m elements from a on, as many as there are asked
  pub length_part : (l : List A) (a m : ℕ) → a + m ≤ length l → length (take m (drop a l)) ≡ m
  length_part l a m h = length-take-le m (drop a l) (rw (length-drop a l) (omega arith))

  pub part_at : (d : A) (l : List A) (a m k : ℕ) → k < m → get_or (take m (drop a l)) k d ≡ get_or l (a + k) d
  part_at d l a m k h = get_or-take m (drop a l) k d h ∙ get_or-drop a l k d

  -- a part, one element further
  pub part_turns : (d : A) (s l l' : List A) (a m b k : ℕ) → a + m ≤ length s → k < m → Copying (take m (drop a s)) l l' b k
      → Copying (take m (drop a s)) l (set l' (b + k) (get_or s (a + k) d)) b (k + 1)
  part_turns d s l l' a m b k f h c =
      let n : length (take m (drop a s)) ≡ m = length_part s a m f in
      rw (← (part_at d s a m k h)) (copy_turns d (take m (drop a s)) l l' b k (omega arith) c)

  -- a copy from the front, one element further
  pub front_turns : (d : A) (s l l' : List A) (k : ℕ) → k < length s → Copying s l l' 0 k → Copying s l (set l' k (get_or s k d)) 0 (k + 1)
  front_turns d s l l' k h c = rw (zero-add k) at (copy_turns d s l l' 0 k h c)

  -- what fills a list from the front is all of it
  pub sets_whole : (l vs : List A) → length vs ≡ length l → sets l 0 vs ≡ vs
  sets_whole l vs e =
      sets_front l vs (omega arith) ∙ ap (λ (n : ℕ). vs ++ drop n l) e ∙ ap (λ (t : List A). vs ++ t) (drop-length l) ∙ append-nil vs

  -- the front of a list to whose front vs was written
  pub take_written : (l vs : List A) (n : ℕ) → length vs ≡ n → n ≤ length l → take n (sets l 0 vs) ≡ vs
  take_written l vs n e h =
      ap (take n) (sets_front l vs (omega arith)) ∙ ap (λ (k : ℕ). take k (vs ++ drop (length vs) l)) (sym e) ∙ take-append_seam vs (drop (length vs) l)

  pub drop_take : (l : List A) (j n : ℕ) → drop j (take n l) ≡ take (n - j) (drop j l)
  drop_take l zero n = rw (sub-zero n)
  drop_take l (suc j) zero = rw (let z : 0 - suc j ≡ 0 = omega arith in z)
  drop_take [] (suc j) (suc n) = sym (take-nil (suc n - suc j))
  drop_take (x ∷ l) (suc j) (suc n) = rw (let z : suc n - suc j ≡ n - j = omega arith in z) (drop_take l j n)

  sets_tail_from : (l : List A) (a i : ℕ) (vs : List A) → take a l ++ sets (drop a l) i vs ≡ sets l (a + i) vs
  sets_tail_from l a i [] = take-append-drop a l
  sets_tail_from l a i (v ∷ vs) =
      ap (λ (t : List A). take a l ++ sets t (suc i) vs) (sym (drop-set-add a l i v))
      ∙ ap (λ (t : List A). t ++ sets (drop a (set l (a + i) v)) (suc i) vs) (sym (take-set-le a l (a + i) v (omega arith)))
      ∙ sets_tail_from (set l (a + i) v) a (suc i) vs
      ∙ ap (λ (k : ℕ). sets (set l (a + i) v) k vs) (add-suc a i)

  -- what is written to a list from a on is written to the front of what stands there
  pub sets_tail : (l : List A) (a : ℕ) (vs : List A) → take a l ++ sets (drop a l) 0 vs ≡ sets l a vs
  sets_tail l a vs = sets_tail_from l a 0 vs ∙ ap (λ (k : ℕ). sets l k vs) (add-zero a)

module _ {A B : Type 0} (f : A → B) where
  pub map_take : (n : ℕ) (l : List A) → map f (take n l) ≡ take n (map f l)
  map_take zero l = refl
  map_take (suc n) [] = refl
  map_take (suc n) (x ∷ l) = ap (λ (t : List B). f x ∷ t) (map_take n l)
