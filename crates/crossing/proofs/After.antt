-- The two loops that write each place's next: over the places of a face, and over the faces. Assumes nothing.
use mathlib.Core.Path.{◌≡◌, refl, sym, ap, ◌∙◌, subst}
use mathlib.Core.List.{List, [], ◌∷◌, ◌++◌}
use Prim.Native.Nat.{ℕ, suc, ◌+◌, ◌-◌, ◌≤◌, ◌<◌}
use native.Mathlib.Numerals.{add-one}
use native.Mathlib.Omega.{arith}
use lib.ListN.{length, get_or, drop, take, set, length-append, drop_of_length-le}
use lib.Seq.{sets, drop-cons}
use Rattle.lists.specs.Lists.{sum}
use Rattle.lists.specs.Numbers.{next_of}
use Rattle.lists.proofs.Buckets.{length_table, table_at}
use Rattle.lists.proofs.Parts.{sum_step, sum_at}
use Rattle.lists.proofs.Writing.{Copying, copy_ends}
use Rattle.lists.proofs.Growing.{Growing, grow_part}
use Rattle.lists.proofs.Copies.{front_turns, sets_whole, length_part}
use Rattle.lists.proofs.Stores.{put_mid-sets}
use borrow.Rule.Slice.PartMut.{put_mid}
use Rattle.crossing.specs.Crossing.{ring_row, after_from, after_row, AfterRoom}

-- ---- over the places of a face

pub length_ring_row : (at n : ℕ) → length (ring_row at n) ≡ n
unfolding ring_row
length_ring_row at n = length_table (λ i. at + next_of i n) n

pub ring_row_at : (at n i : ℕ) → i < n → get_or (ring_row at n) i 0 ≡ at + next_of i n
unfolding ring_row
ring_row_at at n i h = table_at (λ i. at + next_of i n) n i 0 h

module _ (at n : ℕ) (l₀ : List ℕ) where
  pub ring_turns : (l : List ℕ) (i v : ℕ) → i < n → v ≡ at + next_of i n → Copying (ring_row at n) l₀ l 0 i → Copying (ring_row at n) l₀ (set l i v) 0 (i + 1)
  ring_turns l i v h e c =
      subst (λ (x : ℕ). Copying (ring_row at n) l₀ (set l i x) 0 (i + 1)) (ring_row_at at n i h ∙ sym e)
      (front_turns 0 (ring_row at n) l₀ l i (let k : length (ring_row at n) ≡ n = length_ring_row at n in omega arith) c)

  pub ring_ends : (l : List ℕ) (i : ℕ) → length l₀ ≡ n → n ≤ i → Copying (ring_row at n) l₀ l 0 i → l ≡ ring_row at n
  ring_ends l i e h c =
      copy_ends 0 (ring_row at n) l₀ l 0 i (let k : length (ring_row at n) ≡ n = length_ring_row at n in omega arith) c
      ∙ sets_whole l₀ (ring_row at n) (length_ring_row at n ∙ sym e)

-- what is written to a part of a row of places is written to the row
pub ring_put :
    (l ring : List ℕ) (at n : ℕ) → at + n ≤ length l → ring ≡ ring_row at (length (take (at + n - at) (drop at l)))
    → put_mid at (at + n - at) l ring ≡ sets l at (ring_row at n)
ring_put l ring at n h e =
    let k : at + n - at ≡ n = omega arith in
    let m : length (take (at + n - at) (drop at l)) ≡ n = ap (λ (j : ℕ). length (take j (drop at l))) k ∙ length_part l at n h in
    let f : length (ring_row at n) ≡ n = length_ring_row at n in
    put_mid-sets at (at + n - at) l ring (ring_row at n) (e ∙ ap (ring_row at) m) (f ∙ sym k) (omega arith)

-- ---- over the faces

pub length_after_from : (at : ℕ) (s : List ℕ) → length (after_from at s) ≡ sum s
unfolding after_from
length_after_from at [] = refl
length_after_from at (n ∷ s) =
    let a : _ = length-append (ring_row at n) (after_from (at + n) s) in
    let b : _ = length_ring_row at n in
    let c : _ = length_after_from (at + n) s in
    omega arith

pub record Ringing (s l₀ l : List ℕ) (at k : ℕ) : Type 0 where
  pub within : k ≤ length s
  pub offset : at ≡ sum (take k s)
  pub growing : Growing l₀ l 0 at (after_row s) (after_from at (drop k s))

module _ (s l₀ : List ℕ) where
  module _ (l : List ℕ) (at k n : ℕ) (h : k < length s) (e : n ≡ get_or s k 0) (r : Ringing s l₀ l at k) where
    pub face_room : AfterRoom s l₀ → at + n ≤ length l
    face_room a =
        let t : sum (take k s) + get_or s k 0 ≤ sum s = sum_at s k h in
        omega (arith, r.offset, a.whole, r.growing.long)

    left : after_from at (drop k s) ≡ ring_row at n ++ after_from (at + n) (drop (k + 1) s)
    unfolding after_from
    left =
        ap (after_from at) (drop-cons s k 0 h)
        ∙ ap (λ (m : ℕ). ring_row at m ++ after_from (at + m) (drop (suc k) s)) (sym e)
        ∙ ap (λ (m : ℕ). ring_row at n ++ after_from (at + n) (drop m s)) (sym (add-one k))

    pub after_turns : (l' : List ℕ) → l' ≡ sets l at (ring_row at n) → Ringing s l₀ l' (at + n) (k + 1)
    after_turns l' w = record {
      within = omega arith;
      offset =
          let o : at ≡ sum (take k s) = r.offset in let t : sum (take (k + 1) s) ≡ sum (take k s) + get_or s k 0 = sum_step s k h in omega arith;
      growing =
          subst (λ (t : List ℕ). Growing l₀ t 0 (at + n) (after_row s) (after_from (at + n) (drop (k + 1) s))) (sym w)
          (subst (λ (m : ℕ). Growing l₀ (sets l at (ring_row at n)) 0 (at + m) (after_row s) (after_from (at + n) (drop (k + 1) s))) (length_ring_row at n)
          (grow_part l₀ l 0 at (after_row s) (ring_row at n) (after_from (at + n) (drop (k + 1) s))
          (subst (λ (t : List ℕ). Growing l₀ l 0 at (after_row s) t) left r.growing)));
    }

  pub after_ends : (l : List ℕ) (at k : ℕ) → AfterRoom s l₀ → length s ≤ k → Ringing s l₀ l at k → l ≡ after_row s
  unfolding after_from
  after_ends l at k a h r =
      ap (λ (t : List ℕ). sets l at (after_from at t)) (sym (drop_of_length-le s h))
      ∙ r.growing.rest
      ∙ sets_whole l₀ (after_row s) (length_after_from 0 s ∙ a.whole)
