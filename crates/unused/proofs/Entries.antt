-- Entries: one that is copied by straight stores, how many numbers they are, one more of them. Assumes nothing.
use mathlib.Core.Path.{◌≡◌, refl, sym, ap, ◌∙◌}
use mathlib.Core.Bool.{true}
use mathlib.Core.List.{List, [], ◌∷◌, ◌++◌, map, append-nil}
use Prim.Native.Nat.{ℕ, zero, suc, ◌+◌, ◌*◌, ◌≤◌, ◌<◌}
use native.Mathlib.Nat.{not-suc-le-zero, le_of_suc-le-suc, suc-mul, mul-le-mul_right, zero-mul}
use native.Mathlib.Omega.{arith}
use lib.ListN.{length, get_or, take, drop, length-append, length-take, length-drop}
use lib.Seq.{take_at, drop-append-add}
use lib.Dec.{ltb}
use lib.Ieee.{Float}
use borrow.Author.Tests.{ltb-true}
use Rattle.lists.specs.Lists.{every, each, has}
use Rattle.lists.specs.FirstUses.{place}
use Rattle.lists.proofs.Bools.{and_left, and_right}
use Rattle.lists.proofs.Parts.{each_append}
use Rattle.lists.proofs.Members.{in_head, in_tail}
use Rattle.lists.proofs.Others.{every_has}
use Rattle.lists.proofs.Places.{place_below, get_or-place}
use Rattle.unused.specs.Compaction.{entry_at, entries}

-- ---- entries that lie within a list

-- one below the count lies within
pub entry_within : (l : List Float) (w count i : ℕ) → i < count → count * w ≡ length l → i * w + w ≤ length l
entry_within l w count i h e =
    let m : suc i * w ≤ count * w = mul-le-mul_right w h in
    let s : suc i * w ≡ i * w + w = suc-mul i w in
    omega arith

pub length_entry : (l : List Float) (w i : ℕ) → i * w + w ≤ length l → length (entry_at w l i) ≡ w
length_entry l w i h = simp (length-take, length-drop) (omega arith)

-- they are w numbers each
pub length_entries :
    (l : List Float) (w count : ℕ) (us : List ℕ) → count * w ≡ length l → every (λ (i : ℕ). ltb i count) us ≡ true
    → length (entries w l us) ≡ length us * w
unfolding entries
length_entries l w count [] e h = sym (zero-mul w)
length_entries l w count (u ∷ us) e h =
    let t : ltb u count ≡ true = and_left (ltb u count) (every (λ (i : ℕ). ltb i count) us) h in
    let a : length (entry_at w l u) ≡ w = length_entry l w u (entry_within l w count u (ltb-true u count t) e) in
    let b : length (entries w l us) ≡ length us * w =
    length_entries l w count us e (and_right (ltb u count) (every (λ (i : ℕ). ltb i count) us) h) in
    let c : suc (length us) * w ≡ length us * w + w = suc-mul (length us) w in
    omega (arith, length-append (entry_at w l u) (entries w l us))

-- one more
pub entries_more : (l : List Float) (w : ℕ) (us : List ℕ) (i : ℕ) → entries w l (us ++ (i ∷ [])) ≡ entries w l us ++ entry_at w l i
unfolding entries
entries_more l w us i =
    each_append (entry_at w l) us (i ∷ []) ∙ ap (λ (t : List Float). each (entry_at w l) us ++ t) (append-nil (entry_at w l i))

-- ---- entries of entries

module _ (g : ℕ → List Float) (w : ℕ) where
  -- lists of w numbers, one after the other: the one at place k
  each_at :
      (us : List ℕ) (k : ℕ) → ((u : ℕ) → has u us ≡ true → length (g u) ≡ w) → k < length us
      → take w (drop (k * w) (each g us)) ≡ g (get_or us k 0)
  each_at [] k h l = absurd (not-suc-le-zero l)
  each_at (u ∷ us) zero h l =
      ap (λ (n : ℕ). take w (drop n (g u ++ each g us))) (zero-mul w) ∙ take_at (g u) (each g us) w (h u (in_head u us))
  each_at (u ∷ us) (suc k) h l =
      let e : suc k * w ≡ length (g u) + k * w =
      let a : length (g u) ≡ w = h u (in_head u us) in let b : suc k * w ≡ k * w + w = suc-mul k w in omega arith in
      ap (λ (n : ℕ). take w (drop n (g u ++ each g us))) e
      ∙ ap (take w) (drop-append-add (g u) (each g us) (k * w))
      ∙ each_at us k (λ v i. h v (in_tail v u us i)) (le_of_suc-le-suc l)

-- an entry of the new list is the old entry of the index that stands there
pub entry_again :
    (l : List Float) (w count : ℕ) (us : List ℕ) → count * w ≡ length l → every (λ (i : ℕ). ltb i count) us ≡ true
    → (k : ℕ) → k < length us → entry_at w (entries w l us) k ≡ entry_at w l (get_or us k 0)
unfolding entries
entry_again l w count us e h k n =
    each_at (entry_at w l) w us k
    (λ u i. length_entry l w u (entry_within l w count u (ltb-true u count (every_has (λ (j : ℕ). ltb j count) u us h i)) e)) n

-- so the entries at the places of vs are the old entries of vs
pub entries_again :
    (l : List Float) (w count : ℕ) (us : List ℕ) → count * w ≡ length l → every (λ (i : ℕ). ltb i count) us ≡ true
    → (vs : List ℕ) → ((v : ℕ) → has v vs ≡ true → has v us ≡ true)
    → entries w (entries w l us) (map (place us) vs) ≡ entries w l vs
unfolding entries
entries_again l w count us e h [] i = refl
entries_again l w count us e h (v ∷ vs) i =
    let o : has v us ≡ true = i v (in_head v vs) in
    ap (λ (t : List Float). t ++ entries w (entries w l us) (map (place us) vs))
    (entry_again l w count us e h (place us v) (place_below us v o) ∙ ap (entry_at w l) (get_or-place us v o))
    ∙ ap (λ (t : List Float). entry_at w l v ++ t) (entries_again l w count us e h vs (λ x g. i x (in_tail x v vs g)))
