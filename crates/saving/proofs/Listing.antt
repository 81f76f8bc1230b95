-- A loop that stores the bytes of each element of a list, one behind the other: those of the first k are stored. Assumes nothing.
use mathlib.Core.Path.{◌≡◌, refl, sym, ap, ap₂, ◌∙◌}
use mathlib.Core.List.{List, [], ◌++◌}
use Prim.Native.Nat.{ℕ, ◌+◌, ◌≤◌, ◌<◌}
use native.Mathlib.Numerals.{add-one}
use native.Mathlib.Omega.{arith}
use lib.ListN.{length, get_or, drop, length-append}
use lib.Seq.{drop-cons, drop-length}
use lib.Ieee.{Float, nan}
use Rattle.lists.specs.Lists.{each}
use Rattle.lists.proofs.Growing.{Growing, grow_part, grow_ends, grow_room}
use Rattle.little.specs.Little.{word_bytes}
use Rattle.little.proofs.Written.{length_word}
use Rattle.written.specs.Pieces.{coordinate_bytes}
use Rattle.written.proofs.Lengths.{length_coordinate}
use Rattle.saving.specs.Working.{Stored, Fits}

module _ {A : Type 0} (f : A → List ℕ) where
  -- `to` is the place behind the bytes of the first k elements
  pub record Putting (xs : List A) (o o' : List ℕ) (at to k : ℕ) : Type 0 where
    pub within : k ≤ length xs
    pub grows : Growing o o' at to (each f xs) (each f (drop k xs))

  module _ (d : A) (xs : List A) (o o' : List ℕ) (at to k : ℕ) (x : A) (l : k < length xs) (e : get_or xs k d ≡ x) (p : Putting xs o o' at to k) where
    next : each f (drop k xs) ≡ f x ++ each f (drop (k + 1) xs)
    next = ap (each f) (drop-cons xs k d l) ∙ ap₂ (λ (y : A) (i : ℕ). f y ++ each f (drop i xs)) e (sym (add-one k))

    pub putting_turns : (o'' : List ℕ) (to' : ℕ) → Stored (f x) o' o'' to to' → Putting xs o o'' at to' (k + 1)
    putting_turns o'' to' s =
        let g : Growing o o' at to (each f xs) (f x ++ each f (drop (k + 1) xs)) = rw next at p.grows in
        let h = grow_part o o' at to (each f xs) (f x) (each f (drop (k + 1) xs)) g in
        record { within = omega arith; grows = rw (s.file, s.place) h }

    pub putting_room : Fits (each f xs) o at → to + length (f x) ≤ length o'
    putting_room h =
        omega (arith, grow_room o o' at to (each f xs) (each f (drop k xs)) h p.grows, ap length next, length-append (f x) (each f (drop (k + 1) xs)))

  pub putting_ends : (xs : List A) (o o' : List ℕ) (at to k : ℕ) → length xs ≤ k → Putting xs o o' at to k → Stored (each f xs) o o' at to
  putting_ends xs o o' at to k l p =
      let i : k ≡ length xs = omega (arith, p.within) in
      let e : each f (drop k xs) ≡ [] = ap (λ (n : ℕ). each f (drop n xs)) i ∙ ap (each f) (drop-length xs) in
      let g : Growing o o' at to (each f xs) [] = rw e at p.grows in
      let z : to + 0 ≡ at + length (each f xs) = g.place in
      record { file = grow_ends o o' at to (each f xs) g; place = omega arith }

-- ---- numbers of four bytes, and coordinates

pub word_room : (s : List ℕ) (o o' : List ℕ) (at to k : ℕ) → k < length s → Putting word_bytes s o o' at to k → Fits (each word_bytes s) o at → to + 4 ≤ length o'
word_room s o o' at to k l p h = omega (arith, putting_room word_bytes 0 s o o' at to k (get_or s k 0) l refl p h, length_word (get_or s k 0))

pub coordinate_room :
    (s : List Float) (o o' : List ℕ) (at to k : ℕ) → k < length s → Putting coordinate_bytes s o o' at to k → Fits (each coordinate_bytes s) o at
    → to + 8 ≤ length o'
coordinate_room s o o' at to k l p h =
    omega (arith, putting_room coordinate_bytes nan s o o' at to k (get_or s k nan) l refl p h, length_coordinate (get_or s k nan))
