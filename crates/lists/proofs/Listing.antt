-- Lists that are put one behind the other into a lent list, and what f gives at each element of a list, put so in a loop: `Listing` is its
-- invariant, with what begins, turns and ends it. Assumes nothing.
use mathlib.Core.Path.{◌≡◌, refl, sym, ap, ◌∙◌}
use mathlib.Core.List.{List, [], ◌∷◌, ◌++◌, append-nil}
use Prim.Native.Nat.{ℕ, ◌+◌, ◌≤◌, ◌<◌}
use native.Mathlib.Nat.{add-zero}
use native.Mathlib.Numerals.{add-one}
use native.Mathlib.Omega.{arith}
use lib.ListN.{length, get_or, take, drop, set, length-append, take-append-drop}
use lib.Seq.{sets, length-sets, take_all, take-suc}
use Rattle.lists.specs.Lists.{each}
use Rattle.lists.specs.Putting.{Room, Written}
use Rattle.lists.proofs.Parts.{each_append}
use Rattle.lists.proofs.Writing.{sets_append}

module _ {A : Type 0} where
  -- the list stays as long as it was
  pub written_long : (a o o' : List A) (at next : ℕ) → Written a o o' at next → length o' ≡ length o
  written_long a o o' at next w = ap length w.is ∙ length-sets o at a

  -- nothing; one element; then one list behind another
  pub written_none : (o : List A) (at : ℕ) → Written [] o o at at
  written_none o at = record { is = refl; next_is = sym (add-zero at) }

  pub written_one : (x : A) (o : List A) (at : ℕ) → Written (x ∷ []) o (set o at x) at (at + 1)
  written_one x o at = record { is = refl; next_is = refl }

  pub written_then :
      (a b o o1 o2 : List A) (at m next : ℕ) → Written a o o1 at m → Written b o1 o2 m next → Written (a ++ b) o o2 at next
  written_then a b o o1 o2 at m next v w = record {
    is =
        w.is
        ∙ ap (λ (i : ℕ). sets o1 i b) v.next_is
        ∙ ap (λ (l : List A). sets l (at + length a) b) v.is
        ∙ sym (sets_append o at a b);
    next_is = omega (arith, v.next_is, w.next_is, length-append a b);
  }

  -- room for two lists is room for the first, and, once that is written, for the second
  pub room_first : (a b o : List A) (at : ℕ) → Room (a ++ b) o at → Room a o at
  room_first a b o at r = record { fits = omega (arith, r.fits, length-append a b) }

  pub room_then : (a b o o1 : List A) (at m : ℕ) → Room (a ++ b) o at → Written a o o1 at m → Room b o1 m
  room_then a b o o1 at m r w = record { fits = omega (arith, r.fits, length-append a b, w.next_is, written_long a o o1 at m w) }

  -- the same of an equal list
  pub room_as : {a b o : List A} {at : ℕ} → a ≡ b → Room a o at → Room b o at
  room_as e r = rw e at r

  pub written_as : {a b o o' : List A} {at next : ℕ} → a ≡ b → Written b o o' at next → Written a o o' at next
  written_as e w = rw e w

-- what f gives at each element of l is being put, one behind the other: that of the first i elements is there
pub record Listing {A B : Type 0} (f : A → List B) (l : List A) (o o' : List B) (at to i : ℕ) : Type 0 where
  pub within : i ≤ length l
  pub put : Written (each f (take i l)) o o' at to

module _ {A B : Type 0} (d : A) (f : A → List B) (l : List A) (o : List B) (at : ℕ) where
  pub listing_begins : Listing f l o o at at 0
  listing_begins = record { within = omega arith; put = written_none o at }

  one_more : (i : ℕ) → i < length l → each f (take (i + 1) l) ≡ each f (take i l) ++ f (get_or l i d)
  one_more i h =
      rw (add-one i, take-suc l i d h)
      (each_append f (take i l) (get_or l i d ∷ []) ∙ ap (λ (t : List B). each f (take i l) ++ t) (append-nil (f (get_or l i d))))

  two_parts : (i : ℕ) → each f l ≡ each f (take i l) ++ each f (drop i l)
  two_parts i = ap (each f) (sym (take-append-drop i l)) ∙ each_append f (take i l) (drop i l)

  -- there is room for the next element
  pub listing_room :
      (o' : List B) (to i : ℕ) → i < length l → Room (each f l) o at → Listing f l o o' at to i → Room (f (get_or l i d)) o' to
  listing_room o' to i h r n =
      room_then (each f (take i l)) (f (get_or l i d)) o o' at to
      (rw (one_more i h) at (room_first (each f (take (i + 1) l)) (each f (drop (i + 1) l)) o at (rw (two_parts (i + 1)) at r)))
      n.put

  pub listing_turns :
      (o' o'' : List B) (to next i : ℕ) → i < length l → Listing f l o o' at to i → Written (f (get_or l i d)) o' o'' to next
      → Listing f l o o'' at next (i + 1)
  listing_turns o' o'' to next i h n w = record {
    within = omega arith;
    put = rw (one_more i h) (written_then (each f (take i l)) (f (get_or l i d)) o o' o'' at to next n.put w);
  }

  pub listing_ends : (o' : List B) (to i : ℕ) → length l ≤ i → Listing f l o o' at to i → Written (each f l) o o' at to
  listing_ends o' to i h n = rw (take_all i l h) at n.put
