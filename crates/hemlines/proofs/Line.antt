-- The line of one hem: the word, three numbers and the line feed, each behind what is written before it. Assumes nothing.
use mathlib.Core.Path.{◌≡◌, sym, ap, ◌∙◌}
use mathlib.Core.List.{List, [], ◌∷◌, ◌++◌, append-nil, append_assoc}
use Prim.Native.Nat.{ℕ, ◌+◌, ◌≤◌}
use native.Mathlib.Omega.{arith}
use lib.ListN.{length, set}
use Rattle.lists.specs.Putting.{Room, Written}
use Rattle.lists.proofs.Listing.{written_long, written_one, written_then, written_as, room_first, room_then, room_as}
use Rattle.text.specs.Text.{bytes, line}
use Rattle.text.proofs.Putting.{number_text}
use Rattle.hemlines.specs.HemLines.{hem_line}

module _ (p e l : ℕ) where
  abbrev H : List ℕ
  H = bytes "hem"

  abbrev P : List ℕ
  P = number_text p

  abbrev E : List ℕ
  E = number_text e

  abbrev L : List ℕ
  L = number_text l

  -- its five parts
  pub parts : hem_line p e l ≡ H ++ P ++ E ++ L ++ 10 ∷ []
  unfolding hem_line line
  parts =
      ap (λ (t : List ℕ). H ++ (P ++ (E ++ t)) ++ 10 ∷ []) (append-nil L)
      ∙ ap (λ (t : List ℕ). t ++ 10 ∷ []) (sym (append_assoc H P (E ++ L)) ∙ sym (append_assoc (H ++ P) E L))

  module _ (o : List ℕ) (at : ℕ) (r : Room (hem_line p e l) o at) where
    whole : Room (H ++ P ++ E ++ L ++ 10 ∷ []) o at
    whole = room_as parts r

    -- room for each number, by what stands before it
    numbers : Room (H ++ P ++ E ++ L) o at
    numbers = room_first (H ++ P ++ E ++ L) (10 ∷ []) o at whole

    two : Room (H ++ P ++ E) o at
    two = room_first (H ++ P ++ E) L o at numbers

    one : Room (H ++ P) o at
    one = room_first (H ++ P) E o at two

    pub word_room : Room H o at
    word_room = room_first H P o at one

    pub panel_room : (o1 : List ℕ) (a : ℕ) → Written H o o1 at a → Room P o1 a
    panel_room o1 a w = room_then H P o o1 at a one w

    pub edges_room : (o1 o2 : List ℕ) (a b : ℕ) → Written H o o1 at a → Written P o1 o2 a b → Room E o2 b
    edges_room o1 o2 a b w x = room_then (H ++ P) E o o2 at b two (written_then H P o o1 o2 at a b w x)

    pub length_room :
        (o1 o2 o3 : List ℕ) (a b c : ℕ) → Written H o o1 at a → Written P o1 o2 a b → Written E o2 o3 b c → Room L o3 c
    length_room o1 o2 o3 a b c w x y =
        room_then (H ++ P ++ E) L o o3 at c numbers (written_then (H ++ P) E o o2 o3 at b c (written_then H P o o1 o2 at a b w x) y)

    module _
        (o1 o2 o3 o4 : List ℕ) (a b c d : ℕ) (w : Written H o o1 at a) (x : Written P o1 o2 a b) (y : Written E o2 o3 b c) (z : Written L o3 o4 c d) where
      all : Written (H ++ P ++ E ++ L) o o4 at d
      all = written_then (H ++ P ++ E) L o o3 o4 at c d (written_then (H ++ P) E o o2 o3 at b c (written_then H P o o1 o2 at a b w x) y) z

      pub feed_room : (d + 1 ≤ length o) × (length o4 ≡ length o)
      feed_room =
          let f : Room (10 ∷ []) o4 d = room_then (H ++ P ++ E ++ L) (10 ∷ []) o o4 at d whole all in
          let n : length o4 ≡ length o = written_long (H ++ P ++ E ++ L) o o4 at d all in
          (omega (arith, f.fits), n)

      pub line_written : Written (hem_line p e l) o (set o4 d 10) at (d + 1)
      line_written = written_as parts (written_then (H ++ P ++ E ++ L) (10 ∷ []) o o4 (set o4 d 10) at d (d + 1) all (written_one 10 o4 d))
