-- Positions, texture points and normals: the record of one, and the loop over all, at any width. Assumes nothing.
use mathlib.Core.Path.{◌≡◌, refl, sym, ap, ◌∙◌}
use mathlib.Core.List.{List, [], ◌∷◌}
use Prim.Native.Nat.{ℕ, zero, suc, ◌+◌, ◌*◌, ◌/◌, ◌≤◌, ◌<◌}
use native.Mathlib.Nat.{mul-suc, add_comm, not-suc-le-zero, le_of_suc-le-suc}
use native.Mathlib.Omega.{arith}
use lib.ListN.{length, get_or, take, drop, length-take}
use lib.Seq.{drop-drop}
use Rattle.std.proofs.lemmas.List.{get_or_default}
use lib.Ieee.{Float}
use Rattle.std.specs.Simd.{first_chunks}
use Rattle.lists.specs.Lists.{each}
use Rattle.lists.proofs.Parts.{every_take, every_drop}
use Rattle.floating.specs.Limits.{finite}
use Rattle.written.specs.Pieces.{coordinate_bytes, header_of}
use Rattle.written.specs.Parts.{entry_record, first_rows}
use Rattle.written.proofs.Lengths.{length_header, length_coordinates, length_entry}
use Rattle.saving.specs.Working.{Stored, Coordinates, AnEntry, Entries}
use Rattle.saving.proofs.Storing.{stored_both}
use Rattle.saving.proofs.Listing.{Putting, putting_turns, putting_room, putting_ends}

-- ---- one

module _ (kind : ℕ) (l : List Float) (o o1 : List ℕ) (at a : ℕ) (h : Stored (header_of (8 * length l) kind) o o1 at a) where
  pub coordinates_fit : AnEntry kind l o at → length o1 ≡ length o → Coordinates l o1 a
  coordinates_fit e g = record {
    are_finite = e.are_finite;
    fits = omega (arith, h.place, length_header (8 * length l) kind, e.fits, length_entry kind l, length_coordinates l);
  }

  pub entry_stored : (o2 : List ℕ) (r : ℕ) → Stored (each coordinate_bytes l) o1 o2 a r → Stored (entry_record kind l) o o2 at r
  unfolding entry_record
  entry_stored o2 r g = stored_both (header_of (8 * length l) kind) (each coordinate_bytes l) o o1 o2 at a r h g

-- ---- all

pub length_rows : (w n : ℕ) (s : List Float) → length (first_rows w n s) ≡ n
length_rows w zero s = refl
length_rows w (suc n) s = ap suc (length_rows w n (drop w s))

row_at : (w n : ℕ) (s : List Float) (k : ℕ) → k < n → get_or (first_rows w n s) k [] ≡ take w (drop (w * k) s)
row_at w zero s k h = absurd (not-suc-le-zero h)
row_at w (suc n) s zero h = ap (λ (i : ℕ). take w (drop i s)) (sym (native.Mathlib.Nat.mul-zero w))
row_at w (suc n) s (suc k) h =
    let e : w + w * k ≡ w * suc k = add_comm w (w * k) ∙ sym (mul-suc w k) in
    row_at w n (drop w s) k (le_of_suc-le-suc h) ∙ ap (take w) (drop-drop (w * k) w s ∙ ap (λ (i : ℕ). drop i s) e)

-- the library's chunks of a list of coordinates are its entries
pub first_chunks-first_rows : (w n : ℕ) (s : List Float) → first_chunks w n s ≡ first_rows w n s
first_chunks-first_rows w zero s = refl
first_chunks-first_rows w (suc n) s = ap (λ (r : List (List Float)). take w s ∷ r) (first_chunks-first_rows w n (drop w s))

module _ (w kind : ℕ) (s : List Float) (o o' : List ℕ) (at to k : ℕ) (rows : List (List Float)) (er : rows ≡ first_chunks w (length s / w) s)
    (l : k < length rows) (row : List Float) (ei : row ≡ get_or rows k row) (e : Entries w kind s o at) (h : Putting (entry_record kind) (first_rows w (length s / w) s) o o' at to k) where
  is_rows : rows ≡ first_rows w (length s / w) s
  is_rows = er ∙ first_chunks-first_rows w (length s / w) s

  is_row : get_or (first_rows w (length s / w) s) k [] ≡ row
  is_row = ap (λ (r : List (List Float)). get_or r k []) (sym is_rows) ∙ get_or_default rows k [] row l ∙ sym ei

  in_rows : k < length (first_rows w (length s / w) s)
  in_rows = rw is_rows at l

  is_part : row ≡ take w (drop (w * k) s)
  is_part = sym is_row ∙ row_at w (length s / w) s k (rw (length_rows w (length s / w) s) at in_rows)

  pub an_entry : AnEntry kind row o' to
  an_entry = record {
    are_finite = rw is_part (every_take finite w (drop (w * k) s) (every_drop finite (w * k) s e.are_finite));
    small = omega (arith, ap length is_part, length-take w (drop (w * k) s), e.small);
    fits = putting_room (entry_record kind) [] (first_rows w (length s / w) s) o o' at to k row in_rows is_row h e.fits;
  }

  pub entries_turn :
      (o'' : List ℕ) (to' : ℕ) → Stored (entry_record kind row) o' o'' to to'
      → Putting (entry_record kind) (first_rows w (length s / w) s) o o'' at to' (k + 1)
  entries_turn = putting_turns (entry_record kind) [] (first_rows w (length s / w) s) o o' at to k row in_rows is_row h

pub entries_end :
    (w kind : ℕ) (s : List Float) (o o' : List ℕ) (at to k : ℕ) (rows : List (List Float)) → rows ≡ first_chunks w (length s / w) s → length rows ≤ k
    → Putting (entry_record kind) (first_rows w (length s / w) s) o o' at to k
    → Stored (each (entry_record kind) (first_rows w (length s / w) s)) o o' at to
entries_end w kind s o o' at to k rows er l =
    putting_ends (entry_record kind) (first_rows w (length s / w) s) o o' at to k (rw (er ∙ first_chunks-first_rows w (length s / w) s) at l)
