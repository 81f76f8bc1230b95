-- The corners of a face: the search for a mark, their numbers one by one, and the lengths of all faces together. Assumes nothing.
use mathlib.Core.Path.{◌≡◌, refl, sym, ap, ap₂, ◌∙◌}
use mathlib.Core.Bool.{Bool, true, false}
use mathlib.Core.List.{List, [], map}
use Prim.Native.Nat.{ℕ, ◌+◌, ◌/◌, ◌≤◌, ◌<◌}
use native.Mathlib.Numerals.{add-one}
use native.Mathlib.Omega.{arith}
use lib.ListN.{length, get_or, take, drop}
use lib.Seq.{drop-cons, drop-length, take_all}
use Rattle.lists.specs.Lists.{each, sum}
use Rattle.little.specs.Little.{word_bytes}
use Rattle.mesh.specs.Limits.{width, corner_numbers}
use Rattle.mesh.specs.Mesh.{Ring, corners_in, rings}
use Rattle.mesh.specs.Face.{Sound, offset_of, face_of}
use Rattle.mesh.proofs.Corners.{length-corners_in}
use Rattle.mesh.proofs.Faces.{length_rings, get_or-rings, face_length, face_fits, offset_step, sizes_back}
use Rattle.records.specs.Records.{any_mark}
use Rattle.records.specs.Lengths.{header_length}
use Rattle.written.specs.Pieces.{corner_bytes, body_length, face_bytes, file_limit}
use Rattle.saving.specs.Working.{Stored, Fits, said_width}
use Rattle.saving.proofs.Storing.{stored_as}
use Rattle.saving.proofs.Listing.{Putting, putting_turns, putting_room}
use Rattle.written.proofs.Parting.{faces_most}

-- ---- what is said of a corner

pub corner_said : (m : Bool) (l : List ℕ) → length l ≡ width → corner_bytes m l ≡ each word_bytes (take (said_width m) l)
unfolding corner_bytes
corner_said true l e = ap (each word_bytes) (sym (take_all width l (omega (arith, e))))
corner_said false l e = refl

-- the numbers that are said of a corner, where it has as many as a corner has
module _ (m : Bool) (cs : List (List ℕ)) (o o' : List ℕ) (at to k : ℕ) (l : k < length cs) (n : ℕ) (en : n ≡ said_width m) (w : length (get_or cs k []) ≡ width)
    (h : Putting (corner_bytes m) cs o o' at to k) where
  abbrev part : List ℕ
  part = take n (get_or cs k [])

  is_part : corner_bytes m (get_or cs k []) ≡ each word_bytes part
  is_part = corner_said m (get_or cs k []) w ∙ ap (λ (j : ℕ). each word_bytes (take j (get_or cs k []))) (sym en)

  pub words_fit : Fits (each (corner_bytes m) cs) o at → Fits (each word_bytes part) o' to
  words_fit r =
      let z : to + length (corner_bytes m (get_or cs k [])) ≤ length o' =
      putting_room (corner_bytes m) [] cs o o' at to k (get_or cs k []) l refl h r in
      rw is_part at z

  pub corners_turn : (o'' : List ℕ) (to' : ℕ) → Stored (each word_bytes part) o' o'' to to' → Putting (corner_bytes m) cs o o'' at to' (k + 1)
  corners_turn o'' to' g =
      putting_turns (corner_bytes m) [] cs o o' at to k (get_or cs k []) l refl h o'' to' (stored_as _ (corner_bytes m (get_or cs k [])) o' o'' to to' (sym is_part) g)

-- ---- the length of a face, with m whether it has a mark and k the length of its body

module _ (part : List ℕ) (m : Bool) (k : ℕ) (em : m ≡ any_mark (corners_in part)) (ek : k ≡ body_length m (length part / width)) where
  pub face_is : header_length + k ≡ face_bytes (corners_in part)
  unfolding face_bytes
  face_is = ap (λ (i : ℕ). header_length + i) (ek ∙ ap₂ body_length em (sym (length-corners_in part)))

-- ---- the lengths of all faces

pub record Totalling (cs s : List ℕ) (total from k : ℕ) : Type 0 where
  pub offset : from ≡ offset_of s k
  pub within : k ≤ length s
  pub adds : total + sum (map face_bytes (drop k (rings s cs))) ≡ sum (map face_bytes (rings s cs))

module _ (cs s : List ℕ) (r : Sound cs s) where
  -- none is longer than the largest file
  pub total_most : sum (map face_bytes (rings s cs)) ≤ file_limit
  total_most =
      omega (arith, r.few, r.fits, r.adds, faces_most (rings s cs), length_rings s cs, ap sum (sizes_back s cs (omega (arith, r.adds))))

  module _ (total from k : ℕ) (part : List ℕ) (l : k < length s) (e : part ≡ face_of cs s k) (h : Totalling cs s total from k) where
    pub part_small : length part ≤ corner_numbers
    part_small = omega (arith, ap length e, face_length cs s r k l, face_fits cs s r k l, r.fits)

    next : sum (map face_bytes (drop k (rings s cs))) ≡ face_bytes (corners_in part) + sum (map face_bytes (drop (k + 1) (rings s cs)))
    next =
        ap (λ (fs : List Ring). sum (map face_bytes fs)) (drop-cons (rings s cs) k [] (rw (length_rings s cs) l))
        ∙ ap₂ (λ (f : Ring) (i : ℕ). face_bytes f + sum (map face_bytes (drop i (rings s cs)))) (get_or-rings s cs k l ∙ ap corners_in (sym e)) (sym (add-one k))

    pub total_fits : (n : ℕ) → n ≡ face_bytes (corners_in part) → total + n ≤ file_limit
    total_fits n en = omega (arith, h.adds, next, total_most, en)

    pub total_turns : (n : ℕ) → n ≡ face_bytes (corners_in part) → Totalling cs s (total + n) (from + get_or s k 0) (k + 1)
    total_turns n en = record {
      offset = ap (λ (i : ℕ). i + get_or s k 0) h.offset ∙ sym (offset_step s k l);
      within = omega arith;
      adds = omega (arith, h.adds, next, en);
    }

pub total_ends : (cs s : List ℕ) (total from k : ℕ) → length s ≤ k → Totalling cs s total from k → total ≡ sum (map face_bytes (rings s cs))
total_ends cs s total from k l h =
    let i : k ≡ length (rings s cs) = omega (arith, h.within, length_rings s cs) in
    let none : sum (map face_bytes (drop k (rings s cs))) ≡ 0 =
    ap (λ (j : ℕ). sum (map face_bytes (drop j (rings s cs)))) i ∙ ap (λ (fs : List Ring). sum (map face_bytes fs)) (drop-length (rings s cs)) in
    omega (arith, h.adds, none)
