-- Faces: the record of one, and the loop over all. Assumes nothing.
use mathlib.Core.Path.{◌≡◌, sym, ap, ap₂, ◌∙◌}
use mathlib.Core.Bool.{Bool}
use mathlib.Core.List.{List, [], ◌++◌}
use Prim.Native.Nat.{ℕ, ◌+◌, ◌*◌, ◌/◌, ◌≤◌, ◌<◌}
use native.Mathlib.Omega.{arith}
use lib.ListN.{length, get_or}
use Rattle.std.specs.Simd.{first_chunks}
use Rattle.lists.specs.Lists.{each}
use Rattle.mesh.proofs.Corners.{first_chunks-corners_in, length-corners_in}
use Rattle.records.specs.Records.{any_mark}
use Rattle.mesh.specs.Limits.{width}
use Rattle.mesh.specs.Mesh.{corners_in, rings}
use Rattle.mesh.specs.Face.{offset_of, face_of}
use Rattle.mesh.proofs.Faces.{length_rings, get_or-rings, face_length, offset_step}
use Rattle.written.specs.Parts.{face_record}
use Rattle.written.specs.Pieces.{wide, face_kind, count_bytes, corner_bytes, header_of, body_length}
use Rattle.written.proofs.Lengths.{length_header, length_count, corners, marked, header, counted, numbers, face_bytes_lem, length_part, length_numbers}
use Rattle.saving.specs.Working.{Stored, Fits, ACount, AFace, Faces}
use Rattle.saving.proofs.Storing.{stored_both, stored_as, still_long}
use Rattle.saving.proofs.Listing.{Putting, putting_turns, putting_room, putting_ends}

-- ---- one

-- a face whose corners are cs and whose header says the length k and the kind t; m is whether it has a mark
module _ (part o : List ℕ) (at : ℕ) (f : AFace part o at) (cs : List (List ℕ)) (ec : cs ≡ first_chunks width (length part / width) part) where
  are_corners : cs ≡ corners_in part
  are_corners = ec ∙ first_chunks-corners_in part

  abbrev n : ℕ
  n = length cs

  is_n : n ≡ corners part
  is_n = ap length are_corners ∙ length-corners_in part

  pub header_fits : at + 4 ≤ length o
  header_fits = omega (arith, f.fits, length_part part)

  module _ (m : Bool) (em : m ≡ any_mark cs) where
    is_marked : m ≡ marked part
    is_marked = em ∙ ap any_mark are_corners

    module _ (k t : ℕ) (ek : k ≡ body_length m n) (et : t ≡ face_kind m (wide m n)) (o1 : List ℕ) (a : ℕ) (h : Stored (header_of k t) o o1 at a) where
      header_stored : Stored (header part) o o1 at a
      header_stored =
          stored_as (header_of k t) (header part) o o1 at a
          (ap₂ header_of ek et ∙ ap₂ (λ (b : Bool) (i : ℕ). header_of (body_length b i) (face_kind b (wide b i))) is_marked is_n) h

      behind_header : (a ≡ at + 4) × (length o1 ≡ length o)
      behind_header = (
        omega (arith, header_stored.place, length_header (body_length (marked part) (corners part)) (face_kind (marked part) (wide (marked part) (corners part)))),
        still_long (header part) o o1 at a header_stored,
      )

      pub count_fits : ACount m n o1 a
      count_fits = rw (is_marked, is_n) (record {
        small = omega (arith, f.small);
        fits = omega (arith, f.fits, length_part part, behind_header.0, behind_header.1, length_count (wide (marked part) (corners part)) (corners part));
      })

      module _ (o2 : List ℕ) (b : ℕ) (e : Stored (count_bytes (wide m n) n) o1 o2 a b) where
        count_stored : Stored (counted part) o1 o2 a b
        count_stored =
            stored_as (count_bytes (wide m n) n) (counted part) o1 o2 a b (ap₂ (λ (b : Bool) (i : ℕ). count_bytes (wide b i) i) is_marked is_n) e

        pub corners_fit : Fits (each (corner_bytes m) cs) o2 b
        corners_fit =
            rw (is_marked, are_corners)
            (omega (
              arith,
              f.fits,
              length_part part,
              behind_header.0,
              behind_header.1,
              count_stored.place,
              length_count (wide (marked part) (corners part)) (corners part),
              still_long (counted part) o1 o2 a b count_stored,
              length_numbers part,
            ))

        pub face_stored : (o3 : List ℕ) (r : ℕ) → Stored (each (corner_bytes m) cs) o2 o3 b r → Stored (face_record (corners_in part)) o o3 at r
        face_stored o3 r g =
            let h = header part in
            let c = counted part in
            let ws = numbers part in
            let g' : Stored ws o2 o3 b r = stored_as _ ws o2 o3 b r (ap₂ (λ (b : Bool) (l : List (List ℕ)). each (corner_bytes b) l) is_marked are_corners) g in
            stored_as (h ++ (c ++ ws)) (face_record (corners_in part)) o o3 at r (sym (face_bytes_lem part))
            (stored_both h (c ++ ws) o o1 o3 at a r header_stored (stored_both c ws o1 o2 o3 a b r count_stored g'))

-- ---- all

pub record PuttingFaces (cs s o o' : List ℕ) (at to from k : ℕ) : Type 0 where
  pub offset : from ≡ offset_of s k
  pub puts : Putting face_record (rings s cs) o o' at to k

module _ (cs s o o' : List ℕ) (at to from k : ℕ) (part : List ℕ) (l : k < length s) (e : part ≡ face_of cs s k) (r : Faces cs s o at)
    (h : PuttingFaces cs s o o' at to from k) where
  is_face : get_or (rings s cs) k [] ≡ corners_in part
  is_face = get_or-rings s cs k l ∙ ap corners_in (sym e)

  face_in : k < length (rings s cs)
  face_in = rw (length_rings s cs) l

  part_length : length part ≡ width * get_or s k 0
  part_length = ap length e ∙ face_length cs s r.sound k l

  pub a_face : AFace part o' to
  a_face = record {
    whole = omega (arith, part_length);
    small = omega (arith, part_length, r.small k l);
    fits = putting_room face_record [] (rings s cs) o o' at to k (corners_in part) face_in is_face h.puts r.fits;
  }

  pub faces_turn :
      (o'' : List ℕ) (to' : ℕ) → Stored (face_record (corners_in part)) o' o'' to to' → PuttingFaces cs s o o'' at to' (from + get_or s k 0) (k + 1)
  faces_turn o'' to' g = record {
    offset = ap (λ (i : ℕ). i + get_or s k 0) h.offset ∙ sym (offset_step s k l);
    puts = putting_turns face_record [] (rings s cs) o o' at to k (corners_in part) face_in is_face h.puts o'' to' g;
  }

pub faces_end : (cs s o o' : List ℕ) (at to from k : ℕ) → length s ≤ k → PuttingFaces cs s o o' at to from k → Stored (each face_record (rings s cs)) o o' at to
faces_end cs s o o' at to from k l h = putting_ends face_record (rings s cs) o o' at to k (rw (length_rings s cs) l) h.puts
