-- What is drawn stays within the limits and in order, record by record. Assumes nothing.
use mathlib.Core.Path.{◌≡◌, refl, ◌∙◌}
use mathlib.Core.Bool.{Bool, true, false}
use mathlib.Core.List.{List, [], ◌∷◌, ◌++◌}
use Prim.Native.Nat.{ℕ, zero, suc, ◌+◌, ◌*◌, ◌≤◌}
use native.Mathlib.Omega.{arith}
use lib.ListN.{length, length-append}
use lib.Dec.{ltb, leb}
use borrow.Author.Tests.{ltb-false, le-leb}
use Rattle.lists.specs.Lists.{every}
use Rattle.lists.proofs.Bools.{by_cases, and_both}
use Rattle.lists.proofs.Parts.{every_append}
use Rattle.mesh.specs.Limits.{ring_limit, corner_limit, point_numbers, texel_numbers}
use Rattle.mesh.specs.Mesh.{Ring}
use Rattle.mesh.proofs.Faces.{is_ring}
use Rattle.grouping.specs.Push.{corner_count}
use Rattle.grouping.proofs.Placing.{count_append}
use Rattle.grouping.proofs.Accepting.{sized, Orderly}
use Rattle.floating.specs.Points.{coordinates}
use Rattle.records.specs.declared.Record.{Record}
use Rattle.records.specs.declared.Record.TheVariants.{Position, Texture, Normal, Face, End, Refused}
use Rattle.records.specs.Lengths.{corner_size, point_record, texel_record}
use Rattle.records.specs.Records.{record_from, ring_from}
use Rattle.reading.specs.Reading.{Drawn, Reader, reader, nothing, limited, take_record, going, read_from, read_all, with_position, with_texture, with_normal, with_face}
use Rattle.records.proofs.Ringing.{ring_length, ring_corners}
use Rattle.records.proofs.Fitting.{Fitted, record_fits}

abbrev pub InOrder : Drawn → Type 0
InOrder d = Orderly d.positions d.textures d.normals d.faces

pub record Sane (size : ℕ) (z : Reader) : Type 0 where
  pub place : z.at ≤ size
  pub drawn : InOrder z.drawn

-- a limit: either nothing more is drawn, or what is more stays within it
limited_sane : (size : ℕ) (b : Bool) (z new : Reader) → Sane size z → (b ≡ false → Sane size new) → Sane size (limited b z new)
limited_sane size true z new h f = record { place = h.place; drawn = h.drawn }
limited_sane size false z new h f = f refl

face_sized : (m : Bool) (s : List ℕ) (n a : ℕ) → 3 ≤ n → n ≤ ring_limit → sized (ring_from m s n a) ≡ true
face_sized m s n a h l = rw (ring_length m s n a) (and_both (leb 3 n) (leb n ring_limit) (le-leb 3 n h) (le-leb n ring_limit l))

every_more : (p : Ring → Bool) (fs : List Ring) (f : Ring) → every p fs ≡ true → p f ≡ true → every p (fs ++ f ∷ []) ≡ true
every_more p fs f e h = every_append p fs (f ∷ []) ∙ rw (e, h)

take_sane : (s : List ℕ) (z : Reader) (r : Record) → Fitted (length s) z.at r → Sane (length s) z → Sane (length s) (take_record s z r)
unfolding take_record
take_sane s z (Position p) f h =
    let d = z.drawn in
    limited_sane (length s) (ltb point_numbers (length d.positions + 3)) z (reader (z.at + point_record) 0 false (with_position (coordinates p) d)) h
    (λ e. record {
      place = f.fits;
      drawn = record {
        few_positions = omega (arith, ltb-false point_numbers (length d.positions + 3) e, length-append d.positions (coordinates p));
        few_textures = h.drawn.few_textures;
        few_normals = h.drawn.few_normals;
        whole_positions = omega (arith, h.drawn.whole_positions, length-append d.positions (coordinates p));
        whole_textures = h.drawn.whole_textures;
        whole_normals = h.drawn.whole_normals;
        few_corners = h.drawn.few_corners;
        are_rings = h.drawn.are_rings;
        are_sized = h.drawn.are_sized;
      };
    })
take_sane s z (Texture t) f h =
    let d = z.drawn in
    limited_sane (length s) (ltb texel_numbers (length d.textures + 2)) z (reader (z.at + texel_record) 0 false (with_texture (t.u ∷ t.v ∷ []) d)) h
    (λ e. record {
      place = f.fits;
      drawn = record {
        few_positions = h.drawn.few_positions;
        few_textures = omega (arith, ltb-false texel_numbers (length d.textures + 2) e, length-append d.textures (t.u ∷ t.v ∷ []));
        few_normals = h.drawn.few_normals;
        whole_positions = h.drawn.whole_positions;
        whole_textures = omega (arith, h.drawn.whole_textures, length-append d.textures (t.u ∷ t.v ∷ []));
        whole_normals = h.drawn.whole_normals;
        few_corners = h.drawn.few_corners;
        are_rings = h.drawn.are_rings;
        are_sized = h.drawn.are_sized;
      };
    })
take_sane s z (Normal p) f h =
    let d = z.drawn in
    limited_sane (length s) (ltb point_numbers (length d.normals + 3)) z (reader (z.at + point_record) 0 false (with_normal (coordinates p) d)) h
    (λ e. record {
      place = f.fits;
      drawn = record {
        few_positions = h.drawn.few_positions;
        few_textures = h.drawn.few_textures;
        few_normals = omega (arith, ltb-false point_numbers (length d.normals + 3) e, length-append d.normals (coordinates p));
        whole_positions = h.drawn.whole_positions;
        whole_textures = h.drawn.whole_textures;
        whole_normals = omega (arith, h.drawn.whole_normals, length-append d.normals (coordinates p));
        few_corners = h.drawn.few_corners;
        are_rings = h.drawn.are_rings;
        are_sized = h.drawn.are_sized;
      };
    })
take_sane s z (Face a n m) f h =
    by_cases (ltb n 3)
    (λ e. rw e (record { place = f.fits; drawn = h.drawn }))
    (λ e.
    let d = z.drawn in
    let ring = ring_from m s n a in
    rw e
    (limited_sane (length s) (ltb corner_limit (corner_count d.faces + n)) z (reader (a + corner_size m * n) 0 false (with_face ring d)) h
    (λ g. record {
      place = f.fits;
      drawn = record {
        few_positions = h.drawn.few_positions;
        few_textures = h.drawn.few_textures;
        few_normals = h.drawn.few_normals;
        whole_positions = h.drawn.whole_positions;
        whole_textures = h.drawn.whole_textures;
        whole_normals = h.drawn.whole_normals;
        few_corners = omega (arith, ltb-false corner_limit (corner_count d.faces + n) g, count_append d.faces (ring ∷ []), ring_length m s n a);
        are_rings = every_more is_ring d.faces ring h.drawn.are_rings (ring_corners m s n a);
        are_sized = every_more sized d.faces ring h.drawn.are_sized (face_sized m s n a (ltb-false n 3 e) f.placed.1);
      };
    })))
take_sane s z End f h = record { place = f.fits; drawn = h.drawn }
take_sane s z (Refused n) f h = record { place = h.place; drawn = h.drawn }

-- one more record, where the reading goes on
pub read_on : (f : ℕ) (s : List ℕ) (z : Reader) → going z ≡ true → read_from (suc f) s z ≡ read_from f s (take_record s z (record_from s z.at))
unfolding read_from
read_on f s z e = rw (e, read_from)

pub read_off : (f : ℕ) (s : List ℕ) (z : Reader) → going z ≡ false → read_from f s z ≡ z
unfolding read_from
read_off zero s z e = refl
read_off (suc f) s z e = rw (e, read_from)

read_sane : (f : ℕ) (s : List ℕ) (z : Reader) → Sane (length s) z → Sane (length s) (read_from f s z)
read_sane zero s z h = rw (let e : read_from zero s z ≡ z = unfold read_from in refl in e) h
read_sane (suc f) s z h =
    by_cases (going z)
    (λ e. rw (read_on f s z e) (read_sane f s (take_record s z (record_from s z.at)) (take_sane s z (record_from s z.at) (record_fits s z.at h.place) h)))
    (λ e. rw (read_off (suc f) s z e) h)

-- whatever the bytes, what is read is in order
pub all_sane : (s : List ℕ) → Sane (length s) (read_all s)
unfolding read_all
all_sane s = read_sane (suc (length s)) s (reader 0 0 false nothing)
    (record {
      place = omega arith;
      drawn = record {
        few_positions = omega arith;
        few_textures = omega arith;
        few_normals = omega arith;
        whole_positions = refl;
        whole_textures = refl;
        whole_normals = refl;
        few_corners = omega arith;
        are_rings = refl;
        are_sized = refl;
      };
    })
