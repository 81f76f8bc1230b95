-- What the values of every record pass, everything that is drawn passes; so whatever the bytes, the mesh of a file is finite. Assumes nothing.
use mathlib.Core.Path.{◌≡◌, refl, ◌∙◌}
use mathlib.Core.Bool.{Bool, true, false}
use mathlib.Core.List.{List, ◌++◌}
use Prim.Native.Nat.{ℕ, zero, suc, ◌+◌}
use lib.ListN.{length}
use lib.Dec.{ltb}
use lib.Ieee.{Float}
use Rattle.lists.specs.Lists.{every}
use Rattle.lists.proofs.Bools.{by_cases, and_both}
use Rattle.lists.proofs.Parts.{every_append}
use Rattle.mesh.specs.Limits.{corner_limit, point_numbers, texel_numbers}
use Rattle.grouping.specs.Push.{corner_count}
use Rattle.floating.specs.Limits.{finite}
use Rattle.floating.proofs.Finite.{lists_finite}
use Rattle.records.specs.declared.Record.{Record}
use Rattle.records.specs.declared.Record.TheVariants.{Position, Texture, Normal, Face, End, Refused}
use Rattle.records.specs.Records.{record_from, ring_from, values_of, end_of}
use Rattle.records.proofs.Values.{record_finite}
use Rattle.reading.specs.Reading.{Drawn, nothing, with_position, with_texture, with_normal, with_face, Reader, reader, limited, take_face, take_record}
use Rattle.reading.specs.Reading.{going, read_from, read_all, mesh_drawn, panel_mesh}
use Rattle.reading.specs.Promises.{ReadIsFinite}
use Rattle.reading.proofs.Sane.{read_on, read_off}

module _ (p : Float → Bool) where
  pub record Passes (d : Drawn) : Type 0 where
    pub positions : every p d.positions ≡ true
    pub textures : every p d.textures ≡ true
    pub normals : every p d.normals ≡ true

  -- ---- one record

  limited_passes : (b : Bool) (old new : Reader) → Passes old.drawn → Passes new.drawn → Passes (limited b old new).drawn
  limited_passes true old new h g = h
  limited_passes false old new h g = g

  more : (a b : List Float) → every p a ≡ true → every p b ≡ true → every p (a ++ b) ≡ true
  more a b h g = every_append p a b ∙ and_both (every p a) (every p b) h g

  face_passes : (b : Bool) (s : List ℕ) (a n : ℕ) (m : Bool) (z : Reader) → Passes z.drawn → Passes (take_face b s a n m z).drawn
  face_passes true s a n m z h = h
  face_passes false s a n m z h =
      limited_passes (ltb corner_limit (corner_count z.drawn.faces + n)) z (reader (end_of z.at (Face a n m)) 0 false (with_face (ring_from m s n a) z.drawn)) h
      (record { positions = h.positions; textures = h.textures; normals = h.normals })

  take_passes : (s : List ℕ) (z : Reader) (r : Record) → every p (values_of r) ≡ true → Passes z.drawn → Passes (take_record s z r).drawn
  unfolding take_record
  take_passes s z (Position q) v h =
      let d = z.drawn in
      let new = values_of (Position q) in
      limited_passes (ltb point_numbers (length d.positions + 3)) z (reader (end_of z.at (Position q)) 0 false (with_position new d)) h
      (record { positions = more d.positions new h.positions v; textures = h.textures; normals = h.normals })
  take_passes s z (Texture t) v h =
      let d = z.drawn in
      let new = values_of (Texture t) in
      limited_passes (ltb texel_numbers (length d.textures + 2)) z (reader (end_of z.at (Texture t)) 0 false (with_texture new d)) h
      (record { positions = h.positions; textures = more d.textures new h.textures v; normals = h.normals })
  take_passes s z (Normal q) v h =
      let d = z.drawn in
      let new = values_of (Normal q) in
      limited_passes (ltb point_numbers (length d.normals + 3)) z (reader (end_of z.at (Normal q)) 0 false (with_normal new d)) h
      (record { positions = h.positions; textures = h.textures; normals = more d.normals new h.normals v })
  take_passes s z (Face a n m) v h = face_passes (ltb n 3) s a n m z h
  take_passes s z End v h = h
  take_passes s z (Refused n) v h = h

  -- ---- record by record

  from_passes :
      (f : ℕ) (s : List ℕ) (z : Reader) → ((at : ℕ) → every p (values_of (record_from s at)) ≡ true) → Passes z.drawn → Passes (read_from f s z).drawn
  unfolding read_from
  from_passes zero s z v h = h
  from_passes (suc f) s z v h =
      by_cases (going z)
      (λ e. rw (read_on f s z e) (from_passes f s (take_record s z (record_from s z.at)) v (take_passes s z (record_from s z.at) (v z.at) h)))
      (λ e. rw (read_off (suc f) s z e) h)

  pub all_pass : (s : List ℕ) → ((at : ℕ) → every p (values_of (record_from s at)) ≡ true) → Passes (read_all s).drawn
  unfolding read_all
  all_pass s v = from_passes (suc (length s)) s (reader 0 0 false nothing) v (record { positions = refl; textures = refl; normals = refl })

-- ---- the mesh of a file

pub read_finite : ReadIsFinite
unfolding panel_mesh mesh_drawn
read_finite file =
    let d = (read_all file).drawn in
    let a = all_pass finite file (record_finite file) in
    lists_finite d.positions d.textures d.normals (record { positions = a.positions; textures = a.textures; normals = a.normals })
