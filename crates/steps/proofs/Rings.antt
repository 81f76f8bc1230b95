-- A face is taken: it is dropped, it stands behind those that were drawn, or the limit stops the reading. Assumes nothing.
use mathlib.Core.Path.{◌≡◌, refl, sym, ap, ◌∙◌, subst⁻¹}
use mathlib.Core.Bool.{Bool, false}
use mathlib.Core.List.{List, [], ◌∷◌, ◌++◌, map, append-nil}
use Prim.Native.Nat.{ℕ, ◌+◌, ◌*◌, ◌≤◌, ◌<◌}
use native.Mathlib.Omega.{arith}
use lib.ListN.{length, set}
use lib.Seq.{sets}
use lib.Dec.{ltb}
use borrow.Author.Tests.{lt-ltb, le-ltb}
use Rattle.lists.specs.Lists.{joined, each}
use Rattle.lists.proofs.Writing.{take_sets}
use Rattle.lists.proofs.Parts.{each_append}
use Rattle.mesh.specs.Limits.{width, corner_limit, face_limit, corner_numbers}
use Rattle.mesh.specs.Mesh.{Mesh, Ring, mesh_of}
use Rattle.grouping.specs.Push.{corner_count}
use Rattle.grouping.proofs.Placing.{count_append}
use Rattle.records.specs.declared.Record.TheVariants.{Face}
use Rattle.records.specs.Lengths.{corner_size}
use Rattle.records.specs.Records.{ring_from}
use Rattle.records.proofs.Ringing.{ring_flat, ring_length}
use Rattle.steps.specs.declared.Progress.{Progress}
use Rattle.steps.specs.Taking.{reader, limited, take_record, take_face, with_face}
use Rattle.steps.specs.Working.{stopped_with, Able, Holds, Stepped}
use Rattle.steps.proofs.Stopping.{stepped_stop, over_limit}

-- the reader behind a face that ends at p: it was dropped, or it had n corners
abbrev pub past_face : Progress → ℕ → Progress
past_face x p = record {
  at = p;
  number = x.number;
  ended = x.ended;
  positions = x.positions;
  textures = x.textures;
  normals = x.normals;
  corners = x.corners;
  faces = x.faces;
}

abbrev pub at_face : Progress → ℕ → ℕ → Progress
at_face x p n = record {
  at = p;
  number = x.number;
  ended = x.ended;
  positions = x.positions;
  textures = x.textures;
  normals = x.normals;
  corners = x.corners + n;
  faces = x.faces + 1;
}

map_one : (fs : List Ring) (f : Ring) → map length (fs ++ f ∷ []) ≡ map length fs ++ (length f ∷ [])
map_one [] f = refl
map_one (x ∷ fs) f = ap (λ (l : List ℕ). length x ∷ l) (map_one fs f)

module _ (file : List ℕ) (x : Progress) (i m : ℕ) (b : Bool) (l : Mesh) (a : Able (length file) (Face i m b) x) where
  abbrev past : ℕ
  past = i + corner_size b * m

  -- fewer than three corners: dropped
  pub face_dropped : m < 3 → Stepped file (Face i m b) x (past_face x past) l l
  unfolding take_record
  face_dropped h = record {
    within = record {
      positions = a.within.positions;
      textures = a.within.textures;
      normals = a.within.normals;
      corners = a.within.corners;
      faces = a.within.faces;
      place = a.fits;
    };
    moved = λ e j. omega (arith, a.placed.0);
    taken = λ z k.
        subst⁻¹ (λ (t : Bool). Holds (take_face t file i m b z) (past_face x past) l) (lt-ltb m 3 h)
        (record {
          place = refl;
          refusal = a.unrefused;
          end = a.unended;
          positions = k.positions;
          textures = k.textures;
          normals = k.normals;
          corners = k.corners;
          sizes = k.sizes;
          counted = k.counted;
        });
  }

  pub face_over : 3 ≤ m → corner_limit < x.corners + m → Stepped file (Face i m b) x (stopped_with x 1) l l
  unfolding take_record
  face_over g h =
      stepped_stop file (Face i m b) x 1 l a (λ e. omega arith)
      (λ z k.
      let more = corner_count z.drawn.faces + m in
      over_limit (ltb corner_limit more) z _ (lt-ltb corner_limit more (omega (arith, k.counted)))
      ∙ ap (λ (t : Bool). take_face t file i m b z) (sym (le-ltb m 3 g)))

  abbrev ring : Ring
  ring = ring_from b file m i

  abbrev corners' : List ℕ
  corners' = sets l.corners (width * x.corners) (joined ring)

  abbrev sizes' : List ℕ
  sizes' = set l.sizes x.faces m

  abbrev with_face_lem : Mesh
  with_face_lem = mesh_of l.positions l.textures l.normals corners' sizes'

  pub face_taken :
      3 ≤ m → x.corners + m ≤ corner_limit → length l.corners ≡ corner_numbers → length l.sizes ≡ face_limit
      → Stepped file (Face i m b) x (at_face x past m) l with_face_lem
  unfolding take_record
  face_taken g h lc ls = record {
    within = record {
      positions = a.within.positions;
      textures = a.within.textures;
      normals = a.within.normals;
      corners = h;
      faces = omega (arith, a.within.faces);
      place = a.fits;
    };
    moved = λ e j. omega (arith, a.placed.0);
    taken = λ z k.
        let fs = z.drawn.faces in
        let u : ltb corner_limit (corner_count fs + m) ≡ false = le-ltb corner_limit (corner_count fs + m) (omega (arith, k.counted)) in
        let drawn = reader past 0 false (with_face ring z.drawn) in
        subst⁻¹ (λ (t : Bool). Holds (take_face t file i m b z) (at_face x past m) with_face_lem) (le-ltb m 3 g)
        (subst⁻¹ (λ (t : Bool). Holds (limited t z drawn) (at_face x past m) with_face_lem) u
        (record {
          place = refl;
          refusal = a.unrefused;
          end = a.unended;
          positions = k.positions;
          textures = k.textures;
          normals = k.normals;
          corners =
              take_sets l.corners (width * x.corners) (joined ring) (width * (x.corners + m)) (omega (arith, ring_flat b file m i)) (omega arith)
              ∙ ap (λ (l : List ℕ). l ++ joined ring) k.corners
              ∙ ap (λ (l : List ℕ). each joined fs ++ l) (sym (append-nil (joined ring)))
              ∙ sym (each_append joined fs (ring ∷ []));
          sizes =
              take_sets l.sizes x.faces (m ∷ []) (x.faces + 1) refl (omega (arith, a.within.faces))
              ∙ ap (λ (l : List ℕ). l ++ (m ∷ [])) k.sizes
              ∙ ap (λ (j : ℕ). map length fs ++ (j ∷ [])) (sym (ring_length b file m i))
              ∙ sym (map_one fs ring);
          counted = omega (arith, k.counted, count_append fs (ring ∷ []), ring_length b file m i);
        }));
  }
