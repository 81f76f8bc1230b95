-- A texture point is taken: it stands behind those that were drawn, or the limit stops the reading. Assumes nothing.
use mathlib.Core.Path.{◌≡◌, ap, ◌∙◌, subst⁻¹}
use mathlib.Core.Bool.{Bool, false}
use mathlib.Core.List.{List, [], ◌∷◌, ◌++◌}
use Prim.Native.Nat.{ℕ, ◌+◌, ◌*◌, ◌≤◌, ◌<◌}
use native.Mathlib.Omega.{arith}
use lib.ListN.{length}
use lib.Seq.{sets}
use lib.Dec.{ltb}
use lib.Ieee.{Float}
use borrow.Author.Tests.{lt-ltb, le-ltb}
use Rattle.lists.proofs.Writing.{take_sets}
use Rattle.mesh.specs.Limits.{entry_limit, texel_numbers}
use Rattle.mesh.specs.Mesh.{Mesh, mesh_of}
use Rattle.floating.specs.declared.Texel.{Texel}
use Rattle.records.specs.declared.Record.TheVariants.{Texture}
use Rattle.records.specs.Lengths.{texel_record}
use Rattle.steps.specs.declared.Progress.{Progress}
use Rattle.steps.specs.Taking.{reader, limited, take_record, with_texture}
use Rattle.steps.specs.Working.{stopped_with, Able, Holds, Stepped}
use Rattle.steps.proofs.Stopping.{stepped_stop, over_limit, length_of}

abbrev pub at_texture : Progress → Progress
at_texture x = record {
  at = x.at + texel_record;
  number = x.number;
  ended = x.ended;
  positions = x.positions;
  textures = x.textures + 1;
  normals = x.normals;
  corners = x.corners;
  faces = x.faces;
}

module _ (file : List ℕ) (x : Progress) (tx : Texel) (l : Mesh) (a : Able (length file) (Texture tx) x) (long : length l.textures ≡ texel_numbers) where
  pub texture_over : entry_limit ≤ x.textures → Stepped file (Texture tx) x (stopped_with x 1) l l
  unfolding take_record
  texture_over h =
      stepped_stop file (Texture tx) x 1 l a (λ e. omega arith)
      (λ z k.
      let d = z.drawn.textures in
      let n : length d ≡ 2 * x.textures = length_of (2 * x.textures) l.textures d (omega (arith, a.within.textures)) k.textures in
      over_limit _ z _ (lt-ltb texel_numbers (length d + 2) (omega arith)))

  abbrev textures' : List Float
  textures' = sets l.textures (2 * x.textures) (tx.u ∷ tx.v ∷ [])

  abbrev with_texture_lem : Mesh
  with_texture_lem = mesh_of l.positions textures' l.normals l.corners l.sizes

  pub texture_taken : x.textures < entry_limit → Stepped file (Texture tx) x (at_texture x) l with_texture_lem
  unfolding take_record
  texture_taken h = record {
    within = record {
      positions = a.within.positions;
      textures = omega arith;
      normals = a.within.normals;
      corners = a.within.corners;
      faces = a.within.faces;
      place = a.fits;
    };
    moved = λ e i. omega arith;
    taken = λ z k.
        let d = z.drawn.textures in
        let n : length d ≡ 2 * x.textures = length_of (2 * x.textures) l.textures d (omega arith) k.textures in
        let e : ltb texel_numbers (length d + 2) ≡ false = le-ltb texel_numbers (length d + 2) (omega arith) in
        let drawn = reader (z.at + texel_record) 0 false (with_texture (tx.u ∷ tx.v ∷ []) z.drawn) in
        subst⁻¹ (λ (b : Bool). Holds (limited b z drawn) (at_texture x) with_texture_lem) e
        (record {
          place = ap (λ (i : ℕ). i + texel_record) k.place;
          refusal = a.unrefused;
          end = a.unended;
          positions = k.positions;
          textures =
              take_sets l.textures (2 * x.textures) (tx.u ∷ tx.v ∷ []) (2 * (x.textures + 1)) (omega arith) (omega arith)
              ∙ ap (λ (d : List Float). d ++ tx.u ∷ tx.v ∷ []) k.textures;
          normals = k.normals;
          corners = k.corners;
          sizes = k.sizes;
          counted = k.counted;
        });
  }
