-- A normal is taken: it stands behind those that were drawn, or the limit stops the reading. Assumes nothing.
use mathlib.Core.Path.{◌≡◌, ap, ◌∙◌, subst⁻¹}
use mathlib.Core.Bool.{Bool, false}
use mathlib.Core.List.{List, ◌++◌}
use Prim.Native.Nat.{ℕ, ◌+◌, ◌*◌, ◌≤◌, ◌<◌}
use native.Mathlib.Omega.{arith}
use lib.ListN.{length}
use lib.Seq.{sets}
use lib.Dec.{ltb}
use lib.Ieee.{Float}
use borrow.Author.Tests.{lt-ltb, le-ltb}
use Rattle.lists.proofs.Writing.{take_sets}
use Rattle.mesh.specs.Limits.{entry_limit, point_numbers}
use Rattle.mesh.specs.Mesh.{Mesh, mesh_of}
use Rattle.floating.specs.declared.Point.{Point}
use Rattle.floating.specs.Points.{coordinates}
use Rattle.records.specs.declared.Record.TheVariants.{Normal}
use Rattle.records.specs.Lengths.{point_record}
use Rattle.steps.specs.declared.Progress.{Progress}
use Rattle.steps.specs.Taking.{reader, limited, take_record, with_normal}
use Rattle.steps.specs.Working.{stopped_with, Able, Holds, Stepped}
use Rattle.steps.proofs.Stopping.{stepped_stop, over_limit, length_of}

abbrev pub at_normal : Progress → Progress
at_normal x = record {
  at = x.at + point_record;
  number = x.number;
  ended = x.ended;
  positions = x.positions;
  textures = x.textures;
  normals = x.normals + 1;
  corners = x.corners;
  faces = x.faces;
}

module _ (file : List ℕ) (x : Progress) (pt : Point) (l : Mesh) (a : Able (length file) (Normal pt) x) (long : length l.normals ≡ point_numbers) where
  pub normal_over : entry_limit ≤ x.normals → Stepped file (Normal pt) x (stopped_with x 1) l l
  unfolding take_record
  normal_over h =
      stepped_stop file (Normal pt) x 1 l a (λ e. omega arith)
      (λ z k.
      let d = z.drawn.normals in
      let n : length d ≡ 3 * x.normals = length_of (3 * x.normals) l.normals d (omega (arith, a.within.normals)) k.normals in
      over_limit _ z _ (lt-ltb point_numbers (length d + 3) (omega arith)))

  abbrev normals' : List Float
  normals' = sets l.normals (3 * x.normals) (coordinates pt)

  abbrev with_normal_lem : Mesh
  with_normal_lem = mesh_of l.positions l.textures normals' l.corners l.sizes

  pub normal_taken : x.normals < entry_limit → Stepped file (Normal pt) x (at_normal x) l with_normal_lem
  unfolding take_record
  normal_taken h = record {
    within = record {
      positions = a.within.positions;
      textures = a.within.textures;
      normals = omega arith;
      corners = a.within.corners;
      faces = a.within.faces;
      place = a.fits;
    };
    moved = λ e i. omega arith;
    taken = λ z k.
        let d = z.drawn.normals in
        let n : length d ≡ 3 * x.normals = length_of (3 * x.normals) l.normals d (omega arith) k.normals in
        let e : ltb point_numbers (length d + 3) ≡ false = le-ltb point_numbers (length d + 3) (omega arith) in
        let drawn = reader (z.at + point_record) 0 false (with_normal (coordinates pt) z.drawn) in
        subst⁻¹ (λ (b : Bool). Holds (limited b z drawn) (at_normal x) with_normal_lem) e
        (record {
          place = ap (λ (i : ℕ). i + point_record) k.place;
          refusal = a.unrefused;
          end = a.unended;
          positions = k.positions;
          textures = k.textures;
          normals =
              take_sets l.normals (3 * x.normals) (coordinates pt) (3 * (x.normals + 1)) (omega arith) (omega arith)
              ∙ ap (λ (d : List Float). d ++ coordinates pt) k.normals;
          corners = k.corners;
          sizes = k.sizes;
          counted = k.counted;
        });
  }
