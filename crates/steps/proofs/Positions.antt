-- A position is taken: it stands behind those that were drawn, or the limit stops the reading. Assumes nothing.
use mathlib.Core.Path.{◌≡◌, ap, ◌∙◌, subst⁻¹}
use mathlib.Core.Bool.{Bool, false}
use mathlib.Core.List.{List, ◌++◌}
use Prim.Native.Nat.{ℕ, ◌+◌, ◌*◌, ◌≤◌, ◌<◌}
use native.Mathlib.Omega.{arith}
use lib.ListN.{length}
use lib.Seq.{sets}
use lib.Dec.{ltb}
use lib.Ieee.{Float}
use borrow.Author.Tests.{lt-ltb, le-ltb}
use Rattle.lists.proofs.Writing.{take_sets}
use Rattle.mesh.specs.Limits.{entry_limit, point_numbers}
use Rattle.mesh.specs.Mesh.{Mesh, mesh_of}
use Rattle.floating.specs.declared.Point.{Point}
use Rattle.floating.specs.Points.{coordinates}
use Rattle.records.specs.declared.Record.TheVariants.{Position}
use Rattle.records.specs.Lengths.{point_record}
use Rattle.steps.specs.declared.Progress.{Progress}
use Rattle.steps.specs.Taking.{reader, limited, take_record, with_position}
use Rattle.steps.specs.Working.{stopped_with, Able, Holds, Stepped}
use Rattle.steps.proofs.Stopping.{stepped_stop, over_limit, length_of}

abbrev pub at_position : Progress → Progress
at_position x = record {
  at = x.at + point_record;
  number = x.number;
  ended = x.ended;
  positions = x.positions + 1;
  textures = x.textures;
  normals = x.normals;
  corners = x.corners;
  faces = x.faces;
}

module _ (file : List ℕ) (x : Progress) (pt : Point) (l : Mesh) (a : Able (length file) (Position pt) x) (long : length l.positions ≡ point_numbers) where
  pub position_over : entry_limit ≤ x.positions → Stepped file (Position pt) x (stopped_with x 1) l l
  unfolding take_record
  position_over h =
      stepped_stop file (Position pt) x 1 l a (λ e. omega arith)
      (λ z k.
      let d = z.drawn.positions in
      let n : length d ≡ 3 * x.positions = length_of (3 * x.positions) l.positions d (omega (arith, a.within.positions)) k.positions in
      over_limit _ z _ (lt-ltb point_numbers (length d + 3) (omega arith)))

  abbrev positions' : List Float
  positions' = sets l.positions (3 * x.positions) (coordinates pt)

  abbrev with_position_lem : Mesh
  with_position_lem = mesh_of positions' l.textures l.normals l.corners l.sizes

  pub position_taken : x.positions < entry_limit → Stepped file (Position pt) x (at_position x) l with_position_lem
  unfolding take_record
  position_taken h = record {
    within = record {
      positions = omega arith;
      textures = a.within.textures;
      normals = a.within.normals;
      corners = a.within.corners;
      faces = a.within.faces;
      place = a.fits;
    };
    moved = λ e i. omega arith;
    taken = λ z k.
        let d = z.drawn.positions in
        let n : length d ≡ 3 * x.positions = length_of (3 * x.positions) l.positions d (omega arith) k.positions in
        let e : ltb point_numbers (length d + 3) ≡ false = le-ltb point_numbers (length d + 3) (omega arith) in
        let drawn = reader (z.at + point_record) 0 false (with_position (coordinates pt) z.drawn) in
        subst⁻¹ (λ (b : Bool). Holds (limited b z drawn) (at_position x) with_position_lem) e
        (record {
          place = ap (λ (i : ℕ). i + point_record) k.place;
          refusal = a.unrefused;
          end = a.unended;
          positions =
              take_sets l.positions (3 * x.positions) (coordinates pt) (3 * (x.positions + 1)) (omega arith) (omega arith)
              ∙ ap (λ (d : List Float). d ++ coordinates pt) k.positions;
          textures = k.textures;
          normals = k.normals;
          corners = k.corners;
          sizes = k.sizes;
          counted = k.counted;
        });
  }
