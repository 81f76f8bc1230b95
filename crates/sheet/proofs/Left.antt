-- What is left of a file, in lists at the full limits, is kept by its counts, corners and sizes. Assumes nothing.
use mathlib.Core.Path.{◌∙◌, sym}
use mathlib.Core.List.{List}
use Prim.Native.Nat.{ℕ}
use native.Mathlib.Omega.{arith}
use Rattle.mesh.specs.Mesh.{Mesh}
use Rattle.reading.specs.declared.MeshRead.{MeshRead}
use Rattle.opening.specs.Opening.{Opened}
use Rattle.opening.proofs.Fronts.{front_length}
use Rattle.opening.proofs.Reading.{opened_accepted}
use Rattle.sheet.specs.Working.{Cleaned}

pub opened_kept :
    {file : List ℕ} {afterwards : Mesh} {r : MeshRead} → Opened file afterwards r
    → Cleaned file r afterwards.corners afterwards.sizes
opened_kept {file} o = record {
  number_is = o.number;
  kept = λ z.
      let f = o.left z in
      record {
        accepted = opened_accepted file (sym o.number ∙ z);
        positions = omega (arith, front_length f.positions);
        textures = omega (arith, front_length f.textures);
        normals = omega (arith, front_length f.normals);
        corner_front = f.corners;
        size_front = f.sizes;
      };
}
