-- The end record is taken, or a refusal: the reading stops, and nothing more is drawn. Assumes nothing.
use mathlib.Core.Path.{refl, ap}
use mathlib.Core.Bool.{true}
use mathlib.Core.List.{List}
use Prim.Native.Nat.{ℕ, ◌+◌}
use native.Mathlib.Omega.{arith}
use lib.ListN.{length}
use Rattle.mesh.specs.Mesh.{Mesh}
use Rattle.records.specs.declared.Record.TheVariants.{End, Refused}
use Rattle.records.specs.Lengths.{header_length}
use Rattle.steps.specs.declared.Progress.{Progress}
use Rattle.steps.specs.Taking.{take_record}
use Rattle.steps.specs.Working.{stopped_with, Able, Stepped}
use Rattle.steps.proofs.Stopping.{stepped_stop}

abbrev pub at_end : Progress → Progress
at_end x = record {
  at = x.at + header_length;
  number = x.number;
  ended = true;
  positions = x.positions;
  textures = x.textures;
  normals = x.normals;
  corners = x.corners;
  faces = x.faces;
}

pub end_taken : (file : List ℕ) (x : Progress) (l : Mesh) → Able (length file) End x → Stepped file End x (at_end x) l l
unfolding take_record
end_taken file x l a = record {
  within = record {
    positions = a.within.positions;
    textures = a.within.textures;
    normals = a.within.normals;
    corners = a.within.corners;
    faces = a.within.faces;
    place = a.fits;
  };
  moved = λ e i. omega arith;
  taken = λ z k.
      record {
        place = ap (λ (i : ℕ). i + header_length) k.place;
        refusal = a.unrefused;
        end = refl;
        positions = k.positions;
        textures = k.textures;
        normals = k.normals;
        corners = k.corners;
        sizes = k.sizes;
        counted = k.counted;
      };
}

pub refusal_taken :
    (file : List ℕ) (x : Progress) (k : ℕ) (l : Mesh) → Able (length file) (Refused k) x
    → Stepped file (Refused k) x (stopped_with x k) l l
unfolding take_record
refusal_taken file x k l a = stepped_stop file (Refused k) x k l a a.placed (λ z h. refl)
