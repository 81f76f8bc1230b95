-- A record that stops the reading: a number stands there, and nothing is drawn. Assumes nothing.
use mathlib.Core.Path.{◌≡◌, refl, sym, ap, ◌∙◌}
use mathlib.Core.Bool.{Bool, true, false}
use mathlib.Core.List.{List}
use Prim.Native.Nat.{ℕ, ◌≤◌}
use lib.ListN.{length, take}
use lib.Seq.{length-take-le}
use Rattle.mesh.specs.Mesh.{Mesh}
use Rattle.records.specs.declared.Record.{Record}
use Rattle.steps.specs.declared.Progress.{Progress}
use Rattle.steps.specs.Taking.{Reader, reader, limited, take_record}
use Rattle.steps.specs.Working.{stopped_with, Able, Holds, Stepped}

stopped :
    (z : Reader) (x : Progress) (k : ℕ) (l : Mesh) → x.ended ≡ false → Holds z x l
    → Holds (reader z.at k false z.drawn) (stopped_with x k) l
stopped z x k l e h = record {
  place = h.place;
  refusal = refl;
  end = e;
  positions = h.positions;
  textures = h.textures;
  normals = h.normals;
  corners = h.corners;
  sizes = h.sizes;
  counted = h.counted;
}

pub stepped_stop :
    (file : List ℕ) (r : Record) (x : Progress) (k : ℕ) (l : Mesh)
    → Able (length file) r x → (k ≡ 0 → ⊥)
    → ((z : Reader) → Holds z x l → reader z.at k false z.drawn ≡ take_record file z r)
    → Stepped file r x (stopped_with x k) l l
stepped_stop file r x k l a j f =
    let w = a.within in
    record {
      within = record {
        positions = w.positions;
        textures = w.textures;
        normals = w.normals;
        corners = w.corners;
        faces = w.faces;
        place = w.place;
      };
      moved = λ e i. absurd (j e);
      taken = λ z h. rw (f z h) at (stopped z x k l a.unended h);
    }

-- where a limit is passed
pub over_limit : (b : Bool) (z new : Reader) → b ≡ true → reader z.at 1 false z.drawn ≡ limited b z new
over_limit b z new e = rw e

-- what is drawn is as long as the front of the list that holds it
pub length_of : {A : Type 0} (n : ℕ) (l d : List A) → n ≤ length l → take n l ≡ d → length d ≡ n
length_of n l d h e = ap length (sym e) ∙ length-take-le n l h
