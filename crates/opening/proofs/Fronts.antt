-- What stands at the front of a list has that length, and it stands there too where the list goes on; so with five lists and a mesh.
-- Assumes nothing.
use mathlib.Core.Path.{◌≡◌, ◌∙◌, sym, ap}
use mathlib.Core.List.{List, ◌++◌}
use Prim.Native.Nat.{ℕ}
use native.Mathlib.Omega.{arith}
use lib.ListN.{length, take, length-take}
use lib.Seq.{take-length, take-append-le}
use Rattle.lists.specs.Putting.{Front}
use Rattle.mesh.specs.Mesh.{Mesh}
use Rattle.reading.specs.declared.MeshRead.{MeshRead}
use Rattle.opening.specs.Opening.{front_of, Fronts}

pub front_length : {A : Type 0} {l xs : List A} {k : ℕ} → Front l xs k → length xs ≡ k
front_length f = ap length (sym f.is) ∙ sym f.long

-- what a list begins with, where there is so much of it
pub begins : {A : Type 0} {l xs : List A} {k : ℕ} → take k l ≡ xs → length xs ≡ k → Front l xs k
begins {l = l} {k = k} e n =
    let long : k ≡ length (take k l) = sym n ∙ ap length (sym e) in
    record { is = e; within = omega (arith, long, length-take k l); long = long }

pub goes_on : {A : Type 0} {l xs : List A} {k : ℕ} (rest : List A) → Front l xs k → Front (l ++ rest) xs k
goes_on {l = l} {k = k} rest f = begins (take-append-le k l rest f.within ∙ f.is) (front_length f)

pub whole : {A : Type 0} (l : List A) → Front l l (length l)
whole l = record { is = take-length l; within = omega arith; long = ap length (sym (take-length l)) }

-- the mesh at the front is the one that stands there
module _ {m l : Mesh} {r : MeshRead} (f : Fronts m l r) where
  pub fronts_are : front_of l r ≡ m
  fronts_are = rw (f.positions.is, f.textures.is, f.normals.is, f.corners.is, f.sizes.is)

  pub fronts_own : Fronts (front_of l r) l r
  fronts_own = rw fronts_are f
