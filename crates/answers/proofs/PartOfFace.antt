-- The part of a face by its start and its length: where it is empty, and where it is a face. Assumes nothing.
use mathlib.Core.Path.{◌≡◌, refl, sym, ap, ◌∙◌}
use mathlib.Core.Bool.{Bool, true, cond, ◌&&◌}
use mathlib.Core.List.{List, [], ◌∷◌}
use Prim.Native.Nat.{ℕ, ◌*◌, ◌≤◌, ◌<◌}
use native.Mathlib.Omega.{arith}
use lib.ListN.{length, get_or, take, drop}
use lib.Dec.{ltb, eqb}
use borrow.Author.Tests.{ltb-true, eqb-true, lt-ltb, eq-eqb}
use Rattle.lists.proofs.Bools.{by_cases, and_left, and_right}
use Rattle.mesh.specs.Limits.{width, face_limit}
use Rattle.mesh.specs.Mesh.{Mesh}
use Rattle.mesh.specs.Table.{shape_number}
use Rattle.mesh.specs.Face.{offset_of, face_of, face_part, list_if}
use Rattle.mesh.proofs.Numbers.{shaped}
use Rattle.mesh.proofs.Accepted.{sound, size_least}
use Rattle.mesh.proofs.Faces.{a_face, face_length}
use Rattle.answers.specs.Answers.{start_of, PartAnswer}

-- k is a face, and the lists earn none of 1 to 4
pub record There (m : Mesh) (k : ℕ) : Type 0 where
  pub is_face : k < length m.sizes
  pub clear : shape_number m ≡ 0

abbrev is_there : Mesh → ℕ → Bool
is_there m k = ltb k (length m.sizes) && eqb (shape_number m) 0

there_by : (m : Mesh) (k : ℕ) → is_there m k ≡ true → There m k
there_by m k e =
    record {
      is_face = ltb-true _ _ (and_left _ _ e);
      clear = eqb-true _ _ (and_right (ltb k (length m.sizes)) _ e);
    }

-- a part that is not empty is a face's
pub there : (m : Mesh) (k : ℕ) (p : List ℕ) → p ≡ face_part m k → (length p ≡ 0 → ⊥) → There m k
unfolding face_part
there m k p e h =
    by_cases (is_there m k) (there_by m k)
    (λ f. absurd (h (ap length e ∙ ap (λ (b : Bool). length (list_if b (face_of m.corners m.sizes k))) f)))

-- there are few faces then
pub few : (m : Mesh) (k : ℕ) → There m k → length m.sizes ≤ face_limit
few m k t = (sound m (shaped m t.clear)).few

-- a face's part is the numbers of each of its corners
part_length : (m : Mesh) (k : ℕ) (p : List ℕ) → p ≡ face_part m k → There m k → length p ≡ width * get_or m.sizes k 0
part_length m k p e t =
    ap length (e ∙ sym (a_face m k t.is_face t.clear))
    ∙ face_length m.corners m.sizes (sound m (shaped m t.clear)) k t.is_face

-- and so not empty
part_long : (m : Mesh) (k : ℕ) (p : List ℕ) → p ≡ face_part m k → There m k → length p ≡ 0 → ⊥
part_long m k p e t h =
    let a : 3 ≤ get_or m.sizes k 0 = size_least m (shaped m t.clear).fit k t.is_face in
    let b : length p ≡ width * get_or m.sizes k 0 = part_length m k p e t in
    omega arith

no_numbers : (l : List ℕ) → length l ≡ 0 → [] ≡ l
no_numbers [] h = refl
no_numbers (x ∷ l) h = absurd (omega (arith, h))

-- an empty part starts at 0
pub empty : (m : Mesh) (k : ℕ) (p : List ℕ) → p ≡ face_part m k → length p ≡ 0 → PartAnswer m k 0 (length p)
unfolding start_of
empty m k p e h =
    record {
      part = ap (λ (n : ℕ). take n m.corners) h ∙ no_numbers p h ∙ e;
      begins =
          by_cases (is_there m k) (λ f. absurd (part_long m k p e (there_by m k f) h))
          (λ f. sym (ap (λ (b : Bool). cond b (width * offset_of m.sizes k) 0) f));
      long = ap length e;
    }

-- any other behind the faces before it
pub filled :
    (m : Mesh) (k : ℕ) (p : List ℕ) (at : ℕ) → p ≡ face_part m k → There m k → at ≡ offset_of m.sizes k
    → PartAnswer m k (width * at) (length p)
unfolding start_of face_of
filled m k p at e t o =
    record {
      part =
          ap (λ (n : ℕ). take n (drop (width * at) m.corners)) (part_length m k p e t)
          ∙ ap (λ (i : ℕ). take (width * get_or m.sizes k 0) (drop (width * i) m.corners)) o
          ∙ a_face m k t.is_face t.clear;
      begins = rw (lt-ltb k (length m.sizes) t.is_face, eq-eqb (shape_number m) 0 t.clear, o);
      long = ap length e;
    }
