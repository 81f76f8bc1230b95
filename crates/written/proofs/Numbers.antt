-- The number of the writer's call, row by row; what its number 0 says; and the whole call, refused and done. Assumes nothing.
use mathlib.Core.Path.{◌≡◌, refl, sym, ◌∙◌}
use mathlib.Core.Bool.{true, false, not, ◌||◌}
use mathlib.Core.List.{List, [], ◌∷◌}
use Prim.Native.Nat.{ℕ, zero, suc, ◌≤◌, ◌<◌}
use lib.ListN.{length}
use lib.Seq.{sets}
use lib.Dec.{ltb}
use borrow.Author.Tests.{lt-ltb, le-ltb, ltb-false, not-false}
use Rattle.lists.proofs.Bools.{or_false_left}
use Rattle.mesh.specs.Mesh.{Mesh}
use Rattle.mesh.specs.Table.{mesh_number, when, short}
use Rattle.mesh.proofs.Numbers.{first_head, first_tail, when_not}
use Rattle.written.specs.declared.Saved.{Saved}
use Rattle.written.specs.Pieces.{finite_mesh, file_of, file_length}
use Rattle.written.specs.Answer.{saving_number, PanelWritten, Ready}
use Rattle.written.proofs.Parting.{file_is_long}

module _ (m : Mesh) (room : ℕ) where
  pub number_first : (n : ℕ) → n ≡ mesh_number m → (n ≡ 0 → ⊥) → n ≡ saving_number m room
  unfolding saving_number
  number_first zero e h = absurd (h refl)
  number_first (suc n) e h = rw (sym e)

  pub number_broken : mesh_number m ≡ 0 → finite_mesh m ≡ false → 14 ≡ saving_number m room
  unfolding saving_number
  number_broken e f = rw (e, f)

  pub number_short : mesh_number m ≡ 0 → finite_mesh m ≡ true → room < file_length m → 9 ≡ saving_number m room
  unfolding saving_number short
  number_short e f l = rw (e, f, lt-ltb room (file_length m) l)

  pub number_well : mesh_number m ≡ 0 → finite_mesh m ≡ true → file_length m ≤ room → 0 ≡ saving_number m room
  unfolding saving_number short
  number_well e f l = rw (e, f, le-ltb room (file_length m) l)

-- a mesh whose number is 0 can be written
pub ready : (m : Mesh) (o : List ℕ) → saving_number m (length o) ≡ 0 → Ready m o
unfolding saving_number short
ready m o h =
    let f = finite_mesh m in
    let e = ltb (length o) (file_length m) in
    let rest = when (e || false) 9 ∷ [] in
    let h1 = first_tail (mesh_number m) (when (not f) 14 ∷ rest) h in
    let n : (e || false) ≡ false = when_not (e || false) 8 (first_head (when (e || false) 9) [] (first_tail (when (not f) 14) rest h1)) in
    record {
      accepted = first_head (mesh_number m) (when (not f) 14 ∷ rest) h;
      are_finite = not-false f (when_not (not f) 13 (first_head (when (not f) 14) rest h1));
      room = ltb-false (length o) (file_length m) (or_false_left e false n);
    }

-- ---- the whole call

abbrev saved : ℕ → ℕ → Saved
saved number length = record { number = number; length = length }

pub call_refused : (m : Mesh) (o : List ℕ) (n : ℕ) → n ≡ saving_number m (length o) → (n ≡ 0 → ⊥) → PanelWritten m o o (saved n 0)
call_refused m o zero e h = absurd (h refl)
call_refused m o (suc n) e h = record { number = e; byte_count = refl; bytes = refl }

pub call_done :
    (m : Mesh) (o o' : List ℕ) (r : ℕ) → 0 ≡ saving_number m (length o) → o' ≡ sets o 0 (file_of m) → r ≡ length (file_of m)
    → PanelWritten m o o' (saved 0 r)
call_done m o o' r e s l = record { number = e; byte_count = l ∙ file_is_long m (ready m o (sym e)).accepted; bytes = s }
