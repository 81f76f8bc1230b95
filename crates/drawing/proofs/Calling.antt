-- A file drawn into lists of the caller's own: one that is refused, and one that is read. Assumes nothing.
use mathlib.Core.Path.{◌≡◌, refl, sym, ◌∙◌}
use mathlib.Core.List.{List, []}
use Prim.Native.Nat.{ℕ}
use Rattle.mesh.specs.Mesh.{Mesh}
use Rattle.mesh.specs.Table.{short}
use Rattle.mesh.proofs.Numbers.{first_is}
use Rattle.reading.specs.declared.MeshRead.{MeshRead}
use Rattle.reading.specs.Reading.{read_all, finish, reading_number, panel_mesh}
use Rattle.reading.specs.Answer.{Handed, refused_with}
use Rattle.drawing.specs.Drawing.{FileDrawn}

module _ {file : List ℕ} {before afterwards : Mesh} where
  pub drawn_refused :
      (number : ℕ) → (number ≡ 0 → ⊥) → number ≡ finish file (read_all file) → (r : MeshRead) → r ≡ refused_with number
      → FileDrawn file before afterwards r
  unfolding reading_number short
  drawn_refused number h e r f = rw f (record {
    number = e ∙ sym (first_is (finish file (read_all file)) [] (λ z. h (e ∙ z)));
    handed = λ z. absurd (h z);
    counts = λ _. refl;
  })

  pub drawn_done : (r : MeshRead) → 0 ≡ finish file (read_all file) → Handed (panel_mesh file) before afterwards r → FileDrawn file before afterwards r
  unfolding reading_number short
  drawn_done r e h = record {
    number = h.number ∙ rw (← e);
    handed = λ _. h;
    counts = λ z. absurd (z h.number);
  }
