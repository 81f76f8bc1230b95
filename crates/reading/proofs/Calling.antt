-- The whole call: a refusal, and a file that is read. Assumes nothing.
use mathlib.Core.Path.{◌≡◌, refl, sym, ◌∙◌}
use mathlib.Core.Bool.{Bool, true, false}
use mathlib.Core.List.{List, []}
use Prim.Native.Nat.{ℕ, zero, suc}
use native.Mathlib.Omega.{arith}
use Rattle.mesh.specs.Mesh.{Mesh}
use Rattle.mesh.specs.Table.{short}
use Rattle.mesh.proofs.Numbers.{first_is}
use Rattle.reading.specs.declared.MeshRead.{MeshRead}
use Rattle.reading.specs.Reading.{read_all, finish, room_of, reading_number, panel_mesh}
use Rattle.reading.specs.Answer.{PanelRead, Handed, refused_with}

module _ (file : List ℕ) (before : Mesh) where
  abbrev rooms : Bool
  rooms = short (room_of before)

  refused_is : (k : ℕ) → (k ≡ 0 → ⊥) → k ≡ reading_number (room_of before) file → PanelRead file before before (refused_with k)
  refused_is zero h e = absurd (h refl)
  refused_is (suc k) h e = record {
    number = e;
    position_count_is = refl;
    texture_count_is = refl;
    normal_count_is = refl;
    corner_count_is = refl;
    face_count = refl;
    positions = refl;
    textures = refl;
    normals = refl;
    corners = refl;
    sizes = refl;
  }

  pub call_short : rooms ≡ true → (r : MeshRead) → r ≡ refused_with 9 → PanelRead file before before r
  unfolding reading_number
  call_short e r f = rw f (refused_is 9 (λ z. omega arith) (rw e))

  pub call_refused :
      rooms ≡ false → (number : ℕ) → (number ≡ 0 → ⊥) → number ≡ finish file (read_all file)
      → (r : MeshRead) → r ≡ refused_with number → PanelRead file before before r
  unfolding reading_number
  call_refused e number h f r g =
      rw g (refused_is number h (rw e (f ∙ sym (first_is (finish file (read_all file)) [] (λ z. h (f ∙ z))))))

  pub call_done :
      (r : MeshRead) (afterwards : Mesh) → rooms ≡ false → 0 ≡ finish file (read_all file) → Handed (panel_mesh file) before afterwards r
      → PanelRead file before afterwards r
  unfolding reading_number
  call_done r afterwards e f h = record {
    number = h.number ∙ rw (e, ← f);
    position_count_is = rw h.number h.position_count_is;
    texture_count_is = rw h.number h.texture_count_is;
    normal_count_is = rw h.number h.normal_count_is;
    corner_count_is = rw h.number h.corner_count_is;
    face_count = rw h.number h.face_count;
    positions = rw h.number h.positions;
    textures = rw h.number h.textures;
    normals = rw h.number h.normals;
    corners = rw h.number h.corners;
    sizes = rw h.number h.sizes;
  }
