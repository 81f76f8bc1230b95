-- What is left of a file, in lists at the full limits, goes on to be smoothed; and what the whole call answers. Assumes nothing.
use mathlib.Core.Path.{◌≡◌, ◌∙◌, refl, sym, subst}
use mathlib.Core.List.{List, [], ◌∷◌}
use Prim.Native.Nat.{ℕ, zero, suc, ◌≤◌, ◌<◌}
use lib.ListN.{length}
use lib.Ieee.{Float}
use borrow.Author.Tests.{lt-ltb, le-ltb}
use Rattle.mesh.specs.Mesh.{Mesh}
use Rattle.mesh.specs.Table.{short}
use Rattle.mesh.proofs.Numbers.{first_is}
use Rattle.reading.specs.declared.MeshRead.{MeshRead}
use Rattle.reading.specs.Reading.{reading_number, panel_mesh}
use Rattle.written.specs.Pieces.{file_limit}
use Rattle.cleaning.specs.Cleaning.{cleaned}
use Rattle.smoothed.specs.Refusals.{result_of}
use Rattle.opening.specs.Opening.{front_of, Opened}
use Rattle.opening.proofs.Fronts.{fronts_are}
use Rattle.roundfile.specs.declared.Rounded.{Rounded}
use Rattle.roundfile.specs.Rounding.{mesh_rounded, round_file, smoothed_number, opened_number, rounding_number, PanelRounded}
use Rattle.roundfile.specs.Working.{refused_by, Answered}
use Rattle.roundfile.proofs.Smooth.{alone}

-- ---- the file is opened

module _ {file : List ℕ} {afterwards : Mesh} {r : MeshRead} (ones twos : List Float) (out : List ℕ)
    (opened : Opened file afterwards r) where
  abbrev Answers : ℕ → List ℕ → Rounded → Type 0
  Answers k out' answer = Answered k (mesh_rounded file ones twos) out out' answer

  -- a refused file
  refused_number : (r.number ≡ 0 → ⊥) → r.number ≡ opened_number file ones twos
  unfolding opened_number
  refused_number h =
      let rows = smoothed_number (cleaned (panel_mesh file)) ones twos ∷ [] in
      opened.number ∙ sym (first_is (reading_number [] file) rows (λ z. h (opened.number ∙ z)))

  pub open_refused : (r.number ≡ 0 → ⊥) → Answers (opened_number file ones twos) out (refused_by r.number)
  open_refused h = go r.number (refused_number h) h
    where
      go : (k : ℕ) → k ≡ opened_number file ones twos → (k ≡ 0 → ⊥) → Answers (opened_number file ones twos) out (refused_by k)
      go zero e h = absurd (h refl)
      go (suc k) e h = record { number = e; byte_count = rw (sym e); bytes = rw (sym e) }

  -- one whose mesh is left at the front of the lists
  module _ (z : r.number ≡ 0) where
    left_number : opened_number file ones twos ≡ smoothed_number (cleaned (panel_mesh file)) ones twos
    unfolding opened_number
    left_number = rw (sym opened.number ∙ z) (alone (smoothed_number (cleaned (panel_mesh file)) ones twos))

    pub open_smoothed :
        {out' : List ℕ} {answer : Rounded}
        → Answered (smoothed_number (front_of afterwards r) ones twos) (result_of (front_of afterwards r) ones twos) out out' answer
        → Answers (opened_number file ones twos) out' answer
    open_smoothed {out'} {answer} a =
        let left : Mesh → Type 0 = λ x. Answered (smoothed_number x ones twos) (result_of x ones twos) out out' answer in
        rw left_number (subst left (fronts_are (opened.left z)) a)

-- ---- the whole call

module _ (file : List ℕ) (ones twos : List Float) (out : List ℕ) where
  pub call_short : length out < file_limit → PanelRounded file ones twos out out (refused_by 9)
  unfolding rounding_number short
  call_short h = record { number = rw (lt-ltb (length out) file_limit h); byte_count = refl; bytes = refl }

  pub call_long : file_limit ≤ length out → file_limit < length file → PanelRounded file ones twos out out (refused_by 1)
  unfolding rounding_number short
  call_long h k = record { number = rw (le-ltb (length out) file_limit h, lt-ltb file_limit (length file) k); byte_count = refl; bytes = refl }

  pub call_opened :
      file_limit ≤ length out → length file ≤ file_limit → (out' : List ℕ) (r : Rounded)
      → Answered (opened_number file ones twos) (mesh_rounded file ones twos) out out' r → PanelRounded file ones twos out out' r
  unfolding rounding_number round_file short
  call_opened h k out' r a = record {
    number = rw (le-ltb (length out) file_limit h, le-ltb file_limit (length file) k) (a.number ∙ sym (alone (opened_number file ones twos)));
    byte_count = rw a.number a.byte_count;
    bytes = rw a.number a.bytes;
  }
