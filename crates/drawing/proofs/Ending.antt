-- The number at the end, of the progress that the code keeps. Assumes nothing.
use mathlib.Core.Path.{◌≡◌, sym, ◌∙◌}
use mathlib.Core.Bool.{true, false}
use mathlib.Core.List.{List}
use Prim.Native.Nat.{ℕ, ◌≤◌, ◌<◌}
use lib.ListN.{length}
use Rattle.mesh.specs.Mesh.{Mesh}
use Rattle.steps.specs.declared.Progress.{Progress}
use Rattle.reading.specs.Reading.{read_all, finish}
use Rattle.reading.proofs.Ending as rows
use Rattle.drawing.specs.Working.{Drawing}

module _ (file : List ℕ) (x : Progress) (l : Mesh) (d : Drawing file x l) where
  pub end_refused : (x.number ≡ 0 → ⊥) → x.number ≡ finish file (read_all file)
  end_refused h = rows.end_refused file (read_all file) x.number h (sym d.holds.refusal)

  pub end_follows : x.number ≡ 0 → x.at < length file → 13 ≡ finish file (read_all file)
  end_follows h l = rows.end_follows file (read_all file) (sym d.holds.refusal ∙ h) (rw d.holds.place at l)

  pub end_astray : x.number ≡ 0 → length file ≤ x.at → rows.strays file (read_all file) ≡ true → 5 ≡ finish file (read_all file)
  end_astray h l e = rows.end_astray file (read_all file) (sym d.holds.refusal ∙ h) (rw d.holds.place at l) e

  pub end_well : x.number ≡ 0 → length file ≤ x.at → rows.strays file (read_all file) ≡ false → 0 ≡ finish file (read_all file)
  end_well h l e = rows.end_well file (read_all file) (sym d.holds.refusal ∙ h) (rw d.holds.place at l) e
