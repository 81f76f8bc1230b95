-- A file drawn straight into lists of the caller's own. Assumes nothing.
use Rattle.std.specs.Prelude.{ℕ, ◌≡◌, List, []}
use Rattle.mesh.specs.Mesh.{Mesh}
use Rattle.reading.specs.declared.MeshRead.{MeshRead}
use Rattle.reading.specs.Reading.{reading_number, panel_mesh}
use Rattle.reading.specs.Answer.{refused_with, Handed}

-- what is answered, and what the lists hold: on 0 the file's mesh from their beginning on, and its counts. The coordinates were drawn where
-- they stand, so that handed over to what the lists hold they are what the lists hold. On any other number each count is 0
pub record FileDrawn (file : List ℕ) (before afterwards : Mesh) (answer : MeshRead) : Type 0 where
  pub number : answer.number ≡ reading_number [] file
  pub handed : answer.number ≡ 0 → Handed (panel_mesh file) before afterwards answer
  pub counts : (answer.number ≡ 0 → ⊥) → answer ≡ refused_with answer.number
