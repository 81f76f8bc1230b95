-- What the calls of the C interface promise where it is not what the call itself promises, its answer taken apart (crate answers).
-- Assumes nothing.
use Rattle.std.specs.Prelude.{ℕ, ◌≡◌}
use Rattle.mesh.specs.Mesh.{Mesh}
use Rattle.mesh.specs.Table.{mesh_number, after}
use Rattle.edges.specs.Edges.{verdict}
use Rattle.edges.specs.Answers.{mesh_edges_of}
use Rattle.answers.specs.Answers.{verdict_number}

-- the verdict of a mesh: it is answered only with 0
pub record VerdictAnswer (m : Mesh) (before afterwards number : ℕ) : Type 0 where
  pub returned : number ≡ mesh_number m
  pub answered : afterwards ≡ after number (verdict_number (verdict (mesh_edges_of m))) before
