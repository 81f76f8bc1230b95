-- What a sheet says of a mesh (added), as document 01, 'The panel file and the sheet', has it. Its lines stand in lines' specs/Lines.antt.
-- Assumes nothing.
use Rattle.std.specs.Prelude.{ℕ, cond, false, List, length}
use Rattle.std.proofs.Math.Option.{none, some}
use Rattle.mesh.specs.Mesh.{Mesh, Ring, faces, position_count, texture_count, normal_count}
use Rattle.edges.specs.Edges.{edges_of, verdict}
use Rattle.turning.specs.Turning.{house_wires_of}
use Rattle.house.specs.Answers.{wired}
use Rattle.panels.specs.Panels.{panels}
use Rattle.lines.specs.Lines.{Found}

-- positions, texture points, normals, faces; the verdict; panels without the normals setting; the house wires, where the verdict allows
-- them: by the four counts, and by the faces themselves
unfoldable pub found_of : ℕ → ℕ → ℕ → ℕ → List Ring → Found
found_of p t n f fs = record {
  positions = p;
  textures = t;
  normals = n;
  faces = f;
  verdict = verdict (edges_of fs);
  panels = length (panels false fs);
  wires = cond (wired (verdict (edges_of fs))) (some (house_wires_of fs)) none;
}

-- so in a mesh
unfoldable pub found_in : Mesh → Found
found_in m = found_of (position_count m) (texture_count m) (normal_count m) (length m.sizes) (faces m)
