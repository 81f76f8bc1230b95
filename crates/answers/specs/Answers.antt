-- What the calls answer, in the terms that a program in C has: the number returned, and counts written to places that the caller
-- lends. Each definition makes a call's own answer of these. Assumes nothing.
use Rattle.std.specs.Prelude.{ℕ, ◌*◌, ◌≡◌, cond, ◌&&◌, length, take, drop, ltb, eqb}
use Rattle.mesh.specs.Limits.{width}
use Rattle.mesh.specs.Mesh.{Mesh}
use Rattle.mesh.specs.Table.{shape_number}
use Rattle.mesh.specs.Face.{offset_of, face_part}
use Rattle.faces.specs.Faces.{Pushed}
use Rattle.unused.specs.Compaction.{Compacted}
use Rattle.removal.specs.Folded.{Removed}
use Rattle.together.specs.declared.Merged.{Merged}
use Rattle.smoothing.specs.declared.Smoothed.{Smoothed}
use Rattle.edges.specs.Edges.{Verdict}
use Rattle.edges.specs.declared.HemEdges.{HemEdges}
use Rattle.tracing.specs.declared.Wires.{Wires}
use Rattle.panels.specs.declared.Answer.{Answer as Panels}
use Rattle.hemlist.specs.declared.Listed.{Listed}

-- where the part of face k starts in the list of corners: behind the numbers of each corner of the faces before it; 0 where
-- the part is empty
unfoldable pub start_of : Mesh → ℕ → ℕ
start_of m k = cond (ltb k (length m.sizes) && eqb (shape_number m) 0) (width * offset_of m.sizes k) 0

-- the part of a face, as its start and its length in the list of corners
pub record PartAnswer (m : Mesh) (k start len : ℕ) : Type 0 where
  pub part : take len (drop start m.corners) ≡ face_part m k
  pub begins : start ≡ start_of m k
  pub long : len ≡ length (face_part m k)

-- what the grouping of faces answers: the number returned, and the counts of corners and faces
abbrev pub pushed_by : ℕ → ℕ → ℕ → Pushed
pushed_by number c f = record { number = number; corners = c; faces = f }

-- what compaction answers: the number returned, and the counts of positions, texture points and normals
abbrev pub compacted_by : ℕ → ℕ → ℕ → ℕ → Compacted
compacted_by number p t n = record { number = number; positions = p; textures = t; normals = n }

-- what the removal of folded faces answers: the number returned, and the counts of corners and faces
abbrev pub removed_by : ℕ → ℕ → ℕ → Removed
removed_by number c f = record { number = number; corners = c; faces = f }

-- what merging answers: the number returned, and how many pairs were compared among positions, texture points and normals
abbrev pub merged_by : ℕ → ℕ → ℕ → ℕ → Merged
merged_by number p t n = record { number = number; positions = p; textures = t; normals = n }

-- what smoothing answers: the number returned, and the counts of positions, corners and faces
abbrev pub smoothed_by : ℕ → ℕ → ℕ → ℕ → Smoothed
smoothed_by number p c f = record { number = number; positions = p; corners = c; faces = f }

-- the verdicts by number, from the weakest to the strongest
unfoldable pub verdict_number : Verdict → ℕ
verdict_number Verdict.Irregular = 0
verdict_number Verdict.Regular = 1
verdict_number Verdict.Oriented = 2
verdict_number Verdict.Closed = 3

-- what hem edges answer: the number returned, and how many there are
abbrev pub hemmed_by : ℕ → ℕ → HemEdges
hemmed_by number n = record { number = number; count = n }

-- what wires of either kind answer: the number returned, and the counts of their positions and of the wires
abbrev pub wired_by : ℕ → ℕ → ℕ → Wires
wired_by number f w = record { number = number; flat = f; wires = w }

-- what panels answer: the number returned, and the counts of faces and of panels
abbrev pub panelled_by : ℕ → ℕ → ℕ → Panels
panelled_by number f p = record { number = number; faces = f; panels = p }

-- what the list of hems answers: the number returned, and how many hems there are
abbrev pub listed_by : ℕ → ℕ → Listed
listed_by number n = record { number = number; hems = n }
