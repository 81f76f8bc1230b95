-- What the two kinds of wires have in common. Proved in proofs/. Assumes nothing.
use Rattle.std.specs.Prelude.{◌≡◌, List, ℕ, ◌≤◌}
use Rattle.edges.specs.Edges.{Edge, mesh_edges, verdict, hems}
use Rattle.tracing.specs.Hems.{outs}
use Rattle.ported.specs.Ported.{ported_wires}
use Rattle.turning.specs.Turning.{house_wires}
use Rattle.turning.specs.Promise.{Fit}

-- no two edges start at one position
abbrev pub OneEach : List Edge → Type 0
OneEach h = (s : ℕ) → outs s h ≤ 1

-- where no two hem edges start at one position, so that no openings touch, ported and house wires are the same
abbrev pub PortedIsHouse : Type 0
PortedIsHouse =
    (fs : List (List ℕ)) → Fit (verdict (mesh_edges fs)) → OneEach (hems (mesh_edges fs)) → ported_wires (hems (mesh_edges fs)) ≡ house_wires fs
