-- What the wires are given where the verdict allows them, and what is answered then. Assumes nothing.
use mathlib.Core.Path.{◌≡◌, refl, sym}
use mathlib.Core.Logic.{inl, inr}
use mathlib.Core.Bool.{true}
use mathlib.Core.List.{List, map}
use Rattle.lists.proofs.Bools.{true_false}
use Rattle.mesh.specs.Mesh.{Ring, position}
use Rattle.edges.specs.Edges.{edges_of, Verdict, Irregular, Regular, Oriented, Closed, verdict}
use Rattle.turning.specs.Promise.{Fit, HemsTurn}
use Rattle.turning.proofs.Promised.{hems_turn}
use Rattle.house.specs.Answers.{wired}

-- ---- the verdict

pub fit_of : (v : Verdict) → wired v ≡ true → Fit v
fit_of Irregular q = true_false (sym q)
fit_of Regular q = true_false (sym q)
fit_of Oriented q = inl refl
fit_of Closed q = inr refl

-- what the house wires of faces come to
pub house_turns : (fs : List Ring) → wired (verdict (edges_of fs)) ≡ true → HemsTurn (map (map position) fs)
house_turns fs q = hems_turn (map (map position) fs) (fit_of (verdict (edges_of fs)) q)
