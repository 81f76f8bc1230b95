-- Ported wires, as document 01 has them: a map from start to end, and wires that follow it. Assumes nothing.
use Rattle.std.specs.Prelude.{cond, List, [], ◌∷◌, ℕ, suc, ltb, eqb, length}
use Rattle.edges.specs.Edges.{Edge}
use Rattle.tracing.specs.Following.{traces_in}

-- a map from start to end is a list of edges in ascending order of start; a later one replaces an earlier with the same start
abbrev pub put : Edge → List Edge → List Edge
put d [] = d ∷ []
put d (e ∷ t) = cond (ltb d.0 e.0) (d ∷ e ∷ t) (cond (eqb d.0 e.0) (d ∷ t) (e ∷ put d t))

abbrev pub fill : List Edge → List Edge → List Edge
fill t [] = t
fill t (e ∷ h) = fill (put e t) h

-- hem edges in ascending order (lower, higher) fill the map; take the smallest start left, follow and remove, and repeat
unfoldable pub ported_wires : List Edge → List (List ℕ)
ported_wires h = traces_in (length h) (suc (length h)) (fill [] h)
