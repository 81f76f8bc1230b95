-- What is left of some edges, and wires that follow them, as document 01 has it for ported wires: take the smallest start left, follow and
-- remove. Assumes nothing.
use Rattle.std.specs.Prelude.{true, false, cond, List, [], ◌∷◌, ℕ, zero, suc, min, eqb}
use Rattle.std.proofs.Math.Option.{Option, none, some}
use Rattle.edges.specs.Edges.{Edge, same}

abbrev pub lesser : ℕ → Option ℕ → Option ℕ
lesser n none = some n
lesser n (some m) = some (min n m)

-- the smallest start of the edges
abbrev pub least_start_lem : List Edge → Option ℕ
least_start_lem [] = none
least_start_lem (e ∷ h) = lesser e.0 (least_start_lem h)

-- the edges without d, which is used now
abbrev pub without : Edge → List Edge → List Edge
without d [] = []
without d (e ∷ h) = cond (same d e) h (e ∷ without d h)

-- a walk: the positions passed, and the edges that are left unused
abbrev pub Walk : Type 0
Walk = List ℕ × List Edge

abbrev pub longer : ℕ → Walk → Walk
longer c w = (c ∷ w.0, w.1)

-- the entry with the start s
abbrev pub entry : ℕ → List Edge → Option Edge
entry s [] = none
entry s (e ∷ t) = cond (eqb s e.0) (some e) (entry s t)

-- from c on, follow and remove until the start f is met again or no entry is found; there the wire ends. The first argument
-- bounds the steps: one more than the number of entries is enough.
unfoldable pub follow : ℕ → ℕ → ℕ → List Edge → Walk
follow zero f c t = ([], t)
follow (suc n) f c t =
    elim (entry c t) [
      | none ↦ (c ∷ [], t)
      | some e ↦ elim (eqb f e.1) [ true ↦ (c ∷ [], without e t) | false ↦ longer c (follow n f e.1 (without e t)) ]
    ]

-- take the smallest start left, follow, and repeat
unfoldable pub traces_in : ℕ → ℕ → List Edge → List (List ℕ)
traces_in zero m t = []
traces_in (suc n) m t =
    elim (least_start_lem t) [ none ↦ [] | some s ↦ let w : Walk = follow m s s t in w.0 ∷ traces_in n m w.1 ]
