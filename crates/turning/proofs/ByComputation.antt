-- Small covers and their hems, by computation, and what the verdict is asked for. Assumes nothing.
use mathlib.Core.Path.{◌≡◌, refl, sym, ap, ◌∙◌}
use mathlib.Core.List.{List, [], ◌∷◌}
use Prim.Native.Nat.{ℕ, zero, suc, ◌+◌, ◌<◌}
use native.Mathlib.Omega.{arith}
use lib.ListN.{length, get_or}
use Rattle.edges.specs.Edges.{Edge, key, mesh_edges, verdict, Regular, Oriented, Closed, hems}
use Rattle.lists.specs.Numbers.{next_of}
use Rattle.turning.specs.Rows.{edge_at, begin_of, Rows, place_from}
use Rattle.turning.specs.Turning.{turn_from, onward_in, onward, trail, trails_in, house_wires}

-- the request's own example, two faces that touch at position 1: two hems, where document 01's rule, the smallest end, gave 0 1 2 3 1 4
abbrev pub touching : List (List ℕ)
touching = (0 ∷ 1 ∷ 4 ∷ []) ∷ (1 ∷ 2 ∷ 3 ∷ []) ∷ []

pub two_hems : house_wires touching ≡ (0 ∷ 1 ∷ 4 ∷ []) ∷ (1 ∷ 2 ∷ 3 ∷ []) ∷ []
unfolding house_wires trails_in trail onward onward_in turn_from hems key
two_hems = refl

-- two openings of one cloth that touch at position 0 run as one hem, since the cloth between them is turned through; document 01's rule
-- gave 0 1 4 and 0 3 2
abbrev pub bridged : List (List ℕ)
bridged = (0 ∷ 1 ∷ 2 ∷ []) ∷ (0 ∷ 3 ∷ 4 ∷ []) ∷ (2 ∷ 1 ∷ 4 ∷ 3 ∷ []) ∷ []

pub passed_twice : house_wires bridged ≡ (0 ∷ 1 ∷ 4 ∷ 0 ∷ 3 ∷ 2 ∷ []) ∷ []
unfolding house_wires trails_in trail onward onward_in turn_from hems key
passed_twice = refl

-- by places: from the hem edge (0, 1), at place 0, its face's next edge is (1, 2), at place 1; its twin stands at place 6, and behind that
-- the hem edge (1, 4), at place 7
pub crossed_once : place_from (1 ∷ 2 ∷ 0 ∷ 4 ∷ 5 ∷ 3 ∷ 7 ∷ 8 ∷ 9 ∷ 6 ∷ []) (0 ∷ 6 ∷ 2 ∷ 3 ∷ 8 ∷ 5 ∷ 1 ∷ 7 ∷ 4 ∷ 9 ∷ []) 10 1 ≡ 7
unfolding place_from
crossed_once = refl

-- a wire begins at the smallest start, and not with the hem edge that is listed first, by its lower position: here (1, 0)
abbrev pub other_way : List (List ℕ)
other_way = (0 ∷ 2 ∷ 1 ∷ []) ∷ []

pub begins_at_start : house_wires other_way ≡ (0 ∷ 2 ∷ 1 ∷ []) ∷ []
unfolding house_wires trails_in trail onward onward_in turn_from hems key
begins_at_start = refl

-- a face with an edge from a position to itself: that edge is the hem
abbrev pub pinched : List (List ℕ)
pinched = (0 ∷ 0 ∷ 1 ∷ []) ∷ []

pub alone : house_wires pinched ≡ (0 ∷ []) ∷ []
unfolding house_wires trails_in trail onward onward_in turn_from hems key
alone = refl

-- a closed cover has none
abbrev pub closed : List (List ℕ)
closed = (0 ∷ 1 ∷ 2 ∷ []) ∷ (0 ∷ 2 ∷ 3 ∷ []) ∷ (0 ∷ 3 ∷ 1 ∷ []) ∷ (1 ∷ 3 ∷ 2 ∷ []) ∷ []

pub no_hems : house_wires closed ≡ []
unfolding house_wires trails_in trail onward onward_in turn_from hems key
no_hems = refl

pub their_verdicts :
    (verdict (mesh_edges touching) ≡ Oriented) × (verdict (mesh_edges bridged) ≡ Oriented) × (verdict (mesh_edges pinched) ≡ Oriented)
    × (verdict (mesh_edges closed) ≡ Closed)
unfolding verdict key
their_verdicts = (refl, refl, refl, refl)

-- where an edge is used twice in one direction, there is no face to cross to, and two hem edges lead to one
abbrev pub regular : List (List ℕ)
regular = (0 ∷ 1 ∷ 2 ∷ []) ∷ (0 ∷ 1 ∷ 3 ∷ []) ∷ []

pub not_one_to_one : (verdict (mesh_edges regular) ≡ Regular) × (onward regular (2, 0) ≡ onward regular (3, 0))
unfolding verdict onward onward_in turn_from hems key
not_one_to_one = (refl, refl)

next_0 : next_of 0 3 ≡ 1
unfolding next_of
next_0 = refl

next_1 : next_of 1 3 ≡ 2
unfolding next_of
next_1 = refl

next_2 : next_of 2 3 ≡ 0
unfolding next_of
next_2 = refl

their_keys : (key (0, 0) ≡ (0, 0)) × (key (0, 1) ≡ (0, 1)) × (key (1, 0) ≡ (0, 1))
unfolding key
their_keys = (refl, refl, refl)

-- rows for the pinched face: its self-edge has no twin, and its two other edges have each other
pub pinched_rows : Rows pinched (1 ∷ 2 ∷ 0 ∷ []) (0 ∷ 2 ∷ 1 ∷ [])
pinched_rows = record { next_is = next; twin_below = below; twin_key = keys; twin_alone = apart }
  where
    next :
        (j i : ℕ) → i < length (get_or pinched j [])
        → get_or (1 ∷ 2 ∷ 0 ∷ []) (begin_of pinched j + i) 0 ≡ begin_of pinched j + next_of i (length (get_or pinched j []))
    next zero zero l = rw next_0
    next zero (suc zero) l = rw next_1
    next zero (suc (suc zero)) l = rw next_2
    next zero (suc (suc (suc i))) l = absurd (omega arith)
    next (suc j) i l = absurd (omega arith)

    below : (u : ℕ) → u < 3 → get_or (0 ∷ 2 ∷ 1 ∷ []) u 0 < 3
    below zero l = omega arith
    below (suc zero) l = omega arith
    below (suc (suc zero)) l = omega arith
    below (suc (suc (suc u))) l = absurd (omega arith)

    keys : (u : ℕ) → u < 3 → key (edge_at pinched u) ≡ key (edge_at pinched (get_or (0 ∷ 2 ∷ 1 ∷ []) u 0))
    keys zero l = refl
    keys (suc zero) l = their_keys.1 ∙ sym their_keys.2
    keys (suc (suc zero)) l = their_keys.2 ∙ sym their_keys.1
    keys (suc (suc (suc u))) l = absurd (omega arith)

    apart :
        (u v : ℕ) → u < 3 → v < 3 → (v ≡ u → ⊥) → key (edge_at pinched u) ≡ key (edge_at pinched v) → get_or (0 ∷ 2 ∷ 1 ∷ []) u 0 ≡ u → ⊥
    apart zero zero l h n k e = n refl
    apart zero (suc zero) l h n k e = let z : ◌≡◌ {A = ℕ} 0 1 = ap (λ (d : Edge). d.1) (sym their_keys.0 ∙ k ∙ their_keys.1) in omega arith
    apart zero (suc (suc zero)) l h n k e = let z : ◌≡◌ {A = ℕ} 0 1 = ap (λ (d : Edge). d.1) (sym their_keys.0 ∙ k ∙ their_keys.2) in omega arith
    apart zero (suc (suc (suc v))) l h n k e = absurd (omega arith)
    apart (suc zero) v l h n k e = let z : ◌≡◌ {A = ℕ} 2 1 = e in omega arith
    apart (suc (suc zero)) v l h n k e = let z : ◌≡◌ {A = ℕ} 1 2 = e in omega arith
    apart (suc (suc (suc u))) v l h n k e = absurd (omega arith)
