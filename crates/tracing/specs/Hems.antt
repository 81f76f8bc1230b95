-- Hem edges as two lists, starts and ends, and what the wires along them are given and give. Assumes nothing.
use Rattle.std.specs.Prelude.{◌≡◌, List, [], ◌∷◌, map, ℕ, ◌≤◌, ◌<◌, eqb, length, get_or}
use Rattle.std.proofs.lemmas.List.Edits.{sets}
use Rattle.lists.specs.Lists.{count, joined}
use Rattle.mesh.specs.Limits.{corner_limit}
use Rattle.edges.specs.Edges.{Edge}

-- the edges from each start to its end
abbrev pub pairs : List ℕ → List ℕ → List Edge
pairs [] es = []
pairs (s ∷ ss) [] = []
pairs (s ∷ ss) (e ∷ es) = (s, e) ∷ pairs ss es

-- as many starts as ends, few enough, and each of them a position below n
pub record EdgeLists (starts ends : List ℕ) (n : ℕ) : Type 0 where
  pub paired : length starts ≡ length ends
  pub few : length starts ≤ corner_limit
  pub from : (k : ℕ) → k < length starts → get_or starts k 0 < n
  pub into : (k : ℕ) → k < length starts → get_or ends k 0 < n

-- how many edges start at v
abbrev pub outs : ℕ → List Edge → ℕ
outs v h = count (λ e. eqb v e.0) h

-- wires as a flat list and a list of lengths, with how many numbers and how many wires there are
pub record Written (ws : List (List ℕ)) (flat lengths flat' lengths' : List ℕ) (numbers wires : ℕ) : Type 0 where
  pub flat_is : flat' ≡ sets flat 0 (joined ws)
  pub lengths_is : lengths' ≡ sets lengths 0 (map length ws)
  pub numbers_is : numbers ≡ length (joined ws)
  pub wires_is : wires ≡ length ws
