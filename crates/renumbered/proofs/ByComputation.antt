-- Small covers by computation: what other numbers change in the wires, and why they have to be one-to-one. Assumes nothing.
use mathlib.Core.Path.{◌≡◌, refl}
use mathlib.Core.List.{List, [], ◌∷◌, map}
use Prim.Native.Nat.{ℕ}
use lib.ListN.{get_or}
use Rattle.edges.specs.Edges.{key, hems}
use Rattle.turning.specs.Turning.{turn_from, onward_in, onward, trail, trails_in, house_wires}
use Rattle.turning.proofs.ByComputation.{touching}

-- number i becomes the one at place i of the list
abbrev by : List ℕ → List (List ℕ) → List (List ℕ)
by l fs = map (map (λ i. get_or l i 0)) fs

-- the hem 1 2 3 becomes 4 0 1: it stands first, and begins at 0
pub other_numbers : house_wires (by (3 ∷ 4 ∷ 0 ∷ 1 ∷ 5 ∷ []) touching) ≡ (0 ∷ 1 ∷ 4 ∷ []) ∷ (3 ∷ 4 ∷ 5 ∷ []) ∷ []
unfolding house_wires trails_in trail onward onward_in turn_from hems key
other_numbers = refl

-- two faces that are apart, and two of their positions taken for one each: the two hems become one
abbrev separate : List (List ℕ)
separate = (0 ∷ 1 ∷ 2 ∷ []) ∷ (3 ∷ 4 ∷ 5 ∷ []) ∷ []

pub two_hems : house_wires separate ≡ separate
unfolding house_wires trails_in trail onward onward_in turn_from hems key
two_hems = refl

pub one_hem : house_wires (by (0 ∷ 1 ∷ 2 ∷ 1 ∷ 0 ∷ 5 ∷ []) separate) ≡ (0 ∷ 5 ∷ 1 ∷ 2 ∷ []) ∷ []
unfolding house_wires trails_in trail onward onward_in turn_from hems key
one_hem = refl
