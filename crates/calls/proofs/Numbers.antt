-- The numbers of the calls on accepted meshes: 0 where there is room, and with the same faces and the same room one number.
-- Assumes nothing.
use mathlib.Core.Path.{◌≡◌, ◌∙◌}
use mathlib.Core.List.{[], ◌∷◌}
use Prim.Native.Nat.{ℕ, ◌*◌, ◌/◌, ◌≤◌}
use lib.ListN.{length}
use Rattle.mesh.specs.Limits.{width}
use Rattle.mesh.specs.Mesh.{Mesh}
use Rattle.mesh.specs.Table.{mesh_number, when, first_of, lent, short}
use Rattle.mesh.proofs.After.{two_roomy}
use Rattle.mesh.proofs.Numbers.{first_on, row_passed}
use Rattle.edges.specs.Answers.{hem_number}
use Rattle.house.specs.Answers.{unwired, house_number}
use Rattle.ported.specs.Answers.{ported_number}
use Rattle.panels.specs.Contract.{components_number}
use Rattle.calls.specs.Order.{SameNumbers}

-- two lists are lent, and each has its room
pub roomy_zero :
    (k a b c d : ℕ) → k ≡ 0 → b ≤ a → d ≤ c → first_of (k ∷ when (short (lent a b ∷ lent c d ∷ [])) 9 ∷ []) ≡ 0
roomy_zero k a b c d z g h =
    first_on k (when (short (lent a b ∷ lent c d ∷ [])) 9 ∷ []) z
    ∙ row_passed (short (lent a b ∷ lent c d ∷ [])) 8 [] (two_roomy a b c d g h)

-- the rows go by the mesh's own number, by how many corners there are, and by the verdict
pub numbers_agree :
    (m n : Mesh) → mesh_number m ≡ mesh_number n → length m.corners ≡ length n.corners → unwired m ≡ unwired n → SameNumbers m n
unfolding hem_number ported_number house_number components_number
numbers_agree m n k c u = record {
  hem_number_is = λ x y i. first_of (k i ∷ when (short (lent x (c i / width) ∷ lent y (c i / width) ∷ [])) 9 ∷ []);
  ported_number_is = λ x y i. first_of (k i ∷ when (short (lent x (2 * (c i / width)) ∷ lent y (c i / width) ∷ [])) 9 ∷ []);
  house_number_is = λ x y i. first_of (k i ∷ when (short (lent x (c i / width) ∷ lent y (c i / width) ∷ [])) 9 ∷ when (u i) 10 ∷ []);
  panels_number = λ x y i. first_of (k i ∷ when (short (lent x (c i / width) ∷ lent y (c i / width) ∷ [])) 9 ∷ []);
}
