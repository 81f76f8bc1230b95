-- What demand 3 comes to after removal, and what it does not say of it. Proved in proofs/. Assumes nothing.
use Rattle.std.specs.Prelude.{◌≡◌, false}
use Rattle.lists.specs.Lists.{some}
use Rattle.mesh.specs.Mesh.{Mesh, faces}
use Rattle.mesh.specs.Table.{mesh_number}
use Rattle.folding.specs.Folding.{folded}
use Rattle.removal.specs.Folded.{removed, unfolded_mesh}
use Rattle.order.specs.Same.{Same}
use Rattle.calls.specs.Order.{CallsAgree}

-- where no face is folded, all that is said of the calls holds of the calls after removal too
abbrev pub UnfoldedCallsAgree : Type 0
UnfoldedCallsAgree =
    (m n : Mesh) → mesh_number m ≡ 0 → mesh_number n ≡ 0 → Same (faces m) (faces n) → some folded (faces m) ≡ false
    → CallsAgree (unfolded_mesh m) (unfolded_mesh n)

-- it is not true that removal leaves the same faces of the same faces
abbrev pub CleaningNotKept : Type 0
CleaningNotKept =
    ((m n : Mesh) → mesh_number m ≡ 0 → mesh_number n ≡ 0 → Same (faces m) (faces n) → Same (removed (faces m)) (removed (faces n))) → ⊥
