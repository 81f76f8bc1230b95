-- Removing a second time changes nothing, whatever the mesh: no face that is left is folded, so each stays, and they are grouped.
-- Assumes nothing.
use mathlib.Core.Path.{◌≡◌, refl, ap, ◌∙◌}
use mathlib.Core.Bool.{true}
use mathlib.Core.List.{List, [], ◌∷◌, map}
use lib.ListN.{length}
use borrow.Author.Tests.{leb-true, not-true}
use Rattle.lists.specs.Lists.{every, each, joined}
use Rattle.lists.proofs.Bools.{and_left, and_right}
use Rattle.mesh.specs.Mesh.{Mesh, mesh_of, Ring, faces}
use Rattle.grouping.specs.Push.{pushed}
use Rattle.grouping.proofs.Pushed.{pushed_same, pushed_grouped}
use Rattle.folding.specs.Folding.{folded, pieces}
use Rattle.folding.proofs.Pieces.{is_unfolded, is_face, pieces_same}
use Rattle.removal.specs.Folded.{removed, unfolded_mesh}
use Rattle.removal.proofs.Result.{removed_unfolded, removed_faces}
use Rattle.removal.proofs.Accepted.{faces_unfolded}

pieces_stay : (fs : List Ring) → every is_face fs ≡ true → every is_unfolded fs ≡ true → each pieces fs ≡ fs
pieces_stay [] e h = refl
pieces_stay (r ∷ fs) e h =
    rw
    (pieces_same r (leb-true 3 (length r) (and_left (is_face r) (every is_face fs) e))
    (not-true (folded r) (and_left (is_unfolded r) (every is_unfolded fs) h)))
    (ap (λ (l : List Ring). r ∷ l) (pieces_stay fs (and_right (is_face r) (every is_face fs) e) (and_right (is_unfolded r) (every is_unfolded fs) h)))

pub removed_again : (fs : List Ring) → removed (removed fs) ≡ removed fs
unfolding removed
removed_again fs =
    ap pushed (pieces_stay (removed fs) (removed_faces fs) (removed_unfolded fs))
    ∙ pushed_same (removed fs) (removed_faces fs) (pushed_grouped (each pieces fs))

pub unfolded_again : (m : Mesh) → unfolded_mesh (unfolded_mesh m) ≡ unfolded_mesh m
unfolding unfolded_mesh
unfolded_again m =
    ap (λ (fs : List Ring). mesh_of m.positions m.textures m.normals (each joined fs) (map length fs))
    (ap removed (faces_unfolded m) ∙ removed_again (faces m))
