-- Laws of the removal: no face of the result is folded, each has three corners or more, each corner is a corner of the input, and there
-- are no more corners than were given. Assumes nothing.
use mathlib.Core.Path.{◌≡◌, refl, ◌∙◌}
use mathlib.Core.Bool.{Bool, true}
use mathlib.Core.List.{List, [], ◌∷◌}
use Prim.Native.Nat.{ℕ, ◌*◌, ◌≤◌}
use native.Mathlib.Omega.{arith}
use lib.ListN.{length}
use lib.Dec.{leb}
use borrow.Author.Tests.{leb-true, le-leb}
use Rattle.lists.specs.Lists.{every, each}
use Rattle.lists.proofs.Bools.{and_both, and_left, and_right}
use Rattle.lists.proofs.Parts.{every_append}
use Rattle.mesh.specs.Mesh.{Corner, Ring}
use Rattle.grouping.specs.Push.{corner_count}
use Rattle.grouping.proofs.Placing.{count_append}
use Rattle.grouping.proofs.Pushed.{every_pushed, pushed_corners}
use Rattle.folding.specs.Folding.{pieces}
use Rattle.folding.proofs.Pieces.{is_unfolded, is_face, pieces_sane}
use Rattle.splitting.proofs.Pieces.{third}
use Rattle.removal.specs.Folded.{removed}
use Rattle.removal.specs.Promises.{NoneFolded, NoMoreCorners}

-- what every piece of each face passes, every piece passes
pub every_pieces : (q : Ring → Bool) (fs : List Ring) → ((r : Ring) → every q (pieces r) ≡ true) → every q (each pieces fs) ≡ true
every_pieces q [] h = refl
every_pieces q (r ∷ fs) h =
    every_append q (pieces r) (each pieces fs)
    ∙ and_both (every q (pieces r)) (every q (each pieces fs)) (h r) (every_pieces q fs h)

-- what each corner of the faces passes, each corner of their pieces passes
pub corners_pieces : (p : Corner → Bool) (fs : List Ring) → every (every p) fs ≡ true → every (every p) (each pieces fs) ≡ true
corners_pieces p [] e = refl
corners_pieces p (r ∷ fs) e =
    every_append (every p) (pieces r) (each pieces fs)
    ∙ and_both (every (every p) (pieces r)) (every (every p) (each pieces fs))
    ((pieces_sane r).corners p (and_left (every p r) (every (every p) fs) e))
    (corners_pieces p fs (and_right (every p r) (every (every p) fs) e))

pub count_pieces : (fs : List Ring) → corner_count (each pieces fs) ≤ corner_count fs
count_pieces [] = omega arith
count_pieces (r ∷ fs) =
    omega (arith, count_append (pieces r) (each pieces fs), (pieces_sane r).fewer, count_pieces fs)

-- no piece is larger than its face
sizes_within : (n : ℕ) (ps : List Ring) → corner_count ps ≤ n → every (λ (p : Ring). leb (length p) n) ps ≡ true
sizes_within n [] h = refl
sizes_within n (p ∷ ps) h =
    and_both (leb (length p) n) (every (λ (x : Ring). leb (length x) n) ps)
    (le-leb (length p) n (omega arith))
    (sizes_within n ps (omega arith))

pub sizes_pieces : (n : ℕ) (fs : List Ring) → every (λ (r : Ring). leb (length r) n) fs ≡ true → every (λ (r : Ring). leb (length r) n) (each pieces fs) ≡ true
sizes_pieces n [] e = refl
sizes_pieces n (r ∷ fs) e =
    let small : Ring → Bool = λ x. leb (length x) n in
    let h : length r ≤ n = leb-true (length r) n (and_left (small r) (every small fs) e) in
    every_append small (pieces r) (each pieces fs)
    ∙ and_both (every small (pieces r)) (every small (each pieces fs))
    (sizes_within n (pieces r) (omega (arith, (pieces_sane r).fewer)))
    (sizes_pieces n fs (and_right (small r) (every small fs) e))

-- ---- the result

-- no face of the result is folded
pub removed_unfolded : NoneFolded
unfolding removed
removed_unfolded fs = every_pushed is_unfolded (each pieces fs) (every_pieces is_unfolded fs (λ r. (pieces_sane r).unfolded))

-- every face of it has three corners or more
pub removed_faces : (fs : List Ring) → every is_face (removed fs) ≡ true
unfolding removed
removed_faces fs = every_pushed is_face (each pieces fs) (every_pieces is_face fs (λ r. (pieces_sane r).faces))

-- its corners are corners of the given faces: whatever each of those passes, each of these passes
pub removed_corners : (p : Corner → Bool) (fs : List Ring) → every (every p) fs ≡ true → every (every p) (removed fs) ≡ true
unfolding removed
removed_corners p fs e = every_pushed (every p) (each pieces fs) (corners_pieces p fs e)

-- it has no more corners than were given, and no more faces than a third of its corners
pub removed_count : NoMoreCorners
unfolding removed
removed_count fs = omega (arith, pushed_corners (each pieces fs), count_pieces fs)

pub removed_length : (fs : List Ring) → 3 * length (removed fs) ≤ corner_count (removed fs)
removed_length fs = third (removed fs) (removed_faces fs)
