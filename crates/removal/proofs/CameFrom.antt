-- What came from which face: as many origins as faces of the result; what came from a face is what its pieces are, grouped; each face of the
-- result is a piece of the face whose number stands beside it; a face that is not folded is all that came from it. Assumes nothing.
use mathlib.Core.Path.{◌≡◌, refl, sym, ap, ap₂, ◌∙◌, subst}
use mathlib.Core.Bool.{Bool, true, false}
use mathlib.Core.List.Memᴰ
use mathlib.Core.List.{List, [], ◌∷◌, ◌++◌, append-nil, Memᴰ}
use Prim.Native.Nat.{ℕ, zero, suc, ◌+◌, ◌<◌}
use native.Mathlib.Nat.{add-zero, suc-add, add-suc, zero-add}
use native.Mathlib.Omega.{arith}
use lib.ListN.{length, get_or, replicate, length-replicate}
use lib.Dec.{eqb}
use borrow.Author.Tests.{eq-eqb, ne_eqb, le-leb, leb-true, leb-false}
use Rattle.lists.specs.Lists.{every, each, keep_if, span}
use Rattle.lists.specs.Same.{same_numbers}
use Rattle.lists.proofs.Bools.{by_cases, and_both, and_left, and_right, or_left, or_right}
use Rattle.lists.proofs.Same.{numbers_equal}
use Rattle.mesh.specs.Mesh.{Corner, Ring, position, faces}
use Rattle.mesh.proofs.Accepted.{accepted}
use Rattle.mesh.proofs.Faces.{length_rings}
use Rattle.splitting.specs.Splitting.{folded_by, is_piece}
use Rattle.splitting.proofs.Pieces.{pieces_vanish}
use Rattle.grouping.specs.Push.{pushed}
use Rattle.grouping.specs.Tags.{beside}
use Rattle.grouping.proofs.Pushed.{pushed_same}
use Rattle.grouping.proofs.Tags.{Along}
use Rattle.grouping.proofs.Beside.{beside_append}
use Rattle.folding.specs.Folding.{folded, pieces}
use Rattle.folding.proofs.Pieces.{pieces_same, pieces_sane}
use Rattle.removal.specs.Origins.{numbered, origins_of}
use Rattle.removal.specs.Folded.{removed}
use Rattle.removal.specs.Promises.{AsManyOrigins, face_at, WhatAFaceLeaves, origin_at, has_corner, EachHasItsOrigin, KeptUnchanged, KeptThere, OwnNumbers}
use Rattle.removal.proofs.Origins.{along_numbered, PieceOf, origins_hold, origins_count}
use Rattle.removal.proofs.Unfolded.{origins_same}
use Rattle.removal.proofs.Accepted.{fit}
use Rattle.removal.proofs.Testing.{along_at, pushed_from}

-- beside each piece, in the order the pieces come, stands the number of a face of which it is a piece
pub numbered_hold : (fs : List Ring) → Along (PieceOf fs) (each pieces fs) (numbered 0 fs)
numbered_hold fs =
    along_numbered 0 fs (λ k h p m. subst (PieceOf fs p) (sym (zero-add k)) (record { is_face = h; is_piece_is = m }))

pub as_many_origins : AsManyOrigins
unfolding removed
as_many_origins fs = origins_count fs

-- a ring has its own corners, and whoever stands in a list whose elements all pass a test passes it
has_own : (r l : Ring) → ((c : Corner) → has_corner l c ≡ true → has_corner r c ≡ true) → every (has_corner r) l ≡ true
has_own r [] h = refl
has_own r (x ∷ l) h =
    and_both (has_corner r x) (every (has_corner r) l)
    (h x (or_left (same_numbers x x) (has_corner l x) ((numbers_equal x x).1 refl)))
    (has_own r l (λ c e. h c (or_right (same_numbers c x) (has_corner l c) e)))

passes : (p : Ring → Bool) (x : Ring) (l : List Ring) → every p l ≡ true → Memᴰ x l → p x ≡ true
passes p x [] e x3 = elim x3 [ ]
passes p x (y ∷ l) e (Memᴰ.head i) = ap p i ∙ and_left (p y) (every p l) e
passes p x (y ∷ l) e (Memᴰ.tail m) = passes p x l (and_right (p y) (every p l) e) m

pub each_has_its_origin : EachHasItsOrigin
unfolding removed
each_has_its_origin fs k h =
    let o = along_at [] 0 k (origins_hold fs) h in
    let f = face_at fs (origin_at fs k) in
    record {
      is_face = o.is_face;
      is_piece_is = o.is_piece_is;
      corners =
          passes (every (has_corner f)) (get_or (removed fs) k []) (pieces f)
          ((pieces_sane f).corners (has_corner f) (has_own f f (λ c e. e))) o.is_piece_is;
    }

-- ---- what came from a face

module _ (q : ℕ → Bool) (n : ℕ) where
  all_of : (ps : List Ring) → q n ≡ true → beside q (replicate (length ps) n) ps ≡ ps
  all_of [] e = refl
  all_of (p ∷ ps) e = rw e (ap (λ (l : List Ring). p ∷ l) (all_of ps e))

  none_of : (ps : List Ring) → q n ≡ false → beside q (replicate (length ps) n) ps ≡ []
  none_of [] e = refl
  none_of (p ∷ ps) e = rw e (none_of ps e)

-- in front of the pieces of the other faces
pieces_front : (q : ℕ → Bool) (n : ℕ) (f : Ring) (fs : List Ring)
    → beside q (numbered n (f ∷ fs)) (each pieces (f ∷ fs))
    ≡ beside q (replicate (length (pieces f)) n) (pieces f) ++ beside q (numbered (suc n) fs) (each pieces fs)
unfolding numbered
pieces_front q n f fs =
    beside_append q (replicate (length (pieces f)) n) (numbered (suc n) fs) (pieces f) (each pieces fs) (sym (length-replicate (length (pieces f)) n))

from_none : (a n : ℕ) (fs : List Ring) → a < n → beside (eqb a) (numbered n fs) (each pieces fs) ≡ []
unfolding numbered
from_none a n [] h = refl
from_none a n (f ∷ fs) h =
    pieces_front (eqb a) n f fs
    ∙ ap₂ (λ (x y : List Ring). x ++ y)
    (none_of (eqb a) n (pieces f) (ne_eqb a n (λ e. omega arith)))
    (from_none a (suc n) fs (omega arith))

no_pieces : pieces [] ≡ []
unfolding pieces folded_by
no_pieces = pieces_vanish position [] refl (omega arith)

from_face : (n k : ℕ) (fs : List Ring) → beside (eqb (n + k)) (numbered n fs) (each pieces fs) ≡ pieces (face_at fs k)
unfolding numbered
from_face n k [] = sym no_pieces
from_face n zero (f ∷ fs) =
    pieces_front (eqb (n + 0)) n f fs
    ∙ ap₂ (λ (x y : List Ring). x ++ y)
    (all_of (eqb (n + 0)) n (pieces f) (eq-eqb (n + 0) n (add-zero n)))
    (from_none (n + 0) (suc n) fs (omega arith))
    ∙ append-nil (pieces f)
from_face n (suc k) (f ∷ fs) =
    pieces_front (eqb (n + suc k)) n f fs
    ∙ ap₂ (λ (x y : List Ring). x ++ y)
    (none_of (eqb (n + suc k)) n (pieces f) (ne_eqb (n + suc k) n (λ e. omega arith)))
    (ap (λ (a : ℕ). beside (eqb a) (numbered (suc n) fs) (each pieces fs)) (add-suc n k ∙ sym (suc-add n k)) ∙ from_face (suc n) k fs)

pub what_a_face_leaves : WhatAFaceLeaves
unfolding removed origins_of
what_a_face_leaves fs a =
    pushed_from (numbered_hold fs) (eqb a)
    ∙ ap pushed
    (ap (λ (b : ℕ). beside (eqb b) (numbered 0 fs) (each pieces fs)) (sym (zero-add a)) ∙ from_face 0 a fs)

-- ---- faces that are not folded

pub kept_unchanged : KeptUnchanged
kept_unchanged fs a e h =
    let f = face_at fs a in
    what_a_face_leaves fs a ∙ ap pushed (pieces_same f h e) ∙ pushed_same (f ∷ []) (rw (le-leb 3 (length f) h)) refl

-- one of fewer than three corners leaves nothing
too_small : (r : Ring) → folded r ≡ false → length r < 3 → pieces r ≡ []
unfolding pieces
too_small r e h = rw (ne_eqb (length r) 3 (λ x. omega arith), ne_eqb (length r) 4 (λ x. omega arith), pieces) (pieces_vanish position r e h)

-- the pieces of a face that is not folded
pub pieces_kept : (r : Ring) → folded r ≡ false → pieces r ≡ keep_if (is_piece r) r []
pieces_kept r e =
    by_cases (is_piece r)
    (λ b. rw b (pieces_same r (leb-true 3 (length r) b) e))
    (λ b. rw b (too_small r e (leb-false 3 (length r) b)))

itself : (r x : Ring) → folded r ≡ false → Memᴰ x (pieces r) → x ≡ r
itself r x e m =
    by_cases (is_piece r)
    (λ b. Memᴰ.eq_of_singleton (subst (Memᴰ x) (pieces_same r (leb-true 3 (length r) b) e) m))
    (λ b. absurd (Memᴰ.not-nil (subst (Memᴰ x) (too_small r e (leb-false 3 (length r) b)) m)))

pub kept_there : KeptThere
kept_there fs k h e = itself (face_at fs (origin_at fs k)) (get_or (removed fs) k []) e (each_has_its_origin fs k h).is_piece_is

-- ---- no face is folded

pub own_numbers : OwnNumbers
unfolding faces
own_numbers m z h =
    origins_same m.corners m.sizes (fit m z) (accepted m z).grouped h ∙ ap (span 0) (sym (length_rings m.sizes m.corners))
