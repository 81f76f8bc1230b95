-- The origins are as many as the faces of the result, each is the number of a face, and the face beside it is one of that face's
-- pieces; by the sizes alone they are what `push_tags` writes. Assumes nothing.
use mathlib.Core.Path.{◌≡◌, refl, sym, ap, ◌∙◌, subst}
use mathlib.Core.List.{List, [], ◌∷◌, ◌++◌, map, append_assoc, Memᴰ}
use Prim.Native.Nat.{ℕ, suc, ◌+◌, ◌≤◌, ◌<◌}
use native.Mathlib.Nat.{add-zero, suc-add, add-suc, zero-add}
use native.Mathlib.Omega.{arith}
use lib.ListN.{length, get_or, replicate}
use Rattle.lists.specs.Lists.{each}
use Rattle.mesh.specs.Mesh.{Ring}
use Rattle.grouping.specs.Push.{pushed}
use Rattle.grouping.specs.Tags.{pushed_tags}
use Rattle.grouping.proofs.Tags.{Along, none, more, along_length, along_append, along_pushed, tags_by_size}
use Rattle.folding.specs.Folding.{pieces}
use Rattle.removal.specs.Origins.{numbered, origins_of}

-- one number beside each of the pieces of a face
along_same : {Q : Ring → ℕ → Type 0} (n : ℕ) (ps : List Ring) → ((p : Ring) → Memᴰ p ps → Q p n) → Along Q ps (replicate (length ps) n)
along_same n [] f = none
along_same n (p ∷ ps) f = more (f p (Memᴰ.head refl)) (along_same n ps (λ q m. f q (Memᴰ.tail m)))

-- what holds of the pieces of each face with its number holds all along
pub along_numbered : {Q : Ring → ℕ → Type 0} (a : ℕ) (fs : List Ring)
    → ((k : ℕ) → k < length fs → (p : Ring) → Memᴰ p (pieces (get_or fs k [])) → Q p (a + k)) → Along Q (each pieces fs) (numbered a fs)
unfolding numbered
along_numbered a [] f = none
along_numbered {Q = Q} a (g ∷ fs) f =
    along_append
    (along_same a (pieces g) (λ p m. subst (Q p) (add-zero a) (f 0 (omega arith) p m)))
    (along_numbered (suc a) fs (λ k h p m. subst (Q p) (add-suc a k ∙ sym (suc-add a k)) (f (suc k) (let l : k < length fs = h in omega arith) p m)))

-- p is a piece of face i
pub record PieceOf (fs : List Ring) (p : Ring) (i : ℕ) : Type 0 where
  pub is_face : i < length fs
  pub is_piece_is : Memᴰ p (pieces (get_or fs i []))

-- each face of the result is a piece of the face whose number stands beside it
pub origins_hold : (fs : List Ring) → Along (PieceOf fs) (pushed (each pieces fs)) (origins_of fs)
unfolding origins_of
origins_hold fs =
    along_pushed
    (along_numbered 0 fs
    (λ k h p m. subst (PieceOf fs p) (sym (zero-add k)) (record { is_face = h; is_piece_is = m })))

-- as many as faces
pub origins_count : (fs : List Ring) → length (origins_of fs) ≡ length (pushed (each pieces fs))
origins_count fs = along_length (origins_hold fs)

pub numbered_count : (a : ℕ) (fs : List Ring) → length (numbered a fs) ≡ length (each pieces fs)
numbered_count a fs = along_length (along_numbered {Q = λ p i. a ≤ i} a fs (λ k h p m. omega arith))

-- by the sizes of the pieces alone
pub origins_by_size : (fs : List Ring) → origins_of fs ≡ pushed_tags (map length (each pieces fs)) (numbered 0 fs)
unfolding origins_of
origins_by_size fs = tags_by_size (each pieces fs) (numbered 0 fs)

-- the faces one by one: what those before have, and behind it the next one's
pub numbered_append : (a : ℕ) (fs gs : List Ring) → numbered a (fs ++ gs) ≡ numbered a fs ++ numbered (a + length fs) gs
unfolding numbered
numbered_append a [] gs = ap (λ (n : ℕ). numbered n gs) (sym (add-zero a))
numbered_append a (f ∷ fs) gs =
    ap (λ (l : List ℕ). replicate (length (pieces f)) a ++ l)
    (numbered_append (suc a) fs gs ∙ ap (λ (n : ℕ). numbered (suc a) fs ++ numbered n gs) (suc-add a (length fs) ∙ sym (add-suc a (length fs))))
    ∙ sym (append_assoc (replicate (length (pieces f)) a) (numbered (suc a) fs) (numbered (a + suc (length fs)) gs))
