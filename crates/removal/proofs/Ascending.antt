-- The order of the origins: within a group they do not fall, and those of the faces that are not folded are their numbers in ascending
-- order, each once. Assumes nothing.
use mathlib.Core.Path.{◌≡◌, refl, sym, ap, ap₂, ◌∙◌}
use mathlib.Core.Bool.{Bool, true, false, not, ◌&&◌}
use mathlib.Core.List.{List, [], ◌∷◌, ◌++◌}
use Prim.Native.Nat.{ℕ, zero, suc, ◌+◌, ◌≤◌, ◌<◌}
use native.Mathlib.Nat.{add-zero, suc-add, add-suc, zero-add}
use native.Mathlib.Omega.{arith}
use lib.ListN.{length, get_or, replicate, length-replicate}
use lib.Dec.{ltb}
use borrow.Author.Tests.{ne_eqb, lt-leb, leb-false, le-ltb}
use Rattle.lists.specs.Lists.{each, span, only, keep_if}
use Rattle.lists.proofs.Bools.{by_cases, or_neither, or_false_right}
use Rattle.lists.proofs.Only.{only_append}
use Rattle.mesh.specs.Mesh.{Ring}
use Rattle.mesh.specs.Table.{falls}
use Rattle.splitting.specs.Splitting.{is_piece}
use Rattle.grouping.specs.Push.{of_kind, size_of_kind}
use Rattle.grouping.specs.Tags.{beside}
use Rattle.grouping.proofs.Pushed.{behind_smaller}
use Rattle.grouping.proofs.Beside.{beside_append}
use Rattle.folding.specs.Folding.{folded, pieces}
use Rattle.removal.specs.Origins.{numbered, origins_of}
use Rattle.removal.specs.Folded.{removed}
use Rattle.removal.specs.Promises.{face_at, origins_in, OriginsAscend, kept, KeptAscend}
use Rattle.removal.proofs.Testing.{group_stays, beside_rises}
use Rattle.removal.proofs.CameFrom.{numbered_hold, pieces_kept}

-- ---- within a group

pub origins_in-numbered : (fs : List Ring) (g : ℕ) → origins_in fs g ≡ beside (of_kind g) (each pieces fs) (numbered 0 fs)
unfolding removed origins_of
origins_in-numbered fs g = group_stays (numbered_hold fs) g

run_rises : (j a n : ℕ) (l : List ℕ) → j ≤ a → falls (a ∷ l) ≡ false → falls (j ∷ (replicate n a ++ l)) ≡ false
run_rises j a zero l h e = behind_smaller j a l h e
run_rises j a (suc n) l h e =
    or_neither (ltb a j) (falls (a ∷ (replicate n a ++ l))) (le-ltb a j h) (run_rises a a n l (omega arith) e)

numbered_rises : (j a : ℕ) (fs : List Ring) → j ≤ a → falls (j ∷ numbered a fs) ≡ false
unfolding numbered
numbered_rises j a [] h = refl
numbered_rises j a (f ∷ fs) h =
    run_rises j a (length (pieces f)) (numbered (suc a) fs) h (numbered_rises a (suc a) fs (omega arith))

pub origins_ascend : OriginsAscend
origins_ascend fs g =
    let l = beside (of_kind g) (each pieces fs) (numbered 0 fs) in
    ap falls (origins_in-numbered fs g)
    ∙ behind_0 l (beside_rises (of_kind g) 0 (each pieces fs) (numbered 0 fs) (numbered_rises 0 0 fs (omega arith)))
  where
    behind_0 : (l : List ℕ) → falls (0 ∷ l) ≡ false → falls l ≡ false
    behind_0 [] e = refl
    behind_0 (x ∷ l) e = or_false_right (ltb x 0) (falls (x ∷ l)) e

-- ---- of the faces that are kept

small_kind : (g n : ℕ) → n < 3 → size_of_kind g n ≡ false
small_kind zero n h = ne_eqb n 3 (λ e. omega arith)
small_kind (suc zero) n h = ne_eqb n 4 (λ e. omega arith)
small_kind (suc (suc g)) n h = lt-leb 5 n (omega arith)

module _ (keep : ℕ → Bool) (a g : ℕ) where
  -- the numbers beside the pieces of group g of face a, where it is folded
  away : (ps : List Ring) → keep a ≡ false → only keep (beside (of_kind g) ps (replicate (length ps) a)) ≡ []
  away [] e = refl
  away (p ∷ ps) e = by_cases (of_kind g p) (λ b. rw (b, e) (away ps e)) (λ b. rw b (away ps e))

  -- and of any face f that has number a
  one_face : (f : Ring) → keep a ≡ not (folded f)
      → only keep (beside (of_kind g) (pieces f) (replicate (length (pieces f)) a)) ≡ keep_if (keep a && of_kind g f) a []
  one_face f e =
      by_cases (folded f)
      (λ b. let z : keep a ≡ false = e ∙ ap not b in away (pieces f) z ∙ rw z)
      (λ b.
      let z : keep a ≡ true = e ∙ ap not b in
      by_cases (is_piece f)
      (λ c. rw (pieces_kept f b, c, z) (by_cases (of_kind g f) (λ d. rw (d, z)) (λ d. rw d)))
      (λ c. rw (pieces_kept f b, c, z, small_kind g (length f) (leb-false 3 (length f) c))))

kept_from : (face : ℕ → Ring) (g a : ℕ) (fs : List Ring) → ((k : ℕ) → k < length fs → face (a + k) ≡ get_or fs k [])
    → only (λ (b : ℕ). not (folded (face b))) (beside (of_kind g) (each pieces fs) (numbered a fs))
    ≡ only (λ (b : ℕ). not (folded (face b)) && of_kind g (face b)) (span a (length fs))
unfolding numbered
kept_from face g a [] h = refl
kept_from face g a (f ∷ fs) h =
    let keep : ℕ → Bool = λ b. not (folded (face b)) in
    let n = length (pieces f) in
    let e : face a ≡ f = ap face (sym (add-zero a)) ∙ h 0 (omega arith) in
    let i = kept_from face g (suc a) fs (λ k l. ap face (suc-add a k ∙ sym (add-suc a k)) ∙ h (suc k) (let m : k < length fs = l in omega arith)) in
    ap (only keep) (beside_append (of_kind g) (pieces f) (each pieces fs) (replicate n a) (numbered (suc a) fs) (length-replicate n a))
    ∙ only_append keep (beside (of_kind g) (pieces f) (replicate n a)) (beside (of_kind g) (each pieces fs) (numbered (suc a) fs))
    ∙ ap₂ (λ (x y : List ℕ). x ++ y) (one_face keep a g f (ap (λ (r : Ring). not (folded r)) e)) i
    ∙ ap (λ (r : Ring). keep_if (keep a && of_kind g r) a [] ++ only (λ (b : ℕ). keep b && of_kind g (face b)) (span (suc a) (length fs))) (sym e)
    ∙ in_front (keep a && of_kind g (face a)) a (only (λ (b : ℕ). keep b && of_kind g (face b)) (span (suc a) (length fs)))
  where
    in_front : (b : Bool) (c : ℕ) (l : List ℕ) → keep_if b c [] ++ l ≡ keep_if b c l
    in_front true c l = refl
    in_front false c l = refl

pub kept_ascend : KeptAscend
kept_ascend fs g =
    ap (only (kept fs)) (origins_in-numbered fs g)
    ∙ kept_from (face_at fs) g 0 fs (λ k h. ap (face_at fs) (zero-add k))
