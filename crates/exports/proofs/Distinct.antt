-- Positions renumbered one-to-one: as many different ones, and the same faces folded. Assumes nothing.
use mathlib.Core.Path.{◌≡◌, refl, sym, ap, ap₂, ◌∙◌}
use mathlib.Core.Bool.{Bool, true, false, not, ◌||◌}
use mathlib.Core.List.{List, [], ◌∷◌, map}
use Prim.Native.Nat.{ℕ}
use lib.Dec.{eqb}
use lib.ListN.{length, length-map}
use borrow.Author.Tests.{eqb-true}
use Rattle.lists.specs.Lists.{has, some}
use Rattle.lists.proofs.Bools.{by_cases, and_right, and_both}
use Rattle.lists.proofs.Cases.{iff}
use Rattle.lists.proofs.Counting.{clash}
use Rattle.lists.proofs.Members.{in_head, in_tail, in_left, in_right, Once, once_cons}
use Rattle.lists.proofs.Others.{eqb_self, once_head, once_tail}
use Rattle.mesh.specs.Mesh.{Ring, position, missing}
use Rattle.splitting.specs.Splitting.{twice, folded_by}
use Rattle.folding.specs.Folding.{folded}
use Rattle.unused.specs.Compaction.{uses_of}
use Rattle.unused.proofs.Uses.{has_uses, uses_once}
use Rattle.renumbered.specs.Renumbered.{positions_of, OneToOne}
use Rattle.renumbered.proofs.Images.{Telling, image_in, in_image}
use Rattle.exports.proofs.Rewritten.{rewritten, ring_rewritten}
use Rattle.exports.proofs.Used.{as_long}

numbers_told : Telling eqb
numbers_told = record { told = eqb-true; itself = eqb_self }

-- ---- as many different positions

not_missing : (l : List ℕ) → has missing l ≡ false → (x : ℕ) → has x l ≡ true → not (eqb x missing) ≡ true
not_missing l n x h =
    by_cases (eqb x missing) (λ e. clash (ap (λ (z : ℕ). has z l) (sym (eqb-true x missing e)) ∙ h) n) (λ e. ap not e)

module _ (g : ℕ → ℕ) where
  once_mapped : (l : List ℕ) → OneToOne g l → Once l → Once (map g l)
  once_mapped [] one o = o
  once_mapped (x ∷ l) one o =
      once_cons (g x) (map g l)
      (by_cases (has (g x) (map g l))
      (λ t.
      let r = in_image g numbers_told numbers_told (g x) l t in
      let e : eqb x r.0 ≡ true =
      sym (one x r.0 (in_head x l) (in_tail r.0 x l r.2)) ∙ ap (eqb (g x)) (sym r.1) ∙ eqb_self (g x) in
      clash (ap (λ (z : ℕ). has z l) (eqb-true x r.0 e) ∙ r.2) (once_head x l o))
      (λ t. t))
      (once_mapped l (λ i j h k. one i j (in_tail i x l h) (in_tail j x l k)) (once_tail x l o))

  module _ (l k : List ℕ) (one : OneToOne g l) (nl : has missing l ≡ false) (nk : has missing k ≡ false)
      (same : (y : ℕ) → has y (map g l) ≡ has y k) where
    used_in_lem : (x : ℕ) (c : List ℕ) → has x (uses_of c) ≡ true → has x c ≡ true
    used_in_lem x c h = and_right (not (eqb x missing)) (has x c) (sym (has_uses x c) ∙ h)

    in_used : (x : ℕ) (c : List ℕ) → has missing c ≡ false → has x c ≡ true → has x (uses_of c) ≡ true
    in_used x c n h = has_uses x c ∙ and_both (not (eqb x missing)) (has x c) (not_missing c n x h) h

    same_used : (y : ℕ) → has y (map g (uses_of l)) ≡ has y (uses_of k)
    same_used y =
        iff (has y (map g (uses_of l))) (has y (uses_of k))
        (λ t.
        let r = in_image g numbers_told numbers_told y (uses_of l) t in
        let i : has (g r.0) (map g l) ≡ true = image_in g numbers_told numbers_told r.0 l (used_in_lem r.0 l r.2) in
        in_used y k nk (sym (same y) ∙ ap (λ (z : ℕ). has z (map g l)) r.1 ∙ i))
        (λ t.
        let r = in_image g numbers_told numbers_told y l (same y ∙ used_in_lem y k t) in
        ap (λ (z : ℕ). has z (map g (uses_of l))) r.1 ∙ image_in g numbers_told numbers_told r.0 (uses_of l) (in_used r.0 l nl r.2))

    pub as_many_renumbered : length (uses_of l) ≡ length (uses_of k)
    as_many_renumbered =
        sym (length-map (uses_of l) g)
        ∙ as_long (map g (uses_of l)) (uses_of k)
        (once_mapped (uses_of l) (λ i j h e. one i j (used_in_lem i l h) (used_in_lem j l e)) (uses_once l))
        (uses_once k) same_used

-- ---- the same faces are folded

module _ (g : ℕ → ℕ) where
  has_renumbered : (p : ℕ) (ps : List ℕ) → ((x : ℕ) → has x ps ≡ true → eqb (g p) (g x) ≡ eqb p x) → has (g p) (map g ps) ≡ has p ps
  has_renumbered p [] one = refl
  has_renumbered p (x ∷ ps) one =
      ap₂ (λ (a b : Bool). a || b) (one x (in_head x ps)) (has_renumbered p ps (λ y h. one y (in_tail y x ps h)))

  twice_renumbered : (l : List ℕ) → OneToOne g l → twice (map g l) ≡ twice l
  twice_renumbered [] one = refl
  twice_renumbered (p ∷ ps) one =
      ap₂ (λ (a b : Bool). a || b)
      (has_renumbered p ps (λ x h. one p x (in_head p ps) (in_tail x p ps h)))
      (twice_renumbered ps (λ i j h k. one i j (in_tail i p ps h) (in_tail j p ps k)))

  pub folded_renumbered : (fs : List Ring) → OneToOne g (positions_of fs) → some folded (rewritten g fs) ≡ some folded fs
  unfolding folded_by
  folded_renumbered [] one = refl
  folded_renumbered (f ∷ fs) one =
      ap₂ (λ (a b : Bool). a || b)
      (ap twice (ring_rewritten g f)
      ∙ twice_renumbered (map position f) (λ i j h k. one i j (in_left i (map position f) (positions_of fs) h) (in_left j (map position f) (positions_of fs) k)))
      (folded_renumbered fs (λ i j h k. one i j (in_right i (map position f) (positions_of fs) h) (in_right j (map position f) (positions_of fs) k)))
