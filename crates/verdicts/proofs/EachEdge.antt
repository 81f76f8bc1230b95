-- The lists that belong to all edges of a long ascending list, one after the other, are those that belong to a part of it, where the
-- others are empty. Assumes nothing.
use mathlib.Core.Path.{◌≡◌, refl, sym, ap, ap₂, ◌∙◌, subst}
use mathlib.Core.Logic.{⊎_elim}
use mathlib.Core.Bool.{Bool, true, false}
use mathlib.Core.List.{List, [], ◌∷◌, ◌++◌}
use Rattle.lists.specs.Lists.{some, each}
use Rattle.lists.proofs.Bools.{by_cases, or_left, or_right}
use Rattle.lists.proofs.Cases.{iff}
use Rattle.lists.proofs.Counting.{clash, or_either}
use Rattle.verdicts.specs.Edges.{Edge, same}
use Rattle.verdicts.proofs.SameEdge.{same_true, same_refl, Before, before_asym}
use Rattle.verdicts.proofs.Ascending.{Above, Asc, above_above}

pub above_append : (x : Edge) (a b : List Edge) → Above x a → Above x b → Above x (a ++ b)
above_append x [] b p q = q
above_append x (y ∷ a) b p q = (p.0, above_append x a b p.1 q)

-- whether x is in the list
abbrev pub within : Edge → List Edge → Bool
within x l = some (same x) l

head_in : (x : Edge) (l : List Edge) → within x (x ∷ l) ≡ true
head_in x l = or_left (same x x) (within x l) (same_refl x)

tail_in : (x y : Edge) (l : List Edge) → within x l ≡ true → within x (y ∷ l) ≡ true
tail_in x y l h = or_right (same x y) (within x l) h

-- what is in the list and not its head is behind the head
behind : (x y : Edge) (l : List Edge) → same x y ≡ false → within x (y ∷ l) ≡ true → within x l ≡ true
behind x y l n h = rw n at h

same_swap : (d e : Edge) → same d e ≡ same e d
same_swap d e = iff (same d e) (same e d) (λ p. rw (same_true d e p) (same_refl e)) (λ p. rw (same_true e d p) (same_refl d))

above_member : (x y : Edge) (l : List Edge) → Above x l → within y l ≡ true → Before x y
above_member x y [] a h = clash h refl
above_member x y (z ∷ l) a h =
    ⊎_elim (λ p. subst (Before x) (sym (same_true y z p)) a.0) (λ p. above_member x y l a.1 p) (or_either (same y z) (within y l) h)

above_not : (x : Edge) (l : List Edge) → Above x l → within x l ≡ false
above_not x l a =
    by_cases (within x l) (λ p. let k : Before x x = above_member x x l a p in absurd (before_asym x x k k)) (λ p. p)

-- two edges of which one is before the other are not the same
apart : (u v : Edge) → Before v u → same u v ≡ false
apart u v l =
    by_cases (same u v) (λ p. absurd (let w : Before v v = subst (Before v) (same_true u v p) l in before_asym v v w w)) (λ p. p)

module _ {B : Type 0} (f : Edge → List B) where
  -- t is a part of s, and f is empty at what s has besides
  pub each_part :
      (s t : List Edge) → Asc s → Asc t → ((x : Edge) → within x t ≡ true → within x s ≡ true)
      → ((x : Edge) → within x s ≡ true → within x t ≡ false → f x ≡ []) → each f s ≡ each f t
  each_part [] [] a b m h = refl
  each_part [] (y ∷ t) a b m h = clash (m y (head_in y t)) refl
  each_part (x ∷ s) [] a b m h =
      ap₂ ◌++◌ (h x (head_in x s) refl) (each_part s [] a.1 tt (λ z q. clash q refl) (λ z p q. h z (tail_in z x s p) q))
  each_part (x ∷ s) (y ∷ t) a b m h = go (same x y) refl (each_part s t a.1 b.1) (each_part s (y ∷ t) a.1 b)
    where
      go :
          (c : Bool) → same x y ≡ c
          → (((z : Edge) → within z t ≡ true → within z s ≡ true) → ((z : Edge) → within z s ≡ true → within z t ≡ false → f z ≡ []) → each f s ≡ each f t)
          → (((z : Edge) → within z (y ∷ t) ≡ true → within z s ≡ true) → ((z : Edge) → within z s ≡ true → within z (y ∷ t) ≡ false → f z ≡ []) → each f s ≡ each f (y ∷ t))
          → f x ++ each f s ≡ f y ++ each f t
      go true e both one =
          let q : x ≡ y = same_true x y e in
          ap₂ ◌++◌ (ap f q)
          (both
          (λ z p.
          let n : same z x ≡ false = apart z x (subst (λ (w : Edge). Before w z) (sym q) (above_member y z t b.0 p)) in
          behind z x s n (m z (tail_in z y t p)))
          (λ z p r.
          let n : same z y ≡ false = apart z y (subst (λ (w : Edge). Before w z) q (above_member x z s a.0 p)) in
          h z (tail_in z x s p) (rw n r)))
      go false e both one =
          let i : within y s ≡ true = behind y x s (same_swap y x ∙ e) (m y (head_in y t)) in
          let out : within x (y ∷ t) ≡ false = (let l : Before x y = above_member x y s a.0 i in above_not x (y ∷ t) (l, above_above x y t l b.0)) in
          rw (h x (head_in x s) out)
          (one
          (λ z p. behind z x s (by_cases (same z x) (λ q. clash p (subst (λ (w : Edge). within w (y ∷ t) ≡ false) (sym (same_true z x q)) out)) (λ q. q)) (m z p))
          (λ z p r. h z (tail_in z x s p) r))
