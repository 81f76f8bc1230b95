-- Which list of several has a number, where each number stands once: two numbers are together where they have one place. Assumes nothing.
use mathlib.Core.Path.{◌≡◌, refl, sym, ap, ◌∙◌}
use mathlib.Core.Logic.{⊎_elim}
use mathlib.Core.Bool.{Bool, true, false, cond, ◌&&◌, ◌||◌}
use mathlib.Core.List.{List, [], ◌∷◌}
use Prim.Native.Nat.{ℕ, suc, ◌<◌}
use native.Mathlib.Omega.{arith}
use lib.Dec.{eqb}
use lib.ListN.{length, get_or}
use borrow.Author.Tests.{eqb-true, eq-eqb}
use Rattle.lists.specs.Lists.{has, some, joined, together}
use Rattle.lists.proofs.Bools.{by_cases, and_left, and_right}
use Rattle.lists.proofs.Cases.{iff}
use Rattle.lists.proofs.Counting.{clash, or_either}
use Rattle.lists.proofs.Members.{In, in_left, in_right, in_append, Once, once_apart, once_rear}
use Rattle.lists.proofs.Parts.{some_joined}
use Rattle.hemlist.specs.HemList.{first_at}

-- ---- the first that passes a test

module _ {A : Type 0} (p : A → Bool) where
  pub first_passes : (d : A) (l : List A) → some p l ≡ true → p (get_or l (first_at p l) d) ≡ true
  first_passes d [] m = clash m refl
  first_passes d (x ∷ l) m = go (p x) refl m (first_passes d l)
    where
      go :
          (b : Bool) → p x ≡ b → (b || some p l) ≡ true → (some p l ≡ true → p (get_or l (first_at p l) d) ≡ true)
          → p (get_or (x ∷ l) (cond b 0 (suc (first_at p l))) d) ≡ true
      go true q m ih = q
      go false q m ih = ih m

  pub first_below : (l : List A) → some p l ≡ true → first_at p l < length l
  first_below [] m = clash m refl
  first_below (x ∷ l) m = go (p x) m (first_below l)
    where
      go : (b : Bool) → (b || some p l) ≡ true → (some p l ≡ true → first_at p l < length l) → cond b 0 (suc (first_at p l)) < suc (length l)
      go true m ih = omega arith
      go false m ih = let h : first_at p l < length l = ih m in omega arith

-- ---- the list that has a number

-- the place of a, where it stands
abbrev pub place_of : ℕ → List (List ℕ) → ℕ
place_of a ps = first_at (has a) ps

pub placed : (a : ℕ) (ps : List (List ℕ)) → In a (joined ps) → some (has a) ps ≡ true
placed a ps h = sym (some_joined (eqb a) ps) ∙ h

pub together_left : (a b : ℕ) (ps : List (List ℕ)) → together a b ps ≡ true → In a (joined ps)
together_left a b [] t = clash t refl
together_left a b (p ∷ ps) t =
    ⊎_elim
    (λ q. in_left a p (joined ps) (and_left (has a p) (has b p) q))
    (λ q. in_right a p (joined ps) (together_left a b ps q))
    (or_either (has a p && has b p) (together a b ps) t)

pub together_right : (a b : ℕ) (ps : List (List ℕ)) → together a b ps ≡ true → In b (joined ps)
together_right a b [] t = clash t refl
together_right a b (p ∷ ps) t =
    ⊎_elim
    (λ q. in_left b p (joined ps) (and_right (has a p) (has b p) q))
    (λ q. in_right b p (joined ps) (together_right a b ps q))
    (or_either (has a p && has b p) (together a b ps) t)

-- b stands where a does exactly where the two are together
pub has_at : (a b : ℕ) (ps : List (List ℕ)) → Once (joined ps) → In a (joined ps) → has b (get_or ps (place_of a ps) []) ≡ together a b ps
has_at a b [] o i = clash i refl
has_at a b (p ∷ ps) o i = go (has a p) refl (has_at a b ps (once_rear p (joined ps) o))
  where
    alone : has a p ≡ true → together a b ps ≡ false
    alone h = by_cases (together a b ps) (λ t. once_apart a p (joined ps) o h (together_left a b ps t)) (λ t. t)

    either : (x : Bool) → together a b ps ≡ false → x ≡ (x || together a b ps)
    either true t = refl
    either false t = sym t

    go :
        (x : Bool) → has a p ≡ x → (In a (joined ps) → has b (get_or ps (place_of a ps) []) ≡ together a b ps)
        → has b (get_or (p ∷ ps) (cond x 0 (suc (place_of a ps))) []) ≡ ((x && has b p) || together a b ps)
    go true q ih = either (has b p) (alone q)
    go false q ih = ih (⊎_elim (λ h. clash h q) (λ h. h) (in_append a p (joined ps) i))

-- two that are together have one place
pub together_at : (a b : ℕ) (ps : List (List ℕ)) → Once (joined ps) → together a b ps ≡ true → place_of a ps ≡ place_of b ps
together_at a b [] o t = clash t refl
together_at a b (p ∷ ps) o t = go (has a p) refl (has b p) refl t (together_at a b ps (once_rear p (joined ps) o))
  where
    go :
        (x : Bool) → has a p ≡ x → (y : Bool) → has b p ≡ y → ((x && y) || together a b ps) ≡ true
        → (together a b ps ≡ true → place_of a ps ≡ place_of b ps)
        → cond x 0 (suc (place_of a ps)) ≡ cond y 0 (suc (place_of b ps))
    go true q true r t ih = refl
    go true q false r t ih = once_apart a p (joined ps) o q (together_left a b ps t)
    go false q true r t ih = once_apart b p (joined ps) o r (together_right a b ps t)
    go false q false r t ih = ap suc (ih t)

-- and the other way round
pub same_place :
    (a b : ℕ) (ps : List (List ℕ)) → Once (joined ps) → In a (joined ps) → In b (joined ps) → eqb (place_of a ps) (place_of b ps) ≡ together a b ps
same_place a b ps o i j =
    iff (eqb (place_of a ps) (place_of b ps)) (together a b ps)
    (λ h.
    sym (has_at a b ps o i)
    ∙ ap (λ (k : ℕ). has b (get_or ps k [])) (eqb-true (place_of a ps) (place_of b ps) h)
    ∙ first_passes (has b) [] ps (placed b ps j))
    (λ h. eq-eqb (place_of a ps) (place_of b ps) (together_at a b ps o h))
