-- What the walk of a group promises, whatever 'near' is: it takes no point of an earlier group. Assumes nothing.
use mathlib.Core.Path.{◌≡◌, refl, sym, ap, ◌∙◌}
use mathlib.Core.Bool.{Bool, true, false, ◌||◌}
use mathlib.Core.List.{List, [], ◌∷◌, ◌++◌}
use Prim.Native.Nat.{ℕ, zero, suc}
use lib.Dec.{eqb}
use borrow.Author.Tests.{eqb-true}
use Rattle.lists.specs.Lists.{has}
use Rattle.lists.proofs.Bools.{by_cases, true_false, or_false_left, or_neither}
use Rattle.lists.proofs.Parts.{some_append}
use Rattle.nearby.specs.Walk.{descending, Walk, at, unless_old, popped, walk, often, group_from}

module _ (r : ℕ → ℕ → Bool) (n : ℕ) (before : List ℕ) (k : ℕ) (earlier : has k before ≡ true) where
  -- a point that is new is not k
  apart : (i : ℕ) (g : List ℕ) → has i (before ++ g) ≡ false → eqb k i ≡ false
  apart i g e =
      by_cases (eqb k i)
      (λ t.
      true_false
      (sym earlier
      ∙ ap (λ (x : ℕ). has x before) (eqb-true k i t)
      ∙ or_false_left (has i before) (has i g) (sym (some_append (eqb i) before g) ∙ e)))
      (λ t. t)

  popped_keeps : (s g : List ℕ) → has k g ≡ false → has k (popped r n before s g).group ≡ false
  unfolding popped
  popped_keeps [] g h = h
  popped_keeps (i ∷ s) g h = go (has i (before ++ g)) refl
    where
      go : (b : Bool) → has i (before ++ g) ≡ b → has k (unless_old b (at s g) (at (descending (r i) n ++ s) (g ++ (i ∷ [])))).group ≡ false
      go true e = h
      go false e = some_append (eqb k) g (i ∷ []) ∙ or_neither (has k g) (eqb k i || false) h (or_neither (eqb k i) false (apart i g e) refl)

  walk_keeps : (f : ℕ) (x : Walk) → has k x.group ≡ false → has k (walk r n before f x).group ≡ false
  unfolding walk
  walk_keeps zero x h = h
  walk_keeps (suc f) x h = walk_keeps f (popped r n before x.stack x.group) (popped_keeps x.stack x.group h)

  -- a group has no point of an earlier one
  pub group_apart : (i : ℕ) → has k (group_from r n before i) ≡ false
  unfolding group_from
  group_apart i = walk_keeps (often n) (at (i ∷ []) []) refl
