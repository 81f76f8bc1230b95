-- `map` beside `each`, `only`, `last_of` and `span`: a list for each of the elements' values is a list for each of the elements,
-- and so on; and what `some` and `count` say of a list that a test has cut. Assumes nothing.
use mathlib.Core.Path.{◌≡◌, refl, sym, ap, ap₂, ◌∙◌, fun_ext}
use mathlib.Core.Bool.{Bool, true, false, ◌&&◌}
use mathlib.Core.List.{List, [], ◌∷◌, ◌++◌, map, map-append}
use Prim.Native.Nat.{ℕ, suc, ◌<◌}
use native.Mathlib.Omega.{arith}
use lib.ListN.{length, get_or}
use Rattle.lists.specs.Lists.{keep_if, only, some, every, each, last_of, span, count}
use Rattle.lists.proofs.Bools.{by_cases, true_false, and_both, and_left, and_right}
use Rattle.lists.proofs.Buckets.{length_only, only_only, table_ext}
use Rattle.lists.proofs.Parts.{each_append}

module _ {A B : Type 0} (f : A → B) where
  pub every_map : (p : B → Bool) (l : List A) → every p (map f l) ≡ every (λ a. p (f a)) l
  every_map p [] = refl
  every_map p (x ∷ l) = ap (λ (b : Bool). p (f x) && b) (every_map p l)

  pub map_keep : (b : Bool) (x : A) (l : List A) → map f (keep_if b x l) ≡ keep_if b (f x) (map f l)
  map_keep true x l = refl
  map_keep false x l = refl

  -- those of the values that pass are the values of those whose value passes
  pub only_map : (p : B → Bool) (l : List A) → only p (map f l) ≡ map f (only (λ a. p (f a)) l)
  only_map p [] = refl
  only_map p (x ∷ l) = ap (keep_if (p (f x)) (f x)) (only_map p l) ∙ sym (map_keep (p (f x)) x (only (λ a. p (f a)) l))

  -- one for each that passes
  pub each_only : (p : A → Bool) (l : List A) → each (λ a. keep_if (p a) (f a) []) l ≡ map f (only p l)
  each_only p [] = refl
  each_only p (x ∷ l) = go (p x) (each_only p l)
    where
      go : (b : Bool) → each (λ a. keep_if (p a) (f a) []) l ≡ map f (only p l) → keep_if b (f x) [] ++ each (λ a. keep_if (p a) (f a) []) l ≡ map f (keep_if b x (only p l))
      go true h = ap (λ (t : List B). f x ∷ t) h
      go false h = h

  pub map_last : (l : List A) → map f (last_of l) ≡ last_of (map f l)
  map_last [] = refl
  map_last (x ∷ []) = refl
  map_last (x ∷ y ∷ l) = map_last (y ∷ l)

module _ {A B C : Type 0} where
  pub each_map : (g : B → List C) (f : A → B) (l : List A) → each g (map f l) ≡ each (λ a. g (f a)) l
  each_map g f [] = refl
  each_map g f (x ∷ l) = ap (λ (t : List C). g (f x) ++ t) (each_map g f l)

  pub map_each : (g : B → C) (f : A → List B) (l : List A) → map g (each f l) ≡ each (λ a. map g (f a)) l
  map_each g f [] = refl
  map_each g f (x ∷ l) = map-append g (f x) (each f l) ∙ ap (λ (t : List C). map g (f x) ++ t) (map_each g f l)

  pub each_each : (g : B → List C) (f : A → List B) (l : List A) → each g (each f l) ≡ each (λ a. each g (f a)) l
  each_each g f [] = refl
  each_each g f (x ∷ l) = each_append g (f x) (each f l) ∙ ap (λ (t : List C). each g (f x) ++ t) (each_each g f l)

-- two functions that agree on what stands in a list change it alike
pub map_same : {A B : Type 0} (f g : A → B) (d : A) (l : List A) → ((k : ℕ) → k < length l → f (get_or l k d) ≡ g (get_or l k d)) → map f l ≡ map g l
map_same f g d [] h = refl
map_same f g d (x ∷ l) h =
    ap₂ ◌∷◌ (h 0 (omega arith)) (map_same f g d l (λ k n. h (suc k) (let e : k < length l = n in omega arith)))

-- what stands at 0, 1, .. is the list
pub map_span : {A : Type 0} (d : A) (l : List A) → map (λ i. get_or l i d) (span 0 (length l)) ≡ l
map_span d l = sym (table_ext (λ i. get_or l i d) (length l) d l refl (λ k h. refl))

module _ {A : Type 0} where
  -- an element that passes, where some do; and it passes what every one does
  pub some_find : (p q : A → Bool) (l : List A) → some p l ≡ true → every q l ≡ true → (x : A) × (p x ≡ true) × (q x ≡ true)
  some_find p q [] h k = true_false (sym h)
  some_find p q (x ∷ l) h k =
      by_cases (p x)
      (λ e. (x, e, and_left (q x) (every q l) k))
      (λ e. some_find p q l (rw e at h) (and_right (q x) (every q l) k))

  -- of those that pass one test, those that pass another
  pub count_only : (p q : A → Bool) (l : List A) → count p (only q l) ≡ count (λ a. q a && p a) l
  count_only p q l = sym (length_only p (only q l)) ∙ ap length (only_only p q l) ∙ length_only (λ a. q a && p a) l

  pub count_cong : (p q : A → Bool) → ((a : A) → p a ≡ q a) → (l : List A) → count p l ≡ count q l
  count_cong p q h l = ap (λ f. count f l) (fun_ext h)

  -- where each one passes, every one does
  pub every_all : (p : A → Bool) (d : A) (l : List A) → ((k : ℕ) → k < length l → p (get_or l k d) ≡ true) → every p l ≡ true
  every_all p d [] f = refl
  every_all p d (x ∷ l) f =
      and_both (p x) (every p l) (f 0 (omega arith)) (every_all p d l (λ k h. f (suc k) (let g : k < length l = h in omega arith)))
