-- What stands in a list, and what stands in the list of its images. Assumes nothing.
use mathlib.Core.Path.{◌≡◌, refl, sym, ap, ◌∙◌}
use mathlib.Core.Bool.{Bool, true}
use mathlib.Core.List.{List, [], ◌∷◌, map}
use Rattle.lists.specs.Lists.{some}
use Rattle.lists.proofs.Bools.{by_cases, or_left, or_right}
use Rattle.lists.proofs.Counting.{clash}

-- a test that says whether two elements are one
pub record Telling {A : Type 0} (same : A → A → Bool) : Type 0 where
  pub told : (x y : A) → same x y ≡ true → x ≡ y
  pub itself : (x : A) → same x x ≡ true

module _ {A B : Type 0} (f : A → B) {same : A → A → Bool} {same₂ : B → B → Bool} (s : Telling same) (t : Telling same₂) where
  -- the image of an element stands among the images
  pub image_in : (x : A) (l : List A) → some (same x) l ≡ true → some (same₂ (f x)) (map f l) ≡ true
  image_in x [] m = clash m refl
  image_in x (y ∷ l) m =
      by_cases (same x y)
      (λ e. or_left (same₂ (f x) (f y)) (some (same₂ (f x)) (map f l)) (ap (λ (z : A). same₂ (f x) (f z)) (sym (s.told x y e)) ∙ t.itself (f x)))
      (λ e. or_right (same₂ (f x) (f y)) (some (same₂ (f x)) (map f l)) (image_in x l (rw e at m)))

  -- and any that stands there is one
  pub in_image : (y : B) (l : List A) → some (same₂ y) (map f l) ≡ true → (x : A) × (y ≡ f x) × (some (same x) l ≡ true)
  in_image y [] m = clash m refl
  in_image y (x ∷ l) m =
      by_cases (same₂ y (f x))
      (λ e. (x, t.told y (f x) e, or_left (same x x) (some (same x) l) (s.itself x)))
      (λ e. let r = in_image y l (rw e at m) in (r.0, r.1, or_right (same r.0 x) (some (same r.0) l) r.2))
