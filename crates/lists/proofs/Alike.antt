-- Two lists with the same elements, each as often, in any order: every test counts as many in the one as in the other.
-- Assumes nothing.
use mathlib.Core.Path.{◌≡◌, refl, sym, ap, ◌∙◌}
use mathlib.Core.Bool.{Bool, true, false, ◌||◌}
use mathlib.Core.List.{List, [], ◌∷◌, map}
use Rattle.lists.specs.Lists.{keep_if, only, some, count}
use Rattle.lists.proofs.Counting.{pos, some_count}

pub record Alike {A : Type 0} (s t : List A) : Type 0 where
  pub agree : (p : A → Bool) → count p s ≡ count p t

module _ {A : Type 0} where
  pub alike_refl : (s : List A) → Alike s s
  alike_refl s = record { agree = λ p. refl }

  pub alike_sym : {s t : List A} → Alike s t → Alike t s
  alike_sym h = record { agree = λ p. sym (h.agree p) }

  pub alike_trans : {r s t : List A} → Alike r s → Alike s t → Alike r t
  alike_trans h k = record { agree = λ p. h.agree p ∙ k.agree p }

  pub some_alike : (p : A → Bool) {s t : List A} → Alike s t → some p s ≡ some p t
  some_alike p {s} {t} h = some_count p s ∙ ap pos (h.agree p) ∙ sym (some_count p t)

module _ {A B : Type 0} where
  pub some_map : (p : B → Bool) (f : A → B) (l : List A) → some p (map f l) ≡ some (λ x. p (f x)) l
  some_map p f [] = refl
  some_map p f (x ∷ l) = ap (λ b. p (f x) || b) (some_map p f l)

  -- two functions that agree where the test passes agree on those that pass
  pub map_only : (p : A → Bool) (f g : A → B) (l : List A) → ((x : A) → p x ≡ true → f x ≡ g x) → map f (only p l) ≡ map g (only p l)
  map_only p f g [] h = refl
  map_only p f g (x ∷ l) h = go (p x) refl (map_only p f g l h)
    where
      go : (b : Bool) → p x ≡ b → map f (only p l) ≡ map g (only p l) → map f (keep_if b x (only p l)) ≡ map g (keep_if b x (only p l))
      go true e m = λ i. h x e i ∷ m i
      go false e m = m
