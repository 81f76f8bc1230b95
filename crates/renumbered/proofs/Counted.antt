-- Lists that have each element equally often pass each test equally often. Assumes nothing.
use mathlib.Core.Path.{◌≡◌, refl, sym, ap, ◌∙◌}
use mathlib.Core.Bool.{Bool, true}
use mathlib.Core.List.{List, [], ◌∷◌, ◌++◌}
use Prim.Native.Nat.{suc, ◌+◌}
use native.Mathlib.Omega.{arith}
use Rattle.lists.specs.Lists.{some, count, bump}
use Rattle.lists.proofs.Bools.{by_cases}
use Rattle.lists.proofs.Counting.{clash, count_append, bump_plus, bump_inj, some_counted}
use Rattle.lists.proofs.Alike.{Alike}

-- a list around one of its elements
record Around {A : Type 0} (x : A) (t : List A) : Type 0 where
  front : List A
  rear : List A
  whole : t ≡ front ++ (x ∷ rear)

-- where a test says whether two elements are one
module _ {A : Type 0} (same : A → A → Bool) (same_true : (x y : A) → same x y ≡ true → x ≡ y) (same_refl : (x : A) → same x x ≡ true) where
  around : (x : A) (t : List A) → some (same x) t ≡ true → Around x t
  around x [] h = clash h refl
  around x (y ∷ t) h =
      by_cases (same x y)
      (λ e. record { front = []; rear = t; whole = ap (λ (z : A). z ∷ t) (sym (same_true x y e)) })
      (λ e.
      let a = around x t (rw e at h) in
      record { front = y ∷ a.front; rear = a.rear; whole = ap (λ (l : List A). y ∷ l) a.whole })

  -- without it
  count_around : (p : A → Bool) (x : A) (a b : List A) → count p (a ++ (x ∷ b)) ≡ bump (p x) (count p (a ++ b))
  count_around p x a b =
      let s : count p (a ++ (x ∷ b)) ≡ count p a + bump (p x) (count p b) = count_append p a (x ∷ b) in
      let t : count p (a ++ b) ≡ count p a + count p b = count_append p a b in
      omega (arith, bump_plus (p x) (count p b), bump_plus (p x) (count p (a ++ b)))

  none_left : (t : List A) → ((d : A) → 0 ≡ count (same d) t) → t ≡ []
  none_left [] h = refl
  none_left (x ∷ t) h =
      absurd (let z : 0 ≡ bump (same x x) (count (same x) t) = h x in let y : 0 ≡ suc (count (same x) t) = rw (same_refl x) at z in omega arith)

  same_counts : (p : A → Bool) (s t : List A) → ((d : A) → count (same d) s ≡ count (same d) t) → count p s ≡ count p t
  same_counts p [] t h = ap (count p) (sym (none_left t h))
  same_counts p (x ∷ s) t h =
      let z : bump (same x x) (count (same x) s) ≡ count (same x) t = h x in
      let y : suc (count (same x) s) ≡ count (same x) t = rw (same_refl x) at z in
      let a = around x t (some_counted (same x) t (omega arith)) in
      ap (bump (p x))
      (same_counts p s (a.front ++ a.rear)
      (λ d.
      bump_inj (same d x) (count (same d) s) (count (same d) (a.front ++ a.rear))
      (h d ∙ ap (count (same d)) a.whole ∙ count_around (same d) x a.front a.rear)))
      ∙ sym (ap (count p) a.whole ∙ count_around p x a.front a.rear)

  pub counts_alike : (s t : List A) → ((d : A) → count (same d) s ≡ count (same d) t) → Alike s t
  counts_alike s t h = record { agree = λ p. same_counts p s t h }
