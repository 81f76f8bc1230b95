-- The numbers of a list in the order of their first use: which they are, that each is there once, what one number more does, and
-- that a change of the numbers that is one-to-one changes them alike. Assumes nothing.
use mathlib.Core.Path.{◌≡◌, refl, sym, ap, ◌∙◌}
use mathlib.Core.Bool.{Bool, true, false, not, ◌&&◌, and-true}
use mathlib.Core.List.{List, [], ◌∷◌, ◌++◌, append-nil, map}
use Prim.Native.Nat.{ℕ, ◌≤◌}
use native.Mathlib.Omega.{arith}
use lib.ListN.{length}
use lib.Dec.{ltb, eqb}
use borrow.Author.Tests.{eqb-true, eq-eqb}
use Rattle.lists.specs.Lists.{every, only, keep_if, has, others}
use Rattle.lists.specs.FirstUses.{first_uses}
use Rattle.lists.proofs.Bools.{by_cases, true_false, and_both, and_left, and_right, and_false_right}
use Rattle.lists.proofs.Only.{only_append, only_all, every_only}
use Rattle.lists.proofs.Buckets.{only_cong, only_only}
use Rattle.lists.proofs.Mapping.{map_keep}
use Rattle.lists.proofs.Members.{Once, in_head, in_tail}
use Rattle.lists.proofs.Others.{eqb_flip, has_only, has_every, once_others, once_few}

-- what is used is what stands in the list
pub has-first_uses : (x : ℕ) (l : List ℕ) → has x (first_uses l) ≡ has x l
unfolding first_uses
has-first_uses x [] = refl
has-first_uses x (i ∷ l) =
    by_cases (eqb x i)
    (λ e. rw e)
    (λ e. rw (e, has_only (λ (j : ℕ). not (eqb i j)) x (first_uses l), eqb_flip i x, e) (has-first_uses x l))

-- each is used once
pub first_uses-once : (l : List ℕ) → Once (first_uses l)
unfolding first_uses
first_uses-once [] = λ x. omega arith
first_uses-once (i ∷ l) = once_others i (first_uses l) (first_uses-once l)

-- what every number passes, every use passes
pub first_uses-every : (p : ℕ → Bool) (l : List ℕ) → every p l ≡ true → every p (first_uses l) ≡ true
unfolding first_uses
first_uses-every p [] h = refl
first_uses-every p (i ∷ l) h =
    and_both (p i) (every p (others i (first_uses l))) (and_left (p i) (every p l) h)
    (every_only (λ (j : ℕ). not (eqb i j)) p (first_uses l) (first_uses-every p l (and_right (p i) (every p l) h)))

-- numbers below n have at most n uses
pub first_uses-few : (n : ℕ) (l : List ℕ) → every (λ (x : ℕ). ltb x n) l ≡ true → length (first_uses l) ≤ n
first_uses-few n l h = once_few n (first_uses l) (first_uses-once l) (first_uses-every (λ (x : ℕ). ltb x n) l h)

-- ---- more of the list

-- those of l that are new to us
abbrev pub new_to : List ℕ → List ℕ → List ℕ
new_to us l = only (λ (j : ℕ). not (has j us)) l

new_behind : (i : ℕ) (us : List ℕ) (j : ℕ) → (not (has j us) && not (eqb i j)) ≡ not (has j (i ∷ others i us))
new_behind i us j =
    by_cases
    (eqb j i)
    (λ e. rw (eqb_flip i j, e) (and_false_right (not (has j us)) false refl))
    (λ e. rw (e, has_only (λ (y : ℕ). not (eqb i y)) j us, eqb_flip i j, e) (and-true (not (has j us))))

others_new : (i : ℕ) (us l : List ℕ) → others i (us ++ new_to us l) ≡ others i us ++ new_to (i ∷ others i us) l
others_new i us l =
    only_append (λ (j : ℕ). not (eqb i j)) us (new_to us l)
    ∙ ap
    (λ (k : List ℕ). others i us ++ k)
    (only_only (λ (j : ℕ). not (eqb i j)) (λ (j : ℕ). not (has j us)) l
    ∙ only_cong (λ (j : ℕ). not (has j us) && not (eqb i j)) (λ (j : ℕ). not (has j (i ∷ others i us))) (new_behind i us) l)

-- the uses of one list and then another: behind the first's, those of the other that are new
pub first_uses-append : (a b : List ℕ) → first_uses (a ++ b) ≡ first_uses a ++ new_to (first_uses a) (first_uses b)
unfolding first_uses
first_uses-append [] b = sym (only_all (λ (j : ℕ). true) (first_uses b) (has_every (λ (j : ℕ). true) (first_uses b) (λ x h. refl)))
first_uses-append (i ∷ a) b =
    ap (λ (l : List ℕ). i ∷ others i l) (first_uses-append a b) ∙ ap (λ (l : List ℕ). i ∷ l) (others_new i (first_uses a) (first_uses b))

-- one number more: one that was used changes nothing; any other comes to stand behind all
module _ (l : List ℕ) (i : ℕ) where
  pub first_uses-old : has i l ≡ true → first_uses (l ++ (i ∷ [])) ≡ first_uses l
  unfolding first_uses
  first_uses-old h = first_uses-append l (i ∷ []) ∙ rw (has-first_uses i l, h) (append-nil (first_uses l))

  pub first_uses-new : has i l ≡ false → first_uses (l ++ (i ∷ [])) ≡ first_uses l ++ (i ∷ [])
  unfolding first_uses
  first_uses-new h = first_uses-append l (i ∷ []) ∙ rw (has-first_uses i l, h)

-- ---- numbers that are changed one-to-one

module _ (f : ℕ → ℕ) where
  -- what stands in a list stands changed in the changed list
  pub has_map : (i : ℕ) (l : List ℕ) → has i l ≡ true → has (f i) (map f l) ≡ true
  has_map i [] h = true_false (sym h)
  has_map i (j ∷ l) h =
      by_cases
      (eqb i j)
      (λ e. rw (eq-eqb (f i) (f j) (ap f (eqb-true i j e))))
      (λ e. in_tail (f i) (f j) (map f l) (has_map i l (rw e at h)))

  -- the others of the changed are the changed others
  pub others_map :
      (i : ℕ) (l : List ℕ) → ((j : ℕ) → has j l ≡ true → eqb (f i) (f j) ≡ eqb i j) → others (f i) (map f l) ≡ map f (others i l)
  others_map i [] h = refl
  others_map i (j ∷ l) h =
      rw (h j (in_head j l))
      (ap (keep_if (not (eqb i j)) (f j)) (others_map i l (λ k e. h k (in_tail k j l e))) ∙ sym (map_keep f (not (eqb i j)) j (others i l)))

  -- the first uses of the changed are the changed first uses
  pub first_uses-map :
      (l : List ℕ) → ((i j : ℕ) → has i l ≡ true → has j l ≡ true → eqb (f i) (f j) ≡ eqb i j)
      → first_uses (map f l) ≡ map f (first_uses l)
  unfolding first_uses
  first_uses-map [] s = refl
  first_uses-map (i ∷ l) s =
      ap (λ (us : List ℕ). f i ∷ others (f i) us) (first_uses-map l (λ j k e g. s j k (in_tail j i l e) (in_tail k i l g)))
      ∙ ap (λ (us : List ℕ). f i ∷ us)
      (others_map i (first_uses l) (λ j g. s i j (in_head i l) (in_tail j i l (sym (has-first_uses j l) ∙ g))))
