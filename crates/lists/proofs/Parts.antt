-- Laws of `sum`, `some`, `every`, `joined` and `each`, over what is done and what is left. Assumes nothing.
use mathlib.Core.Path.{◌≡◌, refl, sym, ap, ◌∙◌}
use mathlib.Core.Bool.{Bool, true, false, ◌&&◌, ◌||◌, or_assoc, or-false, and_assoc}
use mathlib.Core.List.{List, [], ◌∷◌, ◌++◌, append_assoc, append-nil, map}
use Prim.Native.Nat.{ℕ, zero, suc, ◌+◌, ◌≤◌, ◌<◌}
use native.Mathlib.Nat.{le_of_suc-le-suc, not-suc-le-zero}
use native.Mathlib.Numerals.{add-one}
use native.Mathlib.Omega.{arith}
use lib.ListN.{length, get_or, take, drop, length-append, take-append-drop}
use lib.Seq.{take-suc, drop-cons, drop-length}
use Rattle.lists.specs.Lists.{some, every, joined, each, sum}
use Rattle.lists.proofs.Bools.{and_left, and_right, and_both, or_false_left, or_false_right, or_left, or_right}

-- ---- sums

pub sum_append : (a b : List ℕ) → sum (a ++ b) ≡ sum a + sum b
sum_append [] b = omega arith
sum_append (n ∷ a) b = let e : sum (a ++ b) ≡ sum a + sum b = sum_append a b in omega arith

-- one number more
pub sum_step : (s : List ℕ) (k : ℕ) → k < length s → sum (take (k + 1) s) ≡ sum (take k s) + get_or s k 0
sum_step s k h =
    let e : sum (take k s ++ (get_or s k 0 ∷ [])) ≡ sum (take k s) + (get_or s k 0 + 0) = sum_append (take k s) (get_or s k 0 ∷ []) in
    rw (add-one k, take-suc s k 0 h) (omega arith)

-- the first k numbers add up to no more than all
pub sum_take : (s : List ℕ) (k : ℕ) → sum (take k s) ≤ sum s
sum_take s zero = omega arith
sum_take [] (suc k) = omega arith
sum_take (n ∷ s) (suc k) = let e : sum (take k s) ≤ sum s = sum_take s k in omega arith

-- nor does one number, on top of those before it
pub sum_at : (s : List ℕ) (k : ℕ) → k < length s → sum (take k s) + get_or s k 0 ≤ sum s
sum_at s k h = let e : sum (take (k + 1) s) ≡ sum (take k s) + get_or s k 0 = sum_step s k h in let l : sum (take (k + 1) s) ≤ sum s = sum_take s (k + 1) in omega arith

-- each counts for one
pub sum_ones : {A : Type 0} (l : List A) → sum (map (λ x. 1) l) ≡ length l
sum_ones [] = refl
sum_ones (x ∷ l) = let e : sum (map (λ x. 1) l) ≡ length l = sum_ones l in omega arith

-- ---- tests over a list

module _ {A : Type 0} (p : A → Bool) where
  pub some_append : (a b : List A) → some p (a ++ b) ≡ (some p a || some p b)
  some_append [] b = refl
  some_append (x ∷ a) b = ap (λ (t : Bool). p x || t) (some_append a b) ∙ sym (or_assoc (p x) (some p a) (some p b))

  pub every_append : (a b : List A) → every p (a ++ b) ≡ (every p a && every p b)
  every_append [] b = refl
  every_append (x ∷ a) b = ap (λ (t : Bool). p x && t) (every_append a b) ∙ sym (and_assoc (p x) (every p a) (every p b))

  -- what no element passes, none passes; what one passes, some pass
  pub some_false_at : (d : A) (l : List A) (k : ℕ) → some p l ≡ false → k < length l → p (get_or l k d) ≡ false
  some_false_at d [] k e h = absurd (not-suc-le-zero h)
  some_false_at d (x ∷ l) zero e h = or_false_left (p x) (some p l) e
  some_false_at d (x ∷ l) (suc k) e h = some_false_at d l k (or_false_right (p x) (some p l) e) (le_of_suc-le-suc h)

  pub some_true_at : (d : A) (l : List A) (k : ℕ) → k < length l → p (get_or l k d) ≡ true → some p l ≡ true
  some_true_at d [] k h e = absurd (not-suc-le-zero h)
  some_true_at d (x ∷ l) zero h e = or_left (p x) (some p l) e
  some_true_at d (x ∷ l) (suc k) h e = or_right (p x) (some p l) (some_true_at d l k (le_of_suc-le-suc h) e)

  -- where none passes at any place, none passes
  pub some_none : (d : A) (l : List A) → ((k : ℕ) → k < length l → p (get_or l k d) ≡ false) → some p l ≡ false
  some_none d [] f = refl
  some_none d (x ∷ l) f =
      rw (let e : p x ≡ false = f 0 (omega arith) in e) (some_none d l (λ k h. f (suc k) (let g : k < length l = h in omega arith)))

  pub every_at : (d : A) (l : List A) (k : ℕ) → every p l ≡ true → k < length l → p (get_or l k d) ≡ true
  every_at d [] k e h = absurd (not-suc-le-zero h)
  every_at d (x ∷ l) zero e h = and_left (p x) (every p l) e
  every_at d (x ∷ l) (suc k) e h = every_at d l k (and_right (p x) (every p l) e) (le_of_suc-le-suc h)

  -- what none passes, none of the first passes, and none of the rest
  some_halves : (k : ℕ) (l : List A) → some p l ≡ false → (some p (take k l) || some p (drop k l)) ≡ false
  some_halves k l h = sym (some_append (take k l) (drop k l)) ∙ ap (some p) (take-append-drop k l) ∙ h

  pub some_take : (k : ℕ) (l : List A) → some p l ≡ false → some p (take k l) ≡ false
  some_take k l h = or_false_left (some p (take k l)) (some p (drop k l)) (some_halves k l h)

  pub some_drop : (k : ℕ) (l : List A) → some p l ≡ false → some p (drop k l) ≡ false
  some_drop k l h = or_false_right (some p (take k l)) (some p (drop k l)) (some_halves k l h)

  -- what every element passes, the first of them pass, and the rest
  pub every_take : (k : ℕ) (l : List A) → every p l ≡ true → every p (take k l) ≡ true
  every_take zero l h = refl
  every_take (suc k) [] h = refl
  every_take (suc k) (x ∷ l) h = and_both (p x) (every p (take k l)) (and_left (p x) (every p l) h) (every_take k l (and_right (p x) (every p l) h))

  pub every_drop : (k : ℕ) (l : List A) → every p l ≡ true → every p (drop k l) ≡ true
  every_drop zero l h = h
  every_drop (suc k) [] h = refl
  every_drop (suc k) (x ∷ l) h = every_drop k l (and_right (p x) (every p l) h)

-- ---- a search from the front that has found nothing among the first k: the answer for the list is the answer for the rest

pub record Searching {A : Type 0} (p : A → Bool) (l : List A) (k : ℕ) : Type 0 where
  pub within : k ≤ length l
  pub rest : some p l ≡ some p (drop k l)

module _ {A : Type 0} (p : A → Bool) (d : A) where
  pub search_begins : (l : List A) → Searching p l 0
  search_begins l = record { within = omega arith; rest = refl }

  pub search_turns : (l : List A) (k : ℕ) → k < length l → p (get_or l k d) ≡ false → Searching p l k → Searching p l (k + 1)
  search_turns l k h e s = record {
    within = omega arith;
    rest = s.rest ∙ ap (some p) (drop-cons l k d h) ∙ rw (e, add-one k);
  }

  -- found at k
  pub search_finds : (l : List A) (k : ℕ) → k < length l → p (get_or l k d) ≡ true → true ≡ some p l
  search_finds l k h e = sym (some_true_at p d l k h e)

  -- not found at all
  pub search_ends : (l : List A) (k : ℕ) → length l ≤ k → Searching p l k → false ≡ some p l
  search_ends l k h s =
      let e : k ≡ length l = omega (arith, s.within) in
      sym (s.rest ∙ ap (λ (n : ℕ). some p (drop n l)) e ∙ ap (some p) (drop-length l))

-- ---- a flag that gathers: whether some among the first k pass; the flag and the rest decide for the list

pub record Gathering {A : Type 0} (p : A → Bool) (l : List A) (found : Bool) (k : ℕ) : Type 0 where
  pub within : k ≤ length l
  pub rest : some p l ≡ (found || some p (drop k l))

module _ {A : Type 0} (p : A → Bool) (d : A) where
  pub gather_begins : (l : List A) → Gathering p l false 0
  gather_begins l = record { within = omega arith; rest = refl }

  pub gather_turns : (l : List A) (found : Bool) (k : ℕ) → k < length l → Gathering p l found k → Gathering p l (found || p (get_or l k d)) (k + 1)
  gather_turns l found k h g = record {
    within = omega arith;
    rest =
        g.rest
        ∙ ap (λ (t : List A). found || some p t) (drop-cons l k d h)
        ∙ sym (or_assoc found (p (get_or l k d)) (some p (drop (suc k) l)))
        ∙ rw (add-one k);
  }

  pub gather_ends : (l : List A) (found : Bool) (k : ℕ) → length l ≤ k → Gathering p l found k → found ≡ some p l
  gather_ends l found k h g =
      let e : k ≡ length l = omega (arith, g.within) in
      sym (g.rest ∙ ap (λ (n : ℕ). found || some p (drop n l)) e ∙ ap (λ (t : List A). found || some p t) (drop-length l) ∙ or-false found)

-- ---- lists one after the other

module _ {A : Type 0} where
  pub joined_append : (a b : List (List A)) → joined (a ++ b) ≡ joined a ++ joined b
  joined_append [] b = refl
  joined_append (x ∷ a) b = ap (λ (l : List A). x ++ l) (joined_append a b) ∙ sym (append_assoc x (joined a) (joined b))

  -- one list more behind
  pub joined_snoc : (ls : List (List A)) (l : List A) → joined (ls ++ (l ∷ [])) ≡ joined ls ++ l
  joined_snoc ls l = joined_append ls (l ∷ []) ∙ ap (λ (t : List A). joined ls ++ t) (append-nil l)

  -- lists of lists of lists: the inner ones first, or the outer ones
  pub each_joined : (ls : List (List (List A))) → each joined ls ≡ joined (joined ls)
  each_joined [] = refl
  each_joined (l ∷ ls) = ap (λ (t : List A). joined l ++ t) (each_joined ls) ∙ sym (joined_append l (joined ls))

  -- a test over all is the test over each
  pub every_joined : (p : A → Bool) (ls : List (List A)) → every p (joined ls) ≡ every (every p) ls
  every_joined p [] = refl
  every_joined p (l ∷ ls) = every_append p l (joined ls) ∙ ap (λ (t : Bool). every p l && t) (every_joined p ls)

  pub some_joined : (p : A → Bool) (ls : List (List A)) → some p (joined ls) ≡ some (some p) ls
  some_joined p [] = refl
  some_joined p (l ∷ ls) = some_append p l (joined ls) ∙ ap (λ (t : Bool). some p l || t) (some_joined p ls)

  -- the length of all is the sum of the lengths
  pub length_joined : (ls : List (List A)) → length (joined ls) ≡ sum (map length ls)
  length_joined [] = refl
  length_joined (l ∷ ls) =
      let e : length (l ++ joined ls) ≡ length l + length (joined ls) = length-append l (joined ls) in
      let i : length (joined ls) ≡ sum (map length ls) = length_joined ls in
      omega arith

module _ {A B : Type 0} (f : A → List B) where
  pub each_append : (a b : List A) → each f (a ++ b) ≡ each f a ++ each f b
  each_append [] b = refl
  each_append (x ∷ a) b = ap (λ (l : List B). f x ++ l) (each_append a b) ∙ sym (append_assoc (f x) (each f a) (each f b))
