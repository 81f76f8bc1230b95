-- Numbers that stand in a list, and numbers below a bound that do not. Assumes nothing.
use mathlib.Core.Path.{◌≡◌, refl, sym, ap, ◌∙◌, subst, fun_ext}
use mathlib.Core.Logic.{◌⊎◌, inl, inr, ⊎_elim}
use mathlib.Core.Bool.{Bool, true, false, not, ◌&&◌, ◌||◌, or-false, or_comm}
use mathlib.Core.List.{List, [], ◌∷◌, ◌++◌}
use Prim.Native.Nat.{ℕ, zero, suc, ◌+◌, ◌≤◌, ◌<◌}
use native.Mathlib.Omega.{arith}
use lib.Dec.{eqb}
use lib.ListN.{length}
use borrow.Author.Tests.{eqb-true, eqb-false, eq-eqb, ne_eqb}
use Rattle.lists.specs.Lists.{keep_if, bump, count, has}
use Rattle.lists.specs.Numbers.{count_below}
use Rattle.lists.proofs.Bools.{by_cases, or_left, or_right}
use Rattle.lists.proofs.Parts.{some_append}
use Rattle.lists.proofs.Counting.{clash, or_either, bump_plus, pos, count_append, count_length, some_count, count_some, count_none}

-- ---- x stands in l

abbrev pub In : ℕ → List ℕ → Type 0
In x l = has x l ≡ true

pub in_cases : (x y : ℕ) (l : List ℕ) → In x (y ∷ l) → (x ≡ y) ⊎ In x l
in_cases x y l h = ⊎_elim (λ p. inl (eqb-true x y p)) inr (or_either (eqb x y) (has x l) h)

pub in_head : (x : ℕ) (l : List ℕ) → In x (x ∷ l)
in_head x l = or_left (eqb x x) (has x l) (eq-eqb x x refl)

pub in_tail : (x y : ℕ) (l : List ℕ) → In x l → In x (y ∷ l)
in_tail x y l h = or_right (eqb x y) (has x l) h

pub in_left : (x : ℕ) (s t : List ℕ) → In x s → In x (s ++ t)
in_left x s t h = some_append (eqb x) s t ∙ or_left (has x s) (has x t) h

pub in_right : (x : ℕ) (s t : List ℕ) → In x t → In x (s ++ t)
in_right x s t h = some_append (eqb x) s t ∙ or_right (has x s) (has x t) h

pub in_append : (x : ℕ) (s t : List ℕ) → In x (s ++ t) → In x s ⊎ In x t
in_append x s t h = or_either (has x s) (has x t) (sym (some_append (eqb x) s t) ∙ h)

pub in_one : (x y : ℕ) → In x (y ∷ []) → x ≡ y
in_one x y h = ⊎_elim (λ e. e) (λ e. clash e refl) (in_cases x y [] h)

-- one more behind the list
pub in_snoc : (x y : ℕ) (s : List ℕ) → In x (s ++ (y ∷ [])) → In x s ⊎ (x ≡ y)
in_snoc x y s h = ⊎_elim inl (λ p. inr (in_one x y p)) (in_append x s (y ∷ []) h)

pub in_last : (y : ℕ) (s : List ℕ) → In y (s ++ (y ∷ []))
in_last y s = in_right y s (y ∷ []) (in_head y [])

pub has_snoc : (x y : ℕ) (l : List ℕ) → has x (l ++ (y ∷ [])) ≡ (eqb x y || has x l)
has_snoc x y l =
    some_append (eqb x) l (y ∷ []) ∙ ap (λ b. has x l || b) (or-false (eqb x y)) ∙ or_comm (has x l) (eqb x y)

pub has_keep : (x y : ℕ) (b : Bool) (l : List ℕ) → has x (keep_if b y l) ≡ ((b && eqb x y) || has x l)
has_keep x y true l = refl
has_keep x y false l = refl

-- ---- each number at most once

abbrev pub Once : List ℕ → Type 0
Once l = (x : ℕ) → count (eqb x) l ≤ 1

-- two lists that have no number in common
pub once_append : (s t : List ℕ) → Once s → Once t → ((x : ℕ) → In x t → has x s ≡ false) → Once (s ++ t)
once_append s t a b h x =
    let e : count (eqb x) (s ++ t) ≡ count (eqb x) s + count (eqb x) t = count_append (eqb x) s t in
    let a' : count (eqb x) s ≤ 1 = a x in
    let b' : count (eqb x) t ≤ 1 = b x in
    by_cases
    (has x t)
    (λ p. let z : count (eqb x) s ≡ 0 = count_none (eqb x) s (h x p) in omega arith)
    (λ p. let z : count (eqb x) t ≡ 0 = count_none (eqb x) t p in omega arith)

-- a number stands in one of two lists, and what stands in the second stands there once
pub once_apart : {A : Type 0} (x : ℕ) (s t : List ℕ) → Once (s ++ t) → In x s → In x t → A
once_apart x s t o p q =
    let a : count (eqb x) (s ++ t) ≤ 1 = o x in
    let b : 0 < count (eqb x) s = count_some (eqb x) s p in
    let c : 0 < count (eqb x) t = count_some (eqb x) t q in
    absurd (omega (arith, count_append (eqb x) s t))

pub once_rear : (s t : List ℕ) → Once (s ++ t) → Once t
once_rear s t o x = let a : count (eqb x) (s ++ t) ≤ 1 = o x in omega (arith, count_append (eqb x) s t)

pub once_one : (y : ℕ) → Once (y ∷ [])
once_one y x = count_length (eqb x) (y ∷ [])

-- a number that is not there comes in, in front of the list or behind it
pub once_cons : (y : ℕ) (l : List ℕ) → has y l ≡ false → Once l → Once (y ∷ l)
once_cons y l n o x =
    by_cases
    (eqb x y)
    (λ e. let z : count (eqb x) l ≡ 0 = count_none (eqb x) l (ap (λ (k : ℕ). has k l) (eqb-true x y e) ∙ n) in rw e (omega arith))
    (λ e. rw e (o x))

pub once_snoc : (l : List ℕ) (y : ℕ) → Once l → has y l ≡ false → Once (l ++ (y ∷ []))
once_snoc l y o n = once_append l (y ∷ []) o (once_one y) (λ x p. subst (λ z. has z l ≡ false) (sym (in_one x y p)) n)

-- in a list where each number stands at most once, one that is there stands once
pub once_in : (l : List ℕ) → Once l → (x : ℕ) → In x l → count (eqb x) l ≡ 1
once_in l o x p = let a : count (eqb x) l ≤ 1 = o x in let b : 0 < count (eqb x) l = count_some (eqb x) l p in omega arith

-- ---- how many numbers below m do not stand in l

abbrev pub free : ℕ → List ℕ → ℕ
free m l = count_below (λ x. not (has x l)) m

pub free_none : (m : ℕ) → free m [] ≡ m
unfolding count_below
free_none zero = refl
free_none (suc m) = ap suc (free_none m)

pub free_full : (m : ℕ) (l : List ℕ) → ((x : ℕ) → x < m → In x l) → free m l ≡ 0
unfolding count_below
free_full zero l h = refl
free_full (suc m) l h =
    let e : has m l ≡ true = h m (omega arith) in rw e (free_full m l (λ x k. h x (let k' : x < m = k in omega arith)))

free_past : (m y : ℕ) (l : List ℕ) → m ≤ y → free m (y ∷ l) ≡ free m l
unfolding count_below
free_past zero y l h = refl
free_past (suc m) y l h = rw (ne_eqb m y (λ e. omega arith), free_past m y l (omega arith))

-- a number below m that comes in new leaves one fewer, in front of the list or behind it
pub free_cons : (m y : ℕ) (l : List ℕ) → y < m → has y l ≡ false → free m l ≡ suc (free m (y ∷ l))
unfolding count_below
free_cons zero y l h n = absurd (omega arith)
free_cons (suc m) y l h n = by_cases (eqb m y) here (there (λ k. free_cons m y l k n))
  where
    here : eqb m y ≡ true → free (suc m) l ≡ suc (free (suc m) (y ∷ l))
    here p =
        let e : m ≡ y = eqb-true m y p in
        let n' : has m l ≡ false = rw e n in
        rw (p, n', free_past m y l (omega arith))

    there : (y < m → free m l ≡ suc (free m (y ∷ l))) → eqb m y ≡ false → free (suc m) l ≡ suc (free (suc m) (y ∷ l))
    there r p =
        let ne : m ≡ y → ⊥ = eqb-false m y p in
        let f : free m l ≡ suc (free m (y ∷ l)) = r (omega arith) in
        let a : _ = bump_plus (not (has m l)) (free m l) in
        let b : _ = bump_plus (not (has m l)) (free m (y ∷ l)) in
        rw p (omega arith)

pub free_snoc : (m y : ℕ) (l : List ℕ) → y < m → has y l ≡ false → free m l ≡ suc (free m (l ++ (y ∷ [])))
free_snoc m y l h n =
    free_cons m y l h n ∙ ap (λ t. suc (count_below t m)) (fun_ext (λ x. ap not (sym (has_snoc x y l))))

-- numbers below m, each at most once: as many as there are, and those that are missing, are m
pub once_free : (m : ℕ) (l : List ℕ) → Once l → ((x : ℕ) → In x l → x < m) → length l + free m l ≡ m
once_free m [] o b = let e : free m [] ≡ m = free_none m in omega arith
once_free m (y ∷ l) o b =
    let c : bump (eqb y y) (count (eqb y) l) ≤ 1 = o y in
    let s : suc (count (eqb y) l) ≤ 1 = rw (eq-eqb y y refl) at c in
    let z : count (eqb y) l ≡ 0 = omega arith in
    let n : has y l ≡ false = some_count (eqb y) l ∙ ap pos z in
    let f : free m l ≡ suc (free m (y ∷ l)) = free_cons m y l (b y (in_head y l)) n in
    let e : length l + free m l ≡ m = once_free m l rest (λ x h. b x (in_tail x y l h)) in
    omega arith
  where
    rest : Once l
    rest x =
        let c : count (eqb x) (y ∷ l) ≤ 1 = o x in
        let a : _ = bump_plus (eqb x y) (count (eqb x) l) in
        omega arith

-- each of them once: there are m
pub once_length : (m : ℕ) (l : List ℕ) → Once l → ((x : ℕ) → In x l → x < m) → ((x : ℕ) → x < m → In x l) → length l ≡ m
once_length m l o b p = let e : _ = once_free m l o b in let z : free m l ≡ 0 = free_full m l p in omega arith
