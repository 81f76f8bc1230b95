-- A list of edges in ascending order is known by its members; `keys` is such a list, of the edges without direction. Assumes nothing.
use mathlib.Core.Path.{◌≡◌, refl, sym, ap, ◌∙◌, subst}
use mathlib.Core.Logic.{⊎_elim}
use mathlib.Core.Bool.{Bool, true, false, cond, ◌||◌, or_self_left}
use mathlib.Core.List.{List, [], ◌∷◌, map, map-id}
use Prim.Native.Nat.{suc}
use Rattle.lists.specs.Lists.{keep_if, only, some, bump}
use Rattle.lists.proofs.Bools.{by_cases}
use Rattle.lists.proofs.Cases.{or_swap}
use Rattle.lists.proofs.Counting.{clash, or_either}
use Rattle.lists.proofs.Alike.{Alike, some_alike}
use Rattle.verdicts.specs.Edges.{Edge, same, key, runs, before, insert, keys}
use Rattle.verdicts.proofs.SameEdge.{same_true, same_refl, Before, before_true, before_false, before_asym, before_trans}

-- x is before each edge of the list; each edge of the list is before those behind it
abbrev pub Above : Edge → List Edge → Type 0
Above x [] = Unit {0}
Above x (y ∷ l) = Before x y × Above x l

abbrev pub Asc : List Edge → Type 0
Asc [] = Unit {0}
Asc (x ∷ l) = Above x l × Asc l

pub above_above : (x y : Edge) (l : List Edge) → Before x y → Above y l → Above x l
above_above x y [] h a = tt
above_above x y (z ∷ l) h a = (before_trans x y z h a.0, above_above x y l h a.1)

-- ---- known by its members, where what g makes of the edges ascends

module _ (g : Edge → Edge) where
  above_member : (x y : Edge) (l : List Edge) → Above (g x) (map g l) → some (same y) l ≡ true → Before (g x) (g y)
  above_member x y [] a h = clash h refl
  above_member x y (z ∷ l) a h =
      ⊎_elim
      (λ p. subst (λ w. Before (g x) (g w)) (sym (same_true y z p)) a.0)
      (λ p. above_member x y l a.1 p)
      (or_either _ _ h)

  -- x is not among the edges that it is before
  pub above_not : (x : Edge) (l : List Edge) → Above (g x) (map g l) → some (same x) l ≡ false
  above_not x l a =
      by_cases
      (some (same x) l)
      (λ p. let k : Before (g x) (g x) = above_member x x l a p in absurd (before_asym (g x) (g x) k k))
      (λ p. p)

  pub unique : (s t : List Edge) → Asc (map g s) → Asc (map g t) → ((x : Edge) → some (same x) s ≡ some (same x) t) → s ≡ t
  unique [] [] a b h = refl
  unique [] (y ∷ t) a b h = clash (ap (λ q. q || some (same y) t) (same_refl y)) (sym (h y))
  unique (x ∷ s) [] a b h = clash (ap (λ q. q || some (same x) s) (same_refl x)) (h x)
  unique (x ∷ s) (y ∷ t) a b h = λ i. heads i ∷ unique s t a.1 b.1 tails i
    where
      in_t : some (same x) (y ∷ t) ≡ true
      in_t = sym (h x) ∙ ap (λ q. q || some (same x) s) (same_refl x)

      in_s : some (same y) (x ∷ s) ≡ true
      in_s = h y ∙ ap (λ q. q || some (same y) t) (same_refl y)

      heads : x ≡ y
      heads =
          ⊎_elim
          (λ p. same_true x y p)
          (λ p.
          ⊎_elim
          (λ q. sym (same_true y x q))
          (λ q. absurd (before_asym (g x) (g y) (above_member x y s a.0 q) (above_member y x t b.0 p)))
          (or_either _ _ in_s))
          (or_either _ _ in_t)

      tails : (z : Edge) → some (same z) s ≡ some (same z) t
      tails z =
          by_cases
          (same z x)
          (λ p. let e : z ≡ x = same_true z x p in rw e (above_not x s a.0 ∙ sym (rw heads (above_not y t b.0))))
          (λ p.
          let k : (same z x || some (same z) s) ≡ (same z y || some (same z) t) = h z in
          let q : same z y ≡ false = rw (← heads) p in
          rw (p, q) at k)

-- an edge stands in an ascending list once or not at all
pub asc_once : (k : Edge) (l : List Edge) → Asc l → runs k l ≡ bump (some (same k) l) 0
asc_once k [] a = refl
asc_once k (x ∷ l) a = go (same k x) refl (asc_once k l a.1)
  where
    go : (b : Bool) → same k x ≡ b → runs k l ≡ bump (some (same k) l) 0 → bump b (runs k l) ≡ bump (b || some (same k) l) 0
    go true q m =
        let n : some (same x) l ≡ false = above_not (λ e. e) x l (rw map-id a.0) in
        let f : some (same k) l ≡ false = rw (same_true k x q) n in
        ap suc (m ∙ rw f)
    go false q m = m

-- ---- what passes a test ascends where all do

only_above : (p : Edge → Bool) (x : Edge) (l : List Edge) → Above x l → Above x (only p l)
only_above p x [] a = tt
only_above p x (y ∷ l) a = go (p y) (only_above p x l a.1)
  where
    go : (b : Bool) → Above x (only p l) → Above x (keep_if b y (only p l))
    go true r = (a.0, r)
    go false r = r

pub only_asc : (p : Edge → Bool) (l : List Edge) → Asc l → Asc (only p l)
only_asc p [] a = tt
only_asc p (y ∷ l) a = go (p y) (only_asc p l a.1)
  where
    go : (b : Bool) → Asc (only p l) → Asc (keep_if b y (only p l))
    go true r = (only_above p y l a.0, r)
    go false r = r

-- ---- `insert` and `keys`

pub insert_member : (x k : Edge) (l : List Edge) → some (same x) (insert k l) ≡ (same x k || some (same x) l)
insert_member x k [] = refl
insert_member x k (y ∷ l) = go (before k y) (same k y) refl (insert_member x k l)
  where
    go :
        (b c : Bool) → same k y ≡ c
        → some (same x) (insert k l) ≡ (same x k || some (same x) l)
        → some (same x) (cond b (k ∷ y ∷ l) (cond c (y ∷ l) (y ∷ insert k l))) ≡ (same x k || (same x y || some (same x) l))
    go true c e m = refl
    go false true e m = rw (same_true k y e) (sym (or_self_left (same x y) (some (same x) l)))
    go false false e m = rw m (or_swap (same x y) (same x k) (some (same x) l))

insert_above : (x k : Edge) (l : List Edge) → Before x k → Above x l → Above x (insert k l)
insert_above x k [] h a = (h, tt)
insert_above x k (y ∷ l) h a = go (before k y) (same k y) (insert_above x k l h a.1)
  where
    go : (b c : Bool) → Above x (insert k l) → Above x (cond b (k ∷ y ∷ l) (cond c (y ∷ l) (y ∷ insert k l)))
    go true c r = (h, a)
    go false true r = a
    go false false r = (a.0, r)

pub insert_asc : (k : Edge) (l : List Edge) → Asc l → Asc (insert k l)
insert_asc k [] a = (tt, tt)
insert_asc k (y ∷ l) a = go (before k y) (same k y) refl refl (insert_asc k l a.1)
  where
    go :
        (b c : Bool) → before k y ≡ b
        → same k y ≡ c
        → Asc (insert k l)
        → Asc (cond b (k ∷ y ∷ l) (cond c (y ∷ l) (y ∷ insert k l)))
    go true c e f r = let h : Before k y = before_true k y e in ((h, above_above k y l h a.0), a)
    go false true e f r = a
    go false false e f r = (insert_above y k l (before_false k y e f) a.0, r)

pub keys_asc : (es : List Edge) → Asc (keys es)
keys_asc [] = tt
keys_asc (e ∷ es) = insert_asc (key e) (keys es) (keys_asc es)

pub keys_member : (x : Edge) (es : List Edge) → some (same x) (keys es) ≡ some (λ e. same x (key e)) es
keys_member x [] = refl
keys_member x (e ∷ es) = insert_member x (key e) (keys es) ∙ ap (λ b. same x (key e) || b) (keys_member x es)

-- so the same edges, each as often, have the same keys
pub keys_alike : {es fs : List Edge} → Alike es fs → keys es ≡ keys fs
keys_alike {es} {fs} h =
    unique
    (λ e. e)
    (keys es)
    (keys fs)
    (rw map-id (keys_asc es))
    (rw map-id (keys_asc fs))
    (λ x. keys_member x es ∙ some_alike (λ e. same x (key e)) h ∙ sym (keys_member x fs))
