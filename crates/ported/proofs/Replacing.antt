-- An edge that replaces an earlier one with the same start: in the map from start to end, and in the first table. Assumes nothing.
use mathlib.Core.Path.{◌≡◌, refl, sym, ap, ◌∙◌}
use mathlib.Core.Bool.{Bool, true, false, cond}
use mathlib.Core.List.{List, [], ◌∷◌, ◌++◌}
use Prim.Native.Nat.{ℕ, suc, ◌+◌, ◌≤◌, ◌<◌}
use native.Mathlib.Nat.{add-zero}
use native.Mathlib.Omega.{arith}
use lib.Dec.{leb, ltb, eqb}
use lib.ListN.{length, get_or, set}
use lib.Seq.{get_or-set_same, get_or-set_other}
use borrow.Author.Tests.{leb-true, ltb-true, ltb-false, eqb-true, eqb-false, eq-eqb, ne_eqb}
use Rattle.lists.specs.Lists.{keep_if}
use Rattle.lists.proofs.Bools.{by_cases}
use Rattle.edges.specs.Edges.{Edge}
use Rattle.ported.specs.Ported.{put, fill}
use Rattle.tracing.specs.Tables.{left_from}
use Rattle.tracing.proofs.Twins.{from}

-- ---- the map: its starts ascend strictly, and an edge put in is the only one at its start

abbrev pub Over : ℕ → List Edge → Type 0
Over a [] = Unit {0}
Over a (e ∷ m) = (a < e.0) × Over a m

abbrev pub Climbs : List Edge → Type 0
Climbs [] = Unit {0}
Climbs (e ∷ m) = Over e.0 m × Climbs m

over_less : (a b : ℕ) (m : List Edge) → a ≤ b → Over b m → Over a m
over_less a b [] l o = tt
over_less a b (e ∷ m) l o = (omega (arith, o.0), over_less a b m l o.1)

put_over : (a : ℕ) (d : Edge) (m : List Edge) → a < d.0 → Over a m → Over a (put d m)
put_over a d [] l o = (l, tt)
put_over a d (e ∷ m) l o = go (ltb d.0 e.0) (eqb d.0 e.0) (put_over a d m l o.1)
  where
    go : (b c : Bool) → Over a (put d m) → Over a (cond b (d ∷ e ∷ m) (cond c (d ∷ m) (e ∷ put d m)))
    go true c h = (l, o)
    go false true h = (l, o.1)
    go false false h = (o.0, h)

put_climbs : (d : Edge) (m : List Edge) → Climbs m → Climbs (put d m)
put_climbs d [] c = (tt, tt)
put_climbs d (e ∷ m) c = go (ltb d.0 e.0) refl (eqb d.0 e.0) refl (put_climbs d m c.1)
  where
    go :
        (b : Bool) → ltb d.0 e.0 ≡ b → (q : Bool) → eqb d.0 e.0 ≡ q → Climbs (put d m)
        → Climbs (cond b (d ∷ e ∷ m) (cond q (d ∷ m) (e ∷ put d m)))
    go true p q r h = let l : d.0 < e.0 = ltb-true d.0 e.0 p in ((l, over_less d.0 e.0 m (omega arith) c.0), c)
    go false p true r h = let l : d.0 ≡ e.0 = eqb-true d.0 e.0 r in (over_less d.0 e.0 m (omega arith) c.0, c.1)
    go false p false r h =
        let l : e.0 ≤ d.0 = ltb-false d.0 e.0 p in
        let n : d.0 ≡ e.0 → ⊥ = eqb-false d.0 e.0 r in
        (put_over e.0 d m (omega arith) c.0, h)

from_over : (s a : ℕ) (m : List Edge) → s ≤ a → Over a m → from s m ≡ []
from_over s a [] l o = refl
from_over s a (e ∷ m) l o =
    let n : eqb s e.0 ≡ false = ne_eqb s e.0 (λ z. omega (arith, o.0)) in
    rw n (from_over s a m l o.1)

-- the edges at s, once d is put in
pub put_at : (s : ℕ) (d : Edge) (m : List Edge) → s ≡ d.0 → Climbs m → from s (put d m) ≡ d ∷ []
put_at s d [] q c = rw (eq-eqb s d.0 q)
put_at s d (e ∷ m) q c = go (ltb d.0 e.0) refl (eqb d.0 e.0) refl (put_at s d m q c.1)
  where
    here : eqb s d.0 ≡ true
    here = eq-eqb s d.0 q

    go :
        (b : Bool) → ltb d.0 e.0 ≡ b → (r : Bool) → eqb d.0 e.0 ≡ r → from s (put d m) ≡ d ∷ []
        → from s (cond b (d ∷ e ∷ m) (cond r (d ∷ m) (e ∷ put d m))) ≡ d ∷ []
    go true p r x h =
        let l : d.0 < e.0 = ltb-true d.0 e.0 p in
        rw here (ap (λ (g : List Edge). d ∷ g) (from_over s d.0 (e ∷ m) (omega arith) (l, over_less d.0 e.0 m (omega arith) c.0)))
    go false p true x h =
        let l : d.0 ≡ e.0 = eqb-true d.0 e.0 x in
        rw here (ap (λ (g : List Edge). d ∷ g) (from_over s e.0 m (omega arith) c.0))
    go false p false x h =
        let n : eqb s e.0 ≡ false = ne_eqb s e.0 (λ z. eqb-false d.0 e.0 x (sym q ∙ z)) in
        rw n h

pub put_off : (s : ℕ) (d : Edge) (m : List Edge) → (s ≡ d.0 → ⊥) → from s (put d m) ≡ from s m
put_off s d [] n = rw (ne_eqb s d.0 n)
put_off s d (e ∷ m) n = go (ltb d.0 e.0) (eqb d.0 e.0) refl (put_off s d m n)
  where
    off : eqb s d.0 ≡ false
    off = ne_eqb s d.0 n

    go :
        (b r : Bool) → eqb d.0 e.0 ≡ r → from s (put d m) ≡ from s m
        → from s (cond b (d ∷ e ∷ m) (cond r (d ∷ m) (e ∷ put d m))) ≡ keep_if (eqb s e.0) e (from s m)
    go true r x h = rw off
    go false true x h =
        let l : d.0 ≡ e.0 = eqb-true d.0 e.0 x in
        rw (off, ne_eqb s e.0 (λ z. n (z ∙ sym l)))
    go false false x h = ap (λ (g : List Edge). keep_if (eqb s e.0) e g) h

pub fill_snoc : (t d : List Edge) (e : Edge) → fill t (d ++ (e ∷ [])) ≡ put e (fill t d)
fill_snoc t [] e = refl
fill_snoc t (x ∷ d) e = fill_snoc (put x t) d e

pub fill_climbs : (t d : List Edge) → Climbs t → Climbs (fill t d)
fill_climbs t [] c = c
fill_climbs t (x ∷ d) c = fill_climbs (put x t) d (put_climbs x t c)

-- ---- the table

pub left_append : (firsts : List ℕ) (i : ℕ) (a b : List Edge) → left_from firsts i (a ++ b) ≡ left_from firsts i a ++ left_from firsts (i + length a) b
left_append firsts i [] b = ap (λ (n : ℕ). left_from firsts n b) (sym (add-zero i))
left_append firsts i (e ∷ a) b =
    go (leb (get_or firsts e.0 0) i)
    (left_append firsts (suc i) a b ∙ ap (λ (n : ℕ). left_from firsts (suc i) a ++ left_from firsts n b) (omega arith))
  where
    go :
        (t : Bool) → left_from firsts (suc i) (a ++ b) ≡ left_from firsts (suc i) a ++ left_from firsts (i + suc (length a)) b
        → keep_if t e (left_from firsts (suc i) (a ++ b)) ≡ keep_if t e (left_from firsts (suc i) a) ++ left_from firsts (i + suc (length a)) b
    go true h = ap (λ (g : List Edge). e ∷ g) h
    go false h = h

module _ (firsts : List ℕ) (c x : ℕ) (inside : c < length firsts) where
  -- elsewhere nothing changes; at c nothing is left of what is numbered below x
  pub set_off : (s i : ℕ) (h : List Edge) → (s ≡ c → ⊥) → from s (left_from (set firsts c x) i h) ≡ from s (left_from firsts i h)
  set_off s i [] n = refl
  set_off s i (e ∷ h) n =
      by_cases (eqb s e.0)
      (λ q.
      let z : s ≡ e.0 = eqb-true s e.0 q in
      let t : get_or (set firsts c x) e.0 0 ≡ get_or firsts e.0 0 = get_or-set_other firsts c e.0 x 0 (λ y. n (z ∙ y)) in
      rw t (go (leb (get_or firsts e.0 0) i) (leb (get_or firsts e.0 0) i) refl (set_off s (suc i) h n)))
      (λ q. drop_both q (leb (get_or (set firsts c x) e.0 0) i) (leb (get_or firsts e.0 0) i) (set_off s (suc i) h n))
    where
      go :
          (a b : Bool) → a ≡ b → from s (left_from (set firsts c x) (suc i) h) ≡ from s (left_from firsts (suc i) h)
          → from s (keep_if a e (left_from (set firsts c x) (suc i) h)) ≡ from s (keep_if b e (left_from firsts (suc i) h))
      go true true p f = ap (λ (g : List Edge). keep_if (eqb s e.0) e g) f
      go true false p f = absurd (let z : ◌≡◌ {A = ℕ} 0 1 = cc in omega arith)
      go false true p f = absurd (let z : ◌≡◌ {A = ℕ} 0 1 = cc in omega arith)
      go false false p f = f

      drop_both :
          eqb s e.0 ≡ false → (a b : Bool) → from s (left_from (set firsts c x) (suc i) h) ≡ from s (left_from firsts (suc i) h)
          → from s (keep_if a e (left_from (set firsts c x) (suc i) h)) ≡ from s (keep_if b e (left_from firsts (suc i) h))
      drop_both q true true f = rw q f
      drop_both q true false f = rw q f
      drop_both q false true f = rw q f
      drop_both q false false f = f

  pub set_at : (i : ℕ) (h : List Edge) → i + length h ≤ x → from c (left_from (set firsts c x) i h) ≡ []
  set_at i [] l = refl
  set_at i (e ∷ h) l =
      go (leb (get_or (set firsts c x) e.0 0) i) refl (set_at (suc i) h (omega arith))
    where
      go :
          (b : Bool) → leb (get_or (set firsts c x) e.0 0) i ≡ b → from c (left_from (set firsts c x) (suc i) h) ≡ []
          → from c (keep_if b e (left_from (set firsts c x) (suc i) h)) ≡ []
      go true p f =
          let n : eqb c e.0 ≡ false = ne_eqb c e.0 (λ z.
          let a : get_or (set firsts c x) e.0 0 ≤ i = leb-true (get_or (set firsts c x) e.0 0) i p in
          let b : get_or (set firsts c x) e.0 0 ≡ x = ap (λ (s : ℕ). get_or (set firsts c x) s 0) (sym z) ∙ get_or-set_same firsts c x 0 inside in
          omega arith) in
          rw n f
      go false p f = f
