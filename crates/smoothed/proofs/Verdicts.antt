-- Verdicts of edges that come in two parts with no edge in common, and of edges that are all run there and back. Assumes nothing.
use mathlib.Core.Path.{◌≡◌, refl, sym, ap, ap₂, ◌∙◌}
use mathlib.Core.Logic.{◌⊎◌, inl, inr}
use mathlib.Core.Bool.{Bool, true, false, cond, not, ◌||◌, or-false}
use mathlib.Core.List.{List, [], ◌∷◌, ◌++◌}
use Prim.Native.Nat.{ℕ, ◌≤◌, ◌<◌}
use native.Mathlib.Omega.{arith}
use lib.Dec.{leb, eqb}
use borrow.Author.Tests.{leb-true, leb-false, ne_eqb}
use Rattle.lists.specs.Lists.{some, each}
use Rattle.lists.proofs.Bools.{by_cases, true_false}
use Rattle.lists.proofs.Counting.{count_append}
use Rattle.lists.proofs.Parts.{some_append}
use Rattle.lists.proofs.Others.{eqb_self}
use Rattle.verdicts.specs.Edges.{Edge, same, flip, key, uses, runs, thrice, alike, once, Irregular, Regular, Oriented, Closed, verdict}
use Rattle.verdicts.proofs.SameEdge.{same_true, same_refl}
use Rattle.verdicts.proofs.Keys.{key_or_flip}
use Rattle.smoothed.proofs.All.{All, none, more, all_map, some_all, count_zero, all_each}

-- ---- keys

pub key_flip : (e : Edge) → key (flip e) ≡ key e
unfolding key
key_flip e = go (leb e.0 e.1) (leb e.1 e.0) refl refl
  where
    go :
        (b c : Bool) → leb e.0 e.1 ≡ b → leb e.1 e.0 ≡ c → cond c (flip e) (flip (flip e)) ≡ cond b e (flip e)
    go true true p q =
        let l : e.0 ≤ e.1 = leb-true e.0 e.1 p in
        let m : e.1 ≤ e.0 = leb-true e.1 e.0 q in
        let s : e.1 ≡ e.0 = omega arith in
        λ i. (s i, sym s i)
    go true false p q = refl
    go false true p q = refl
    go false false p q =
        let l : e.1 < e.0 = leb-false e.0 e.1 p in
        let m : e.0 < e.1 = leb-false e.1 e.0 q in
        absurd (omega arith)

-- one edge without direction is one edge, or one edge run both ways
pub key_cases : (d e : Edge) → key d ≡ key e → (d ≡ e) ⊎ (d ≡ flip e)
key_cases d e k = go (key_or_flip d) (key_or_flip e)
  where
    go : (d ≡ key d) ⊎ (d ≡ flip (key d)) → (e ≡ key e) ⊎ (e ≡ flip (key e)) → (d ≡ e) ⊎ (d ≡ flip e)
    go (inl p) (inl q) = inl (p ∙ k ∙ sym q)
    go (inl p) (inr q) = inr (p ∙ k ∙ ap flip (sym q))
    go (inr p) (inl q) = inr (p ∙ ap flip (k ∙ sym q))
    go (inr p) (inr q) = inl (p ∙ ap flip k ∙ sym q)

-- ---- two parts

differ : {A : Type 0} (b : Bool) → b ≡ not b → A
differ true e = true_false e
differ false e = true_false (sym e)

-- a test of edges without direction that tells the parts apart: what passes is not used where none passes, and the other way round
module _ (p : Edge → Bool) (b : Bool) {t : List Edge} (a : All (λ e. p (key e) ≡ not b) t) where
  away_uses : (k : Edge) → p k ≡ b → uses k t ≡ 0
  away_uses k h =
      count_zero (λ e. same k (key e))
      (all_map
      (λ e q. by_cases (same k (key e)) (λ s. differ b (sym h ∙ ap p (same_true k (key e) s) ∙ q)) (λ s. s))
      a)

  away_runs : (d : Edge) → p (key d) ≡ b → runs d t ≡ 0
  away_runs d h =
      count_zero (same d)
      (all_map (λ e q. by_cases (same d e) (λ s. differ b (sym h ∙ ap (λ x. p (key x)) (same_true d e s) ∙ q)) (λ s. s)) a)

-- a test of counts that are not changed by the other part
parted :
    (q : ℕ → Bool) (f : Edge → List Edge → ℕ) (s t : List Edge) → All (λ e. f e (s ++ t) ≡ f e s) s
    → All (λ e. f e (s ++ t) ≡ f e t) t
    → some (λ e. q (f e (s ++ t))) (s ++ t) ≡ (some (λ e. q (f e s)) s || some (λ e. q (f e t)) t)
parted q f s t a b =
    some_append (λ e. q (f e (s ++ t))) s t
    ∙ ap₂ ◌||◌
    (some_all (λ e. q (f e (s ++ t))) (λ e. q (f e s)) (all_map (λ e h. ap q h) a))
    (some_all (λ e. q (f e (s ++ t))) (λ e. q (f e t)) (all_map (λ e h. ap q h) b))

pub record Shut (es : List Edge) : Type 0 where
  pub not_thrice : thrice es ≡ false
  pub not_alike : alike es ≡ false
  pub not_once : once es ≡ false

pub shut : (es : List Edge) → verdict es ≡ Closed → Shut es
unfolding verdict
shut es v = go (thrice es) refl (alike es) refl (once es) refl v
  where
    go :
        (a : Bool) → thrice es ≡ a → (b : Bool) → alike es ≡ b → (c : Bool) → once es ≡ c
        → cond a Irregular (cond b Regular (cond c Oriented Closed)) ≡ Closed → Shut es
    go true p b q c r h = absurd (let z : ◌≡◌ {A = ℕ} 0 1 = cc in omega arith)
    go false p true q c r h = absurd (let z : ◌≡◌ {A = ℕ} 0 1 = cc in omega arith)
    go false p false q true r h = absurd (let z : ◌≡◌ {A = ℕ} 0 1 = cc in omega arith)
    go false p false q false r h = record { not_thrice = p; not_alike = q; not_once = r }

-- beside edges that are Closed by themselves the others keep their verdict
pub verdict_beside :
    (p : Edge → Bool) (s t : List Edge) → All (λ e. p (key e) ≡ true) s → All (λ e. p (key e) ≡ false) t → verdict t ≡ Closed
    → verdict (s ++ t) ≡ verdict s
unfolding verdict
verdict_beside p s t a b v =
    let c : Shut t = shut t v in
    rw (
      parted (λ n. leb 3 n) (λ e l. uses (key e) l) s t uses_s uses_t,
      parted (λ n. leb 2 n) (λ e l. runs e l) s t runs_s runs_t,
      parted (λ n. eqb 1 n) (λ e l. uses (key e) l) s t uses_s uses_t,
      c.not_thrice,
      c.not_alike,
      c.not_once,
      or-false (thrice s),
      or-false (alike s),
      or-false (once s),
    )
  where
    uses_s : All (λ e. uses (key e) (s ++ t) ≡ uses (key e) s) s
    uses_s =
        all_map (λ e h. let z : uses (key e) t ≡ 0 = away_uses p true b (key e) h in omega (arith, count_append (λ x. same (key e) (key x)) s t)) a

    uses_t : All (λ e. uses (key e) (s ++ t) ≡ uses (key e) t) t
    uses_t =
        all_map (λ e h. let z : uses (key e) s ≡ 0 = away_uses p false a (key e) h in omega (arith, count_append (λ x. same (key e) (key x)) s t)) b

    runs_s : All (λ e. runs e (s ++ t) ≡ runs e s) s
    runs_s = all_map (λ e h. let z : runs e t ≡ 0 = away_runs p true b e h in omega (arith, count_append (same e) s t)) a

    runs_t : All (λ e. runs e (s ++ t) ≡ runs e t) t
    runs_t = all_map (λ e h. let z : runs e s ≡ 0 = away_runs p false a e h in omega (arith, count_append (same e) s t)) b

-- ---- there and back

abbrev pub pair : Edge → List Edge
pair e = e ∷ flip e ∷ []

pub pair_closed : (e : Edge) → (e.0 ≡ e.1 → ⊥) → verdict (pair e) ≡ Closed
unfolding verdict
pair_closed e n =
    let m : eqb e.0 e.1 ≡ false = ne_eqb e.0 e.1 n in
    let o : eqb e.1 e.0 ≡ false = ne_eqb e.1 e.0 (λ q. n (sym q)) in
    simp (key_flip e, eqb_self, m, o)

-- edges, no two of which are one without direction
pub data Distinct : List Edge → Type 0 where
  empty : Distinct []
  front : {e : Edge} {es : List Edge} → All (λ d. same (key e) (key d) ≡ false) es → Distinct es → Distinct (e ∷ es)

pub pairs_closed : {es : List Edge} → All (λ e. e.0 ≡ e.1 → ⊥) es → Distinct es → verdict (each pair es) ≡ Closed
unfolding verdict
pairs_closed none empty = refl
pairs_closed (more {x = e} {l = es} n ns) (front d ds) =
    verdict_beside (λ k. same (key e) k) (pair e) (each pair es)
    (more (same_refl (key e)) (more (rw (key_flip e) (same_refl (key e))) none))
    (all_each pair (all_map (λ x h. more h (more (rw (key_flip x) h) none)) d))
    (pairs_closed ns ds)
    ∙ pair_closed e n
