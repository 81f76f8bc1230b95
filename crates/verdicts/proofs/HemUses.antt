-- How often an edge stands among the hem edges: by its uses, and by the direction of its last use. Assumes nothing.
use mathlib.Core.Path.{◌≡◌, refl, sym, ap, ◌∙◌, subst}
use mathlib.Core.Logic.{◌⊎◌, inl, inr, ⊎_elim}
use mathlib.Core.Bool.{Bool, true, false, cond}
use mathlib.Core.List.{List, [], ◌∷◌, map}
use Prim.Native.Nat.{ℕ, zero, suc, ◌+◌, ◌≤◌, ◌<◌}
use native.Mathlib.Omega.{arith}
use lib.Dec.{leb, eqb}
use borrow.Author.Tests.{leb-true, leb-false, le-leb}
use Rattle.lists.specs.Lists.{bump, keep_if, only, some}
use Rattle.lists.proofs.Bools.{by_cases, or_left, or_right}
use Rattle.lists.proofs.Only.{some_only}
use Rattle.lists.proofs.Counting.{clash, or_either, pos, some_count, count_some, count_none, count_less, some_less}
use Rattle.verdicts.specs.Edges.{Edge, same, flip, key, uses, runs, thrice, alike, verdict, Irregular, Regular, keys, odd, last_or, hem_keys, hems}
use Rattle.verdicts.proofs.SameEdge.{same_true, same_refl, same_of, found}
use Rattle.verdicts.proofs.Ascending.{Asc, asc_once, only_asc, keys_asc, keys_member}

-- ---- keys

pub key_key : (e : Edge) → key (key e) ≡ key e
unfolding key
key_key e = go (leb e.0 e.1) refl
  where
    go : (b : Bool) → leb e.0 e.1 ≡ b → key (cond b e (flip e)) ≡ cond b e (flip e)
    go true q = rw q
    go false q = rw (le-leb e.1 e.0 (let l : e.1 < e.0 = leb-false e.0 e.1 q in omega arith))

pub key_flip : (d : Edge) → key (flip d) ≡ key d
unfolding key
key_flip d = go (leb d.0 d.1) refl (leb d.1 d.0) refl
  where
    go : (a : Bool) → leb d.0 d.1 ≡ a → (b : Bool) → leb d.1 d.0 ≡ b → cond b (flip d) d ≡ cond a d (flip d)
    go true p true q =
        let x : d.0 ≤ d.1 = leb-true d.0 d.1 p in
        let y : d.1 ≤ d.0 = leb-true d.1 d.0 q in
        let e : d.1 ≡ d.0 = omega arith in
        λ i. (e i, sym e i)
    go true p false q = refl
    go false p true q = refl
    go false p false q =
        absurd (let x : d.1 < d.0 = leb-false d.0 d.1 p in let y : d.0 < d.1 = leb-false d.1 d.0 q in omega arith)

pub key_same : (d e : Edge) → key d ≡ key e → (d ≡ e) ⊎ (flip d ≡ e)
unfolding key
key_same d e = go (leb d.0 d.1) (leb e.0 e.1)
  where
    go : (a b : Bool) → cond a d (flip d) ≡ cond b e (flip e) → (d ≡ e) ⊎ (flip d ≡ e)
    go true true p = inl p
    go true false p = inr (ap flip p)
    go false true p = inr p
    go false false p = inl (ap flip p)

-- an edge between two positions is used in the one direction or in the other
pub uses_split : (d : Edge) → (d.0 ≡ d.1 → ⊥) → (es : List Edge) → uses (key d) es ≡ runs d es + runs (flip d) es
uses_split d ne [] = omega arith
uses_split d ne (e ∷ es) =
    go (same (key d) (key e)) refl (same d e) refl (same (flip d) e) refl (uses_split d ne es)
  where
    go :
        (a : Bool) → same (key d) (key e) ≡ a → (b : Bool) → same d e ≡ b → (c : Bool) → same (flip d) e ≡ c
        → uses (key d) es ≡ runs d es + runs (flip d) es → bump a (uses (key d) es) ≡ bump b (runs d es) + bump c (runs (flip d) es)
    go a p true q true r ih =
        let k : d ≡ flip d = same_true d e q ∙ sym (same_true (flip d) e r) in absurd (ne (ap (λ (x : Edge). x.0) k))
    go true p true q false r ih = omega arith
    go true p false q true r ih = omega arith
    go true p false q false r ih =
        ⊎_elim (λ k. clash (same_of d e k) q) (λ k. clash (same_of (flip d) e k) r) (key_same d e (same_true (key d) (key e) p))
    go false p true q false r ih = clash (same_of (key d) (key e) (ap key (same_true d e q))) p
    go false p false q true r ih = clash (same_of (key d) (key e) (sym (key_flip d) ∙ ap key (same_true (flip d) e r))) p
    go false p false q false r ih = ih

pub runs_uses : (d : Edge) (es : List Edge) → runs d es ≤ uses (key d) es
runs_uses d es = count_less (same d) (λ e. same (key d) (key e)) es (λ x p. same_of (key d) (key x) (ap key (same_true d x p)))

-- ---- the last use

pub key_last : (k d : Edge) (es : List Edge) → key d ≡ k → key (last_or k d es) ≡ k
key_last k d [] h = h
key_last k d (x ∷ es) h = key_last k (cond (same k (key x)) x d) es (go (same k (key x)) refl)
  where
    go : (b : Bool) → same k (key x) ≡ b → key (cond b x d) ≡ k
    go true q = sym (same_true k (key x) q)
    go false q = h

-- the last use of a key that is used has that key
pub last_key : (es : List Edge) (k : Edge) → some (same k) (keys es) ≡ true → key (last_or k k es) ≡ k
last_key es k m =
    let r : (e : Edge) × (same k (key e) ≡ true) × (some (same e) es ≡ true) = found (λ e. same k (key e)) es (sym (keys_member k es) ∙ m) in
    key_last k k es (subst (λ j. key j ≡ j) (sym (same_true k (key r.0) r.1)) (key_key r.0))

pub last_none : (k d : Edge) (es : List Edge) → uses k es ≡ 0 → last_or k d es ≡ d
last_none k d [] u = refl
last_none k d (x ∷ es) u = go (same k (key x)) u (last_none k d es)
  where
    go : (b : Bool) → bump b (uses k es) ≡ 0 → (uses k es ≡ 0 → last_or k d es ≡ d) → last_or k (cond b x d) es ≡ d
    go true v ih = absurd (omega arith)
    go false v ih = ih v

-- a use of e is a use of its key
uses_some : (k e : Edge) (es : List Edge) → same k (key e) ≡ true → some (same e) es ≡ true → 0 < uses k es
uses_some k e es t m =
    by_cases (some (λ x. same k (key x)) es)
    (λ p. count_some (λ x. same k (key x)) es p)
    (λ p. clash m (some_less (λ x. same k (key x)) (same e) es (λ x q. rw (← same_true e x q) t) p))

-- where an edge is used once, that use is its last
pub last_once : (k d e : Edge) (es : List Edge) → uses k es ≡ 1 → same k (key e) ≡ true → some (same e) es ≡ true → last_or k d es ≡ e
last_once k d e [] u t m = clash m refl
last_once k d e (x ∷ es) u t m = go (same k (key x)) refl u (last_once k d e es)
  where
    go :
        (b : Bool) → same k (key x) ≡ b → bump b (uses k es) ≡ 1
        → (uses k es ≡ 1 → same k (key e) ≡ true → some (same e) es ≡ true → last_or k d es ≡ e) → last_or k (cond b x d) es ≡ e
    go true q v ih =
        let z : uses k es ≡ 0 = omega arith in
        last_none k x es z
        ∙ ⊎_elim (λ p. sym (same_true e x p)) (λ p. absurd (let w : 0 < uses k es = uses_some k e es t p in omega arith)) (or_either (same e x) (some (same e) es) m)
    go false q v ih =
        ih v t (⊎_elim (λ p. clash (rw (same_true e x p) at t) q) (λ p. p) (or_either (same e x) (some (same e) es) m))

-- ---- where the verdict is not Irregular, no edge is used three times; where it is not Regular either, none twice in one direction

pub below_three : (es : List Edge) → thrice es ≡ false → (k : Edge) → uses k es < 3
below_three es n k = by_cases (leb 3 (uses k es)) (λ p. absurd (three p)) (λ p. leb-false 3 (uses k es) p)
  where
    three : leb 3 (uses k es) ≡ true → ⊥
    three p =
        let z : uses k es ≡ 0 =
        count_none (λ e. same k (key e)) es
        (some_less (λ e. leb 3 (uses (key e) es)) (λ e. same k (key e)) es (λ x q. rw (← same_true k (key x) q) p) n) in
        let l : 3 ≤ uses k es = leb-true 3 (uses k es) p in
        omega arith

pub below_two : (es : List Edge) → alike es ≡ false → (d : Edge) → runs d es < 2
below_two es n d = by_cases (leb 2 (runs d es)) (λ p. absurd (two p)) (λ p. leb-false 2 (runs d es) p)
  where
    two : leb 2 (runs d es) ≡ true → ⊥
    two p =
        let z : runs d es ≡ 0 =
        count_none (same d) es (some_less (λ e. leb 2 (runs e es)) (same d) es (λ x q. rw (← same_true d x q) p) n) in
        let l : 2 ≤ runs d es = leb-true 2 (runs d es) p in
        omega arith

pub not_irregular : (es : List Edge) → (verdict es ≡ Irregular → ⊥) → thrice es ≡ false
unfolding verdict
not_irregular es n = by_cases (thrice es) (λ p. absurd (n (rw p))) (λ p. p)

pub not_regular : (es : List Edge) → (verdict es ≡ Irregular → ⊥) → (verdict es ≡ Regular → ⊥) → alike es ≡ false
unfolding verdict
not_regular es n r =
    by_cases (alike es) (λ p. let q : alike es ≡ true = p in absurd (r (rw (not_irregular es n, q)))) (λ p. p)

-- ---- how often a direction stands among the hem edges

both_zero : (b : Bool) → ◌≡◌ {A = ℕ} (cond b 0 0) 0
both_zero true = refl
both_zero false = refl

only_runs : (p : Edge → Bool) (k : Edge) (l : List Edge) → runs k (only p l) ≡ cond (p k) (runs k l) 0
only_runs p k [] = sym (both_zero (p k))
only_runs p k (x ∷ l) = go (p x) refl (same k x) refl (only_runs p k l)
  where
    down : (b : Bool) (n : ℕ) → b ≡ true → suc (cond b n 0) ≡ cond b (suc n) 0
    down true n e = refl
    down false n e = clash e refl

    zed : (b : Bool) (n : ℕ) → b ≡ false → cond b n 0 ≡ 0
    zed true n e = clash refl e
    zed false n e = refl

    go :
        (b : Bool) → p x ≡ b → (c : Bool) → same k x ≡ c → runs k (only p l) ≡ cond (p k) (runs k l) 0
        → runs k (keep_if b x (only p l)) ≡ cond (p k) (bump c (runs k l)) 0
    go true q true r ih = rw r (ap suc ih ∙ down (p k) (runs k l) (rw (same_true k x r) q))
    go true q false r ih = rw r ih
    go false q true r ih =
        let pk : p k ≡ false = rw (same_true k x r) q in
        ih ∙ zed (p k) (runs k l) pk ∙ sym (zed (p k) (suc (runs k l)) pk)
    go false q false r ih = ih

-- a direction among the last uses: its key is there, and it is the last use
map_runs :
    (f : Edge → Edge) (d : Edge) (l : List Edge) → ((k : Edge) → some (same k) l ≡ true → key (f k) ≡ k)
    → runs d (map f l) ≡ cond (same d (f (key d))) (runs (key d) l) 0
map_runs f d [] h = sym (both_zero (same d (f (key d))))
map_runs f d (x ∷ l) h =
    go (same d (f x)) refl (same (key d) x) refl (same d (f (key d))) refl
    (map_runs f d l (λ k m. h k (or_right (same k x) (some (same k) l) m)))
  where
    hx : key (f x) ≡ x
    hx = h x (or_left (same x x) (some (same x) l) (same_refl x))

    go :
        (a : Bool) → same d (f x) ≡ a → (b : Bool) → same (key d) x ≡ b → (c : Bool) → same d (f (key d)) ≡ c
        → runs d (map f l) ≡ cond (same d (f (key d))) (runs (key d) l) 0
        → bump a (runs d (map f l)) ≡ cond c (bump b (runs (key d) l)) 0
    go true p true q true r ih = ap suc (ih ∙ rw r)
    go true p true q false r ih = clash (rw (same_true (key d) x q) p) r
    go true p false q c r ih = clash (same_of (key d) x (ap key (same_true d (f x) p) ∙ hx)) q
    go false p true q true r ih = clash (rw (same_true (key d) x q) at r) p
    go false p true q false r ih = ih ∙ rw r
    go false p false q true r ih = ih ∙ rw r
    go false p false q false r ih = ih ∙ rw r

hem_key : (es : List Edge) (k : Edge) → some (same k) (hem_keys es) ≡ true → key (last_or k k es) ≡ k
hem_key es k m = last_key es k (some_only (λ j. odd (uses j es)) (same k) (keys es) m)

pub hem_count_is :
    (es : List Edge) (d : Edge)
    → runs d (hems es)
    ≡ cond (same d (last_or (key d) (key d) es)) (cond (odd (uses (key d) es)) (bump (pos (uses (key d) es)) 0) 0) 0
unfolding hems
hem_count_is es d =
    map_runs (λ k. last_or k k es) d (hem_keys es) (hem_key es)
    ∙ ap (λ n. cond (same d (last_or (key d) (key d) es)) n 0)
    (only_runs (λ j. odd (uses j es)) (key d) (keys es)
    ∙ ap (λ n. cond (odd (uses (key d) es)) n 0)
    (asc_once (key d) (keys es) (keys_asc es)
    ∙ ap (λ b. bump b 0) (keys_member (key d) es ∙ some_count (λ e. same (key d) (key e)) es)))

once_count : (es : List Edge) (d : Edge) → uses (key d) es ≡ 1 → cond (same d (last_or (key d) (key d) es)) 1 0 ≡ runs d es
once_count es d u = by_cases (some (same d) es) there gone
  where
    there : some (same d) es ≡ true → cond (same d (last_or (key d) (key d) es)) 1 0 ≡ runs d es
    there m =
        let e : last_or (key d) (key d) es ≡ d = last_once (key d) (key d) d es u (same_refl (key d)) m in
        let l : 0 < runs d es = count_some (same d) es m in
        let k : runs d es ≤ uses (key d) es = runs_uses d es in
        rw (e, same_refl d) (omega arith)

    gone : some (same d) es ≡ false → cond (same d (last_or (key d) (key d) es)) 1 0 ≡ runs d es
    gone m =
        let z : runs d es ≡ 0 = count_none (same d) es m in
        let r : (e : Edge) × (same (key d) (key e) ≡ true) × (some (same e) es ≡ true) =
        found (λ e. same (key d) (key e)) es (some_count (λ e. same (key d) (key e)) es ∙ ap pos u) in
        let e : last_or (key d) (key d) es ≡ r.0 = last_once (key d) (key d) r.0 es u r.1 r.2 in
        by_cases (same d (last_or (key d) (key d) es))
        (λ p. clash r.2 (subst (λ x. some (same x) es ≡ false) (same_true d (last_or (key d) (key d) es) p ∙ e) m))
        (λ p. let q : same d (last_or (key d) (key d) es) ≡ false = p in rw (q, z))

-- where the verdict is not Irregular the hem edges are the edges that are used exactly once
pub hem_runs : (es : List Edge) → thrice es ≡ false → (d : Edge) → runs d (hems es) ≡ cond (eqb 1 (uses (key d) es)) (runs d es) 0
hem_runs es n d = hem_count_is es d ∙ go (uses (key d) es) refl
  where
    go :
        (u : ℕ) → uses (key d) es ≡ u
        → cond (same d (last_or (key d) (key d) es)) (cond (odd u) (bump (pos u) 0) 0) 0 ≡ cond (eqb 1 u) (runs d es) 0
    go zero e = both_zero (same d (last_or (key d) (key d) es))
    go (suc zero) e = once_count es d e
    go (suc (suc zero)) e = both_zero (same d (last_or (key d) (key d) es))
    go (suc (suc (suc u))) e = absurd (let k : uses (key d) es < 3 = below_three es n (key d) in omega arith)

-- ---- the hem edges without direction are the keys used an odd number of times, which ascend

map_keys :
    (f : Edge → Edge) (l : List Edge) → ((k : Edge) → some (same k) l ≡ true → key (f k) ≡ k) → map key (map f l) ≡ l
map_keys f [] h = refl
map_keys f (x ∷ l) h =
    λ i. h x (or_left (same x x) (some (same x) l) (same_refl x)) i ∷ map_keys f l (λ k m. h k (or_right (same k x) (some (same k) l) m)) i

pub hems_keys : (es : List Edge) → map key (hems es) ≡ hem_keys es
unfolding hems
hems_keys es = map_keys (λ k. last_or k k es) (hem_keys es) (hem_key es)

pub hems_asc : (es : List Edge) → Asc (map key (hems es))
hems_asc es = subst Asc (sym (hems_keys es)) (only_asc (λ k. odd (uses k es)) (keys es) (keys_asc es))
