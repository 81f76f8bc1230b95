-- A function g that leads from each edge of a list to an edge of it, to each exactly as often as it stands there: it goes round and
-- round. Walk by g from f and take out every edge that is passed: the walk goes on until it comes back to f. Where each edge stands
-- once this is to say that g is one-to-one. Assumes nothing.
use mathlib.Core.Path.{◌≡◌, refl, sym, ap, ◌∙◌, subst}
use mathlib.Core.Bool.{Bool, true, false}
use mathlib.Core.List.{List, [], ◌∷◌, map}
use Prim.Native.Nat.{ℕ, suc, ◌+◌, ◌≤◌, ◌<◌}
use native.Mathlib.Omega.{arith}
use lib.ListN.{length, length-map}
use Rattle.lists.specs.Lists.{bump, count, some}
use Rattle.lists.proofs.Bools.{by_cases}
use Rattle.lists.proofs.Counting.{clash, bump_plus, count_map, count_some, count_none, some_counted}
use Rattle.edges.specs.Edges.{Edge, same, runs}
use Rattle.edges.proofs.SameEdge.{same_true, same_refl, same_of, found}
use Rattle.tracing.specs.Following.{without}
use Rattle.tracing.proofs.Balance.{without_count, runs_ext}
use Rattle.tracing.proofs.Starts.{taken_length}

-- e stands in h; each edge at most once
abbrev pub In : Edge → List Edge → Type 0
In e h = some (same e) h ≡ true

abbrev pub Once : List Edge → Type 0
Once h = (d : Edge) → runs d h ≤ 1

-- 1 where the two are the same edge
abbrev pub at : Edge → Edge → ℕ
at d e = bump (same d e) 0

pub same_sym : (d e : Edge) → same d e ≡ false → same e d ≡ false
same_sym d e n = by_cases (same e d) (λ p. clash (same_of d e (sym (same_true e d p))) n) (λ p. p)

-- ---- no more of each, but no fewer in all: as many of each

pub runs_all : (s t : List Edge) → ((d : Edge) → runs d s ≤ runs d t) → length t ≤ length s → (d : Edge) → runs d s ≡ runs d t
runs_all [] [] h l d = refl
runs_all [] (y ∷ t) h l d = absurd (omega arith)
runs_all (x ∷ s) t h l d =
    let hx : suc (runs x s) ≤ runs x t = rw (same_refl x) at (h x) in
    let m : In x t = some_counted (same x) t (omega arith) in
    let k : length t ≡ suc (length (without x t)) = taken_length x t m in
    ap (bump (same d x))
    (runs_all s (without x t)
    (λ c.
    let a : bump (same c x) (runs c s) ≤ runs c t = h c in
    let b : runs c t ≡ bump (same c x) (runs c (without x t)) = without_count (same c) x t m in
    let a' : _ = bump_plus (same c x) (runs c s) in
    let b' : _ = bump_plus (same c x) (runs c (without x t)) in
    omega arith)
    (omega arith) d)
    ∙ sym (without_count (same d) x t m)

-- ---- going round

module _ (g : Edge → Edge) where
  -- how many of h lead to d
  abbrev pub comes : Edge → List Edge → ℕ
  comes d h = count (λ e. same d (g e)) h

  abbrev pub Round : List Edge → Type 0
  Round h = (d : Edge) → comes d h ≡ runs d h

  -- a walk that began at f stands at e: what is left goes round, but for those two
  abbrev pub Left : Edge → Edge → List Edge → Type 0
  Left f e h = (d : Edge) → comes d h + at d e ≡ runs d h + at d f

  pub left_home : (f : Edge) (h : List Edge) → Round h → Left f f h
  left_home f h r d = let e : _ = r d in omega arith

  pub left_closed : (f : Edge) (h : List Edge) → Left f f h → Round h
  left_closed f h l d = let e : _ = l d in omega arith

  -- the edge taken: what is left then
  pub left_taken : (f e : Edge) (h : List Edge) → In e h → Left f e h → Left f (g e) (without e h)
  left_taken f e h m l d =
      let a : comes d h ≡ bump (same d (g e)) (comes d (without e h)) = without_count (λ x. same d (g x)) e h m in
      let b : runs d h ≡ bump (same d e) (runs d (without e h)) = without_count (same d) e h m in
      let a' : _ = bump_plus (same d (g e)) (comes d (without e h)) in
      let b' : _ = bump_plus (same d e) (runs d (without e h)) in
      let k : comes d h + at d e ≡ runs d h + at d f = l d in
      omega arith

  -- away from f there is an edge on
  pub left_on : (f e : Edge) (h : List Edge) → same f e ≡ false → Left f e h → In e h
  left_on f e h n l =
      let k : comes e h + at e e ≡ runs e h + at e f = l e in
      let k' : comes e h + 1 ≡ runs e h + 0 = rw (same_sym f e n, same_refl e) at k in
      some_counted (same e) h (omega arith)

  -- every test counts as many where g leads as where it comes from
  pub round_all : (h : List Edge) → Round h → (p : Edge → Bool) → count (λ e. p (g e)) h ≡ count p h
  round_all h r p =
      sym (count_map p g h) ∙ runs_ext (map g h) h (λ d. count_map (same d) g h ∙ r d) p

  pub round_in : (h : List Edge) → Round h → (e : Edge) → In e h → In (g e) h
  round_in h r e m =
      let a : comes (g e) h ≡ bump (same (g e) (g e)) (comes (g e) (without e h)) = without_count (λ x. same (g e) (g x)) e h m in
      let a' : comes (g e) h ≡ suc (comes (g e) (without e h)) = rw (same_refl (g e)) at a in
      let b : comes (g e) h ≡ runs (g e) h = r (g e) in
      some_counted (same (g e)) h (omega arith)

  -- ---- going round and being one-to-one

  abbrev pub OneToOne : List Edge → Type 0
  OneToOne h = (d e : Edge) → In d h → In e h → g d ≡ g e → d ≡ e

  pub round_one : (h : List Edge) → Round h → Once h → OneToOne h
  round_one h r o d e m k q = by_cases (same e d) (λ p. sym (same_true e d p)) (λ p. absurd (two p))
    where
      two : same e d ≡ false → ⊥
      two p =
          let a : comes (g d) h ≡ bump (same (g d) (g d)) (comes (g d) (without d h)) = without_count (λ x. same (g d) (g x)) d h m in
          let a' : comes (g d) h ≡ suc (comes (g d) (without d h)) = rw (same_refl (g d)) at a in
          let b : runs e h ≡ bump (same e d) (runs e (without d h)) = without_count (same e) d h m in
          let b' : runs e h ≡ runs e (without d h) = rw p at b in
          let k' : 0 < runs e h = count_some (same e) h k in
          let i : In e (without d h) = some_counted (same e) (without d h) (omega arith) in
          let c : comes (g d) (without d h) ≡ bump (same (g d) (g e)) (comes (g d) (without e (without d h))) =
          without_count (λ x. same (g d) (g x)) e (without d h) i in
          let c' : comes (g d) (without d h) ≡ suc (comes (g d) (without e (without d h))) = rw (same_of (g d) (g e) q) at c in
          let z : comes (g d) h ≡ runs (g d) h = r (g d) in
          let y : runs (g d) h ≤ 1 = o (g d) in
          omega arith

  pub one_round : (h : List Edge) → Once h → ((e : Edge) → In e h → In (g e) h) → OneToOne h → Round h
  one_round h o i u d = sym (count_map (same d) g h) ∙ runs_all (map g h) h few (simp length-map (omega arith)) d
    where
      -- only one leads to d
      only_one : (d e : Edge) → In e h → d ≡ g e → comes d h ≤ 1
      only_one d e m q =
          let a : comes d h ≡ bump (same d (g e)) (comes d (without e h)) = without_count (λ x. same d (g x)) e h m in
          let a' : comes d h ≡ suc (comes d (without e h)) = rw (same_of d (g e) q) at a in
          by_cases (some (λ x. same d (g x)) (without e h))
          (λ p.
          let r : (c : Edge) × (same d (g c) ≡ true) × In c (without e h) = found (λ x. same d (g x)) (without e h) p in
          let c : Edge = r.0 in
          let b : runs c h ≡ bump (same c e) (runs c (without e h)) = without_count (same c) e h m in
          let b' : _ = bump_plus (same c e) (runs c (without e h)) in
          let k : 0 < runs c (without e h) = count_some (same c) (without e h) r.2 in
          let z : c ≡ e = u c e (some_counted (same c) h (omega arith)) m (sym (same_true d (g c) r.1) ∙ q) in
          let y : bump (same c e) 0 ≡ 1 = rw (same_of c e z) in
          let w : runs c h ≤ 1 = o c in
          absurd (omega arith))
          (λ p. let z : comes d (without e h) ≡ 0 = count_none (λ x. same d (g x)) (without e h) p in omega arith)

      few : (d : Edge) → runs d (map g h) ≤ runs d h
      few d =
          rw (count_map (same d) g h)
          (by_cases (some (λ x. same d (g x)) h)
          (λ p.
          let r : (c : Edge) × (same d (g c) ≡ true) × In c h = found (λ x. same d (g x)) h p in
          let q : d ≡ g r.0 = same_true d (g r.0) r.1 in
          let a : comes d h ≤ 1 = only_one d r.0 r.2 q in
          let m : In d h = subst (λ x. In x h) (sym q) (i r.0 r.2) in
          let b : 0 < runs d h = count_some (same d) h m in
          omega arith)
          (λ p. let z : comes d h ≡ 0 = count_none (λ x. same d (g x)) h p in omega arith))

-- one after the other
pub round_then : (f g : Edge → Edge) (h : List Edge) → Round f h → Round g h → Round (λ e. g (f e)) h
round_then f g h r s d = round_all f h r (λ e. same d (g e)) ∙ s d
