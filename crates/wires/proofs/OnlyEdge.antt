-- Where no two hem edges start at one position, the one that starts where another ends is the only way on: so what turning through the
-- cloth leads to is what following finds, and a wire comes back to its first position by its first edge. Assumes nothing.
use mathlib.Core.Path.{◌≡◌, refl, sym, ap, ◌∙◌}
use mathlib.Core.Logic.{◌⊎◌, inl, inr, ⊎_elim}
use mathlib.Core.Bool.{Bool, true, false, cond}
use mathlib.Core.Option.{Option, none, some}
use mathlib.Core.List.{List, [], ◌∷◌}
use Prim.Native.Nat.{ℕ, zero, suc, ◌+◌, ◌≤◌, ◌<◌, min}
use native.Mathlib.Omega.{arith}
use lib.Dec.{eqb}
use lib.ListN.{length}
use borrow.Author.Tests.{eqb-true, eqb-false}
use Rattle.lists.specs.Lists.{bump, count}
use Rattle.lists.specs.Lists.{some as has_some}
use Rattle.lists.proofs.Bools.{and_left}
use Rattle.lists.proofs.Counting.{clash, or_either, bump_plus, count_all, count_less, count_some}
use Rattle.edges.specs.Edges.{Edge, same, before, runs}
use Rattle.edges.proofs.SameEdge.{same_true, same_of}
use Rattle.tracing.specs.Hems.{outs}
use Rattle.tracing.specs.Following.{lesser, least_start_lem, without, Walk, longer, entry, follow, traces_in}
use Rattle.tracing.proofs.Balance.{without_count}
use Rattle.tracing.proofs.Starts.{taken_length}
use Rattle.turning.specs.Turning.{least, trail, trails_in}
use Rattle.turning.proofs.Rounds.{In, Round, Left, left_home, left_taken, left_on, round_in}
use Rattle.turning.proofs.Smallest.{Upto, lesser_upto}
use Rattle.turning.proofs.Closing.{least_in, Joint, Trailed, trailed, fewer_in, without_in}
use Rattle.wires.specs.Promises.{OneEach}

-- ---- the smallest start

lesser_twice : (a b : ℕ) (o : Option ℕ) → lesser a (lesser b o) ≡ lesser (min a b) o
lesser_twice a b none = refl
lesser_twice a b (some k) = ap some (let e : min a (min b k) ≡ min (min a b) k = omega arith in e)

lesser_start : (x e : Edge) → min e.0 x.0 ≡ (cond (before x e) x e).0
lesser_start x e = go (cond (before x e) x e) (lesser_upto x e).0 (lesser_upto x e).1 (one (before x e))
  where
    one : (b : Bool) → (cond b x e ≡ x) ⊎ (cond b x e ≡ e)
    one true = inl refl
    one false = inr refl

    start : (c d : Edge) → c ≡ d → c.0 ≡ d.0
    start c d = ap (λ (w : Edge). w.0)

    go : (c : Edge) → Upto c e → Upto c x → (c ≡ x) ⊎ (c ≡ e) → min e.0 x.0 ≡ c.0
    go c (inl p) (inl q) r =
        ⊎_elim (λ z. absurd (let y : c.0 ≡ x.0 = start c x z in omega arith)) (λ z. absurd (let y : c.0 ≡ e.0 = start c e z in omega arith)) r
    go c (inl p) (inr q) r = omega arith
    go c (inr p) (inl q) r = omega arith
    go c (inr p) (inr q) r = omega arith

-- the smallest start is that of the smallest edge
least_start : (e : Edge) (h : List Edge) → least_start_lem (e ∷ h) ≡ some (least e h).0
least_start e [] = refl
least_start e (x ∷ h) =
    lesser_twice e.0 x.0 (least_start_lem h)
    ∙ ap (λ (k : ℕ). lesser k (least_start_lem h)) (lesser_start x e)
    ∙ least_start (cond (before x e) x e) h

-- ---- the only edge

starts_there : (e : Edge) (h : List Edge) → In e h → 0 < outs e.0 h
starts_there e h m =
    let b : 0 < runs e h = count_some (same e) h m in
    let c : runs e h ≤ outs e.0 h =
    count_less (same e) (λ x. eqb e.0 x.0) h (λ x p. and_left (eqb e.0 x.0) (eqb e.1 x.1) p) in
    omega arith

only_entry : (h : List Edge) (e : Edge) → outs e.0 h ≤ 1 → In e h → entry e.0 h ≡ some e
only_entry [] e l m = clash m refl
only_entry (x ∷ h) e l m = go (eqb e.0 x.0) refl l (or_either (same e x) (has_some (same e) h) m) (only_entry h e)
  where
    go :
        (b : Bool) → eqb e.0 x.0 ≡ b → bump b (outs e.0 h) ≤ 1 → (same e x ≡ true) ⊎ In e h
        → (outs e.0 h ≤ 1 → In e h → entry e.0 h ≡ some e) → cond b (some x) (entry e.0 h) ≡ some e
    go true q l (inl p) ih = ap some (sym (same_true e x p))
    go true q l (inr p) ih = absurd (let k : 0 < outs e.0 h = starts_there e h p in omega arith)
    go false q l (inl p) ih = clash (and_left (eqb e.0 x.0) (eqb e.1 x.1) p) q
    go false q l (inr p) ih = ih l p

one_start : (h : List Edge) → OneEach h → (d e : Edge) → In d h → In e h → d.0 ≡ e.0 → d ≡ e
one_start h u d e m k q =
    let a : entry d.0 h ≡ some d = only_entry h d (u d.0) m in
    let b : entry e.0 h ≡ some e = only_entry h e (u e.0) k in
    let c : entry d.0 h ≡ entry e.0 h = ap (λ (s : ℕ). entry s h) q in
    cc

-- fewer edges of each
fewer_each : (s t : List Edge) → ((p : Edge → Bool) → count p s ≤ count p t) → OneEach t → OneEach s
fewer_each s t l u v =
    let a : outs v s ≤ outs v t = l (λ e. eqb v e.0) in let b : outs v t ≤ 1 = u v in omega arith

without_fewer : (e : Edge) (h : List Edge) → In e h → (p : Edge → Bool) → count p (without e h) ≤ count p h
without_fewer e h m p =
    let a : count p h ≡ bump (p e) (count p (without e h)) = without_count p e h m in
    let b : bump (p e) (count p (without e h)) ≡ count p (without e h) + bump (p e) 0 = bump_plus (p e) (count p (without e h)) in
    omega arith

-- ---- one wire, and all

follow_step :
    (n f c : ℕ) (h : List Edge) (e : Edge) → entry c h ≡ some e
    → follow (suc n) f c h ≡ elim (eqb f e.1) [ true ↦ (c ∷ [], without e h) | false ↦ longer c (follow n f e.1 (without e h)) ]
unfolding follow
follow_step n f c h e q = rw (q, follow)

module _ (on : Edge → Edge) where
  -- f follows whatever comes back to its start
  abbrev Homing : Edge → List Edge → Type 0
  Homing f h = (d : Edge) → In d h → f.0 ≡ d.1 → f ≡ on d

  follow_trail :
      (n k : ℕ) (f e : Edge) (h : List Edge) → length h ≤ n → length h ≤ k → In e h → Joint on h → Homing f h → OneEach h → Left on f e h
      → follow n f.0 e.0 h ≡ trail on k f e h
  unfolding trail
  follow_trail zero k f e h l l' m j o u w = absurd (let z : length h ≡ suc (length (without e h)) = taken_length e h m in omega arith)
  follow_trail (suc n) zero f e h l l' m j o u w = absurd (let z : length h ≡ suc (length (without e h)) = taken_length e h m in omega arith)
  follow_trail (suc n) (suc k) f e h l l' m j o u w =
      follow_step n f.0 e.0 h e (only_entry h e (u e.0) m)
      ∙ go (eqb f.0 e.1) refl (same f (on e)) refl (follow_trail n k f (on e) (without e h))
    where
      z : length h ≡ suc (length (without e h))
      z = taken_length e h m

      inside : (d : Edge) → In d (without e h) → In d h
      inside d i = without_in on d e h m i

      go :
          (a : Bool) → eqb f.0 e.1 ≡ a → (b : Bool) → same f (on e) ≡ b
          → (length (without e h) ≤ n → length (without e h) ≤ k → In (on e) (without e h) → Joint on (without e h) → Homing f (without e h)
          → OneEach (without e h) → Left on f (on e) (without e h)
          → follow n f.0 (on e).0 (without e h) ≡ trail on k f (on e) (without e h))
          → ◌≡◌ {A = Walk}
          (elim a [ true ↦ (e.0 ∷ [], without e h) | false ↦ longer e.0 (follow n f.0 e.1 (without e h)) ])
          (elim b [ true ↦ (e.0 ∷ [], without e h) | false ↦ longer e.0 (trail on k f (on e) (without e h)) ])
      go true p true q ih = refl
      go true p false q ih = clash (same_of f (on e) (o e m (eqb-true f.0 e.1 p))) q
      go false p true q ih = absurd (eqb-false f.0 e.1 p (ap (λ (x : Edge). x.0) (same_true f (on e) q) ∙ j e m))
      go false p false q ih =
          let t : Left on f (on e) (without e h) = left_taken on f e h m w in
          let y : length h ≡ suc (length (without e h)) = z in
          ap (longer e.0)
          (ap (λ (c : ℕ). follow n f.0 c (without e h)) (sym (j e m))
          ∙ ih (omega arith) (omega arith) (left_on on f (on e) (without e h) q t) (λ d i. j d (inside d i)) (λ d i. o d (inside d i))
          (fewer_each (without e h) h (without_fewer e h m) u) t)

  pub traces_trails :
      (n m k : ℕ) (h : List Edge) → length h ≤ m → length h ≤ k → Round on h → Joint on h → OneEach h → traces_in n m h ≡ trails_in on n k h
  unfolding traces_in trails_in
  traces_trails zero m k h l l' r j u = refl
  traces_trails (suc n) m k [] l l' r j u = refl
  traces_trails (suc n) m k (x ∷ h) l l' r j u = begin (least_start x h) ∙ on_and_on (traces_trails n m k rest)
    where
      f : Edge
      f = least x h

      home : In f (x ∷ h)
      home = least_in x h

      w : Walk
      w = trail on k f f (x ∷ h)

      rest : List Edge
      rest = w.1

      t : Trailed on f f (x ∷ h) w
      t = trailed on k f f (x ∷ h) l' (left_home on f (x ∷ h) r) home j

      fewer : (p : Edge → Bool) → count p rest ≤ count p (x ∷ h)
      fewer p = let v : _ = t.used p in omega arith

      inside : (d : Edge) → In d rest → In d (x ∷ h)
      inside = fewer_in on rest (x ∷ h) fewer

      one : follow m f.0 f.0 (x ∷ h) ≡ w
      one =
          follow_trail m k f f (x ∷ h) l l' home j (λ d i q. one_start (x ∷ h) u f (on d) home (round_in on (x ∷ h) r d i) (q ∙ sym (j d i))) u
          (left_home on f (x ∷ h) r)

      begin :
          least_start_lem (x ∷ h) ≡ some f.0
          → elim (least_start_lem (x ∷ h)) [ none ↦ [] | some s ↦ let v : Walk = follow m s s (x ∷ h) in v.0 ∷ traces_in n m v.1 ]
          ≡ w.0 ∷ traces_in n m rest
      begin q = rw q (ap (λ (v : Walk). v.0 ∷ traces_in n m v.1) one)

      on_and_on :
          (length rest ≤ m → length rest ≤ k → Round on rest → Joint on rest → OneEach rest → traces_in n m rest ≡ trails_in on n k rest)
          → ◌≡◌ {A = List (List ℕ)} (w.0 ∷ traces_in n m rest) (w.0 ∷ trails_in on n k rest)
      on_and_on ih =
          let v : _ = fewer (λ y. true) in
          let a : _ = count_all rest in
          let b : count (λ y. true) (x ∷ h) ≡ length (x ∷ h) = count_all (x ∷ h) in
          ap (λ (ws : List (List ℕ)). w.0 ∷ ws)
          (ih (omega arith) (omega arith) t.left (λ d i. j d (inside d i)) (fewer_each rest (x ∷ h) fewer u))
