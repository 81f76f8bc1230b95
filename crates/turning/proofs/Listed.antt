-- In which order the hem edges are listed does not matter: the same edges, each as often, give the same wires in the same order. So
-- code may have them sorted by start and end, and then begin each wire with the first that is left. Assumes nothing.
use mathlib.Core.Path.{◌≡◌, refl, sym, ap, ◌∙◌}
use mathlib.Core.Logic.{inl, inr}
use mathlib.Core.Bool.{Bool, true, false, cond}
use mathlib.Core.List.{List, [], ◌∷◌}
use Prim.Native.Nat.{ℕ, zero, suc}
use native.Mathlib.Omega.{arith}
use Rattle.lists.specs.Lists.{count, some, every}
use Rattle.lists.proofs.Bools.{by_cases, or_false_left, or_false_right, and_left, and_right}
use Rattle.lists.proofs.Counting.{bump_inj}
use Rattle.lists.proofs.Alike.{Alike, some_alike}
use Rattle.edges.specs.Edges.{Edge, same, before}
use Rattle.edges.proofs.SameEdge.{before_true, before_asym}
use Rattle.tracing.specs.Following.{without, Walk, longer}
use Rattle.tracing.proofs.Balance.{without_count}
use Rattle.turning.specs.Turning.{least, trail, trails_in}
use Rattle.turning.proofs.Smallest.{Upto, least_upto}
use Rattle.turning.proofs.Closing.{least_in}

-- ---- the smallest

upto_both : (d e : Edge) → Upto d e → Upto e d → d ≡ e
upto_both d e (inl p) (inl q) = absurd (omega arith)
upto_both d e (inl p) (inr q) = absurd (omega arith)
upto_both d e (inr p) (inl q) = absurd (omega arith)
upto_both d e (inr p) (inr q) = let z : d.1 ≡ e.1 = omega arith in λ i. (p.0 i, z i)

least_alike : (d : Edge) (g : List Edge) (e : Edge) (h : List Edge) → Alike (d ∷ g) (e ∷ h) → least d g ≡ least e h
least_alike d g e h a =
    upto_both (least d g) (least e h)
    (least_upto d g (least e h) (some_alike (same (least e h)) a ∙ least_in e h))
    (least_upto e h (least d g) (sym (some_alike (same (least d g)) a) ∙ least_in d g))

-- of ascending edges it is the first
pub least_ascending : (e : Edge) (h : List Edge) → every (before e) h ≡ true → least e h ≡ e
least_ascending e [] a = refl
least_ascending e (x ∷ h) a =
    let p : before e x ≡ true = and_left (before e x) (every (before e) h) a in
    let q : before x e ≡ false =
    by_cases (before x e) (λ r. absurd (before_asym x e (before_true x e r) (before_true e x p))) (λ r. r) in
    ap (λ (b : Bool). least (cond b x e) h) q ∙ least_ascending e h (and_right (before e x) (every (before e) h) a)

-- ---- one taken out

without_none : (e : Edge) (h : List Edge) → some (same e) h ≡ false → without e h ≡ h
without_none e [] n = refl
without_none e (x ∷ h) n =
    ap (λ (b : Bool). cond b h (x ∷ without e h)) (or_false_left (same e x) (some (same e) h) n)
    ∙ ap (λ l. x ∷ l) (without_none e h (or_false_right (same e x) (some (same e) h) n))

without_alike : (e : Edge) (g h : List Edge) → Alike g h → Alike (without e g) (without e h)
without_alike e g h a =
    by_cases (some (same e) g)
    (λ m.
    record {
      agree = λ p.
          bump_inj (p e) (count p (without e g)) (count p (without e h))
          (sym (without_count p e g m) ∙ a.agree p ∙ without_count p e h (sym (some_alike (same e) a) ∙ m));
    })
    (λ n.
    record {
      agree = λ p.
          ap (count p) (without_none e g n) ∙ a.agree p ∙ sym (ap (count p) (without_none e h (sym (some_alike (same e) a) ∙ n)));
    })

-- ---- one wire, and all

-- the same positions passed, and the same edges left
pub record SameWalk (v w : Walk) : Type 0 where
  pub passed : v.0 ≡ w.0
  pub left : Alike v.1 w.1

module _ (on : Edge → Edge) where
  trail_alike : (n : ℕ) (f e : Edge) (g h : List Edge) → Alike g h → SameWalk (trail on n f e g) (trail on n f e h)
  unfolding trail
  trail_alike zero f e g h a = record { passed = refl; left = a }
  trail_alike (suc n) f e g h a = go (same f (on e)) (without_alike e g h a) (trail_alike n f (on e) (without e g) (without e h))
    where
      go :
          (b : Bool) → Alike (without e g) (without e h)
          → (Alike (without e g) (without e h) → SameWalk (trail on n f (on e) (without e g)) (trail on n f (on e) (without e h)))
          → SameWalk
          (elim b [ true ↦ (e.0 ∷ [], without e g) | false ↦ longer e.0 (trail on n f (on e) (without e g)) ])
          (elim b [ true ↦ (e.0 ∷ [], without e h) | false ↦ longer e.0 (trail on n f (on e) (without e h)) ])
      go true a ih = record { passed = refl; left = a }
      go false a ih =
          let r : SameWalk (trail on n f (on e) (without e g)) (trail on n f (on e) (without e h)) = ih a in
          record { passed = ap (λ l. e.0 ∷ l) r.passed; left = r.left }

  pub trails_alike : (n m : ℕ) (g h : List Edge) → Alike g h → trails_in on n m g ≡ trails_in on n m h
  unfolding trails_in
  trails_alike zero m g h a = refl
  trails_alike (suc n) m [] [] a = refl
  trails_alike (suc n) m [] (e ∷ h) a = absurd (let z : 0 ≡ suc (count (λ x. true) h) = a.agree (λ x. true) in omega arith)
  trails_alike (suc n) m (d ∷ g) [] a = absurd (let z : suc (count (λ x. true) g) ≡ 0 = a.agree (λ x. true) in omega arith)
  trails_alike (suc n) m (d ∷ g) (e ∷ h) a =
      let f : least d g ≡ least e h = least_alike d g e h a in
      let r : SameWalk (trail on m (least d g) (least d g) (d ∷ g)) (trail on m (least d g) (least d g) (e ∷ h)) =
      trail_alike m (least d g) (least d g) (d ∷ g) (e ∷ h) a in
      (λ i. r.passed i
      ∷ trails_alike n m (trail on m (least d g) (least d g) (d ∷ g)).1 (trail on m (least d g) (least d g) (e ∷ h)).1 r.left i)
      ∙ ap (λ (x : Edge). (trail on m x x (e ∷ h)).0 ∷ trails_in on n m (trail on m x x (e ∷ h)).1) f
