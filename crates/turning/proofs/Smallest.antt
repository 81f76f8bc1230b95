-- The edge that a wire begins with is the smallest: no unused hem edge stands before it. Assumes nothing.
use mathlib.Core.Path.{◌≡◌, refl, sym, subst}
use mathlib.Core.Logic.{◌⊎◌, inl, inr, ⊎_elim}
use mathlib.Core.Bool.{Bool, true, false, cond}
use mathlib.Core.List.{List, [], ◌∷◌}
use Prim.Native.Nat.{◌≤◌, ◌<◌}
use native.Mathlib.Omega.{arith}
use Rattle.lists.specs.Lists.{some}
use Rattle.lists.proofs.Bools.{by_cases, or_right}
use Rattle.lists.proofs.Counting.{clash, or_either}
use Rattle.edges.specs.Edges.{Edge, same, before}
use Rattle.edges.proofs.SameEdge.{same_true, Before, before_true, before_false}
use Rattle.turning.specs.Turning.{least}
use Rattle.turning.proofs.Rounds.{In}

-- not after
abbrev pub Upto : Edge → Edge → Type 0
Upto d e = (d.0 < e.0) ⊎ ((d.0 ≡ e.0) × (d.1 ≤ e.1))

upto_self : (d e : Edge) → d ≡ e → Upto d e
upto_self d e p = subst (Upto d) p (inr (refl, omega arith))

upto_before : (d e : Edge) → Before d e → Upto d e
upto_before d e (inl p) = inl p
upto_before d e (inr p) = inr (p.0, omega arith)

upto_trans : (c d e : Edge) → Upto c d → Upto d e → Upto c e
upto_trans c d e (inl p) (inl q) = inl (omega arith)
upto_trans c d e (inl p) (inr q) = inl (omega arith)
upto_trans c d e (inr p) (inl q) = inl (omega arith)
upto_trans c d e (inr p) (inr q) = inr (omega arith)

upto_not : (d e : Edge) → Upto d e → Before e d → ⊥
upto_not d e (inl p) (inl q) = omega arith
upto_not d e (inl p) (inr q) = omega arith
upto_not d e (inr p) (inl q) = omega arith
upto_not d e (inr p) (inr q) = omega arith

-- of two edges
pub lesser_upto : (x e : Edge) → Upto (cond (before x e) x e) e × Upto (cond (before x e) x e) x
lesser_upto x e = go (before x e) refl
  where
    go : (b : Bool) → before x e ≡ b → Upto (cond b x e) e × Upto (cond b x e) x
    go true q = (upto_before x e (before_true x e q), upto_self x x refl)
    go false q = (
      upto_self e e refl,
      by_cases (same x e) (λ p. upto_self e x (sym (same_true x e p))) (λ p. upto_before e x (before_false x e q p)),
    )

least_first : (e : Edge) (h : List Edge) → Upto (least e h) e
least_first e [] = upto_self e e refl
least_first e (x ∷ h) =
    upto_trans (least (cond (before x e) x e) h) (cond (before x e) x e) e (least_first (cond (before x e) x e) h) (lesser_upto x e).0

pub least_upto : (e : Edge) (h : List Edge) (d : Edge) → In d (e ∷ h) → Upto (least e h) d
least_upto e [] d m = ⊎_elim (λ p. upto_self e d (sym (same_true d e p))) (λ p. clash p refl) (or_either (same d e) false m)
least_upto e (x ∷ h) d m =
    let c : Edge = cond (before x e) x e in
    ⊎_elim
    (λ p. subst (Upto (least e (x ∷ h))) (sym (same_true d e p)) (least_first e (x ∷ h)))
    (λ p.
    ⊎_elim
    (λ q. subst (Upto (least c h)) (sym (same_true d x q)) (upto_trans (least c h) c x (least_first c h) (lesser_upto x e).1))
    (λ q. least_upto c h d (or_right (same d c) (some (same d) h) q))
    (or_either (same d x) (some (same d) h) p))
    (or_either (same d e) (some (same d) (x ∷ h)) m)

pub least_smallest : (e : Edge) (h : List Edge) (d : Edge) → In d (e ∷ h) → before d (least e h) ≡ false
least_smallest e h d m =
    by_cases (before d (least e h)) (λ p. absurd (upto_not (least e h) d (least_upto e h d m) (before_true d (least e h) p))) (λ p. p)
