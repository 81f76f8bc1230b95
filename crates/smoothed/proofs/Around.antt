-- Wings are as many as uses; and an edge with a second wing ends at no corner: there the Rust says `unreachable!`. Assumes nothing.
use mathlib.Core.Path.{◌≡◌, refl, ◌∙◌, subst}
use mathlib.Core.Bool.{Bool, true, false, cond, ◌&&◌}
use mathlib.Core.List.{List, [], ◌∷◌, map}
use Prim.Native.Nat.{ℕ, suc, ◌≤◌, ◌<◌}
use native.Mathlib.Omega.{arith}
use lib.ListN.{length, length-map}
use lib.Dec.{leb, eqb}
use borrow.Author.Tests.{eqb-true}
use Rattle.lists.specs.Lists.{some, every, only, keep_if, each, count, bump, has}
use Rattle.lists.proofs.Bools.{by_cases, and_both, or_left, or_right}
use Rattle.lists.proofs.Counting.{clash, bump_plus}
use Rattle.lists.proofs.Buckets.{length_only}
use Rattle.lists.proofs.Only.{only_length}
use Rattle.lists.proofs.Others.{eqb_self, every_has}
use Rattle.mesh.specs.Mesh.{Ring, position}
use Rattle.verdicts.specs.Edges.{Edge, same, key, uses, edges_of, Irregular, verdict}
use Rattle.verdicts.proofs.SameEdge.{same_true}
use Rattle.verdicts.proofs.HemUses.{below_three, not_irregular}
use Rattle.smoothed.specs.Smoothed.{edges_by_use, Smoothable}
use Rattle.smoothed.specs.Around.{Use, uses_of, wings, single, ends, across, neighbours, along_hem, Corner, Boundary, condition_of, condition}
use Rattle.smoothed.proofs.All.{All, none, more}
use Rattle.smoothed.proofs.Proper.{Proper, proper, all_proper}

-- ---- wings and uses

three_uses : (a b c : Bool) (m n : ℕ) → m ≡ n → bump b (bump c (bump a m)) ≡ bump a (bump b (bump c n))
three_uses a b c m n e =
    let p : _ = bump_plus b (bump c (bump a m)) in
    let q : _ = bump_plus c (bump a m) in
    let r : _ = bump_plus a m in
    let s : _ = bump_plus a (bump b (bump c n)) in
    let t : _ = bump_plus b (bump c n) in
    let u : _ = bump_plus c n in
    omega arith

counted_uses :
    (n : ℕ) (ks : List Edge) (k : Edge) {fs : List Ring} → All (Proper n ks) fs
    → count (λ (u : Use). same k u.0) (each uses_of fs) ≡ uses k (edges_of fs)
counted_uses n ks k none = refl
counted_uses n ks k (more (proper {x = x} {y = y} {z = z} t) a) =
    three_uses
    (same k (key (position x, position y)))
    (same k (key (position y, position z)))
    (same k (key (position z, position x)))
    _
    _
    (counted_uses n ks k a)

-- an edge has as many wings as uses
pub wings_uses : (n : ℕ) (fs : List Ring) → Smoothable n fs → (k : Edge) → length (wings fs k) ≡ uses k (edges_of fs)
unfolding wings
wings_uses n fs s k =
    length-map (only (λ (u : Use). same k u.0) (each uses_of fs)) (λ (u : Use). u.1)
    ∙ length_only (λ (u : Use). same k u.0) (each uses_of fs)
    ∙ counted_uses n (edges_by_use fs) k (all_proper n fs s)

-- ---- no corner

-- where as many are left as there were, each passes
only_full : (p : ℕ → Bool) (l : List ℕ) → length l ≤ length (only p l) → every p l ≡ true
only_full p [] h = refl
only_full p (x ∷ l) h = go (p x) refl h (only_full p l)
  where
    go :
        (b : Bool) → p x ≡ b → suc (length l) ≤ length (keep_if b x (only p l)) → (length l ≤ length (only p l) → every p l ≡ true)
        → (p x && every p l) ≡ true
    go true e h r = and_both (p x) (every p l) e (r (omega arith))
    go false e h r = absurd (let a : length (only p l) ≤ length l = only_length p l in omega arith)

corner_two : (n : ℕ) (hs : List ℕ) → condition_of n hs ≡ Corner → (n ≡ 2) × (2 ≤ length hs)
corner_two n [] h = absurd (let z : ◌≡◌ {A = ℕ} 0 1 = cc in omega arith)
corner_two n (x ∷ []) h = absurd (let z : ◌≡◌ {A = ℕ} 0 1 = cc in omega arith)
corner_two n (x ∷ y ∷ hs) h = go (eqb n 2) refl h
  where
    go : (b : Bool) → eqb n 2 ≡ b → cond b Corner (Boundary x y) ≡ Corner → (n ≡ 2) × (2 ≤ suc (suc (length hs)))
    go true e q = (eqb-true n 2 e, omega arith)
    go false e q = absurd (let z : ◌≡◌ {A = ℕ} 0 1 = cc in omega arith)

-- along every edge of a corner there is no second wing
pub corner_single : (fs : List Ring) (v w : ℕ) → condition fs v ≡ Corner → has w (neighbours fs v) ≡ true → single fs (key (v, w)) ≡ true
unfolding condition along_hem
corner_single fs v w c h =
    let t : (length (neighbours fs v) ≡ 2) × (2 ≤ length (along_hem fs v)) = corner_two (length (neighbours fs v)) (along_hem fs v) c in
    every_has (λ u. single fs (key (v, u))) w (neighbours fs v)
    (only_full (λ u. single fs (key (v, u))) (neighbours fs v) (omega (arith, t.0, t.1)))
    h

-- the other end of an edge is a neighbour
beside :
    (ks : List Edge) (v : ℕ) (k : Edge) → some (same k) ks ≡ true → ends v k ≡ true
    → has (across v k) (map (across v) (only (ends v) ks)) ≡ true
beside [] v k h e = clash h refl
beside (j ∷ ks) v k h e =
    by_cases (same k j)
    (λ s.
    subst (λ (x : Edge). has (across v k) (map (across v) (keep_if (ends v x) x (only (ends v) ks))) ≡ true) (same_true k j s)
    (rw e (or_left (eqb (across v k) (across v k)) _ (eqb_self (across v k)))))
    (λ s. further (ends v j) (beside ks v k (rw s at h) e))
  where
    further :
        (b : Bool) → has (across v k) (map (across v) (only (ends v) ks)) ≡ true
        → has (across v k) (map (across v) (keep_if b j (only (ends v) ks))) ≡ true
    further true r = or_right (eqb (across v k) (across v j)) _ r
    further false r = r

across_key : (v w : ℕ) → across v (key (v, w)) ≡ w
unfolding key
across_key v w = go (leb v w)
  where
    go : (b : Bool) → across v (cond b (v, w) (w, v)) ≡ w
    go true = rw (eqb_self v)
    go false = by_cases (eqb v w) (λ e. rw e (eqb-true v w e)) (λ e. rw e)

ends_key : (v w : ℕ) → ends v (key (v, w)) ≡ true
unfolding key
ends_key v w = go (leb v w)
  where
    go : (b : Bool) → ends v (cond b (v, w) (w, v)) ≡ true
    go true = or_left (eqb v v) (eqb v w) (eqb_self v)
    go false = or_right (eqb v w) (eqb v v) (eqb_self v)

pub edge_neighbour : (fs : List Ring) (v w : ℕ) → some (same (key (v, w))) (edges_by_use fs) ≡ true → has w (neighbours fs v) ≡ true
unfolding neighbours
edge_neighbour fs v w h =
    subst (λ (u : ℕ). has u (map (across v) (only (ends v) (edges_by_use fs))) ≡ true) (across_key v w)
    (beside (edges_by_use fs) v (key (v, w)) h (ends_key v w))

-- an edge with a second wing ends at no corner, at either end: v to w is taken both ways
pub no_corner :
    (fs : List Ring) (v w : ℕ) → some (same (key (v, w))) (edges_by_use fs) ≡ true → single fs (key (v, w)) ≡ false
    → condition fs v ≡ Corner → ⊥
no_corner fs v w h s c = clash (corner_single fs v w c (edge_neighbour fs v w h)) s

-- ---- what the verdict says

-- unless the verdict is Irregular there are at most two wings, so that the Rust's second wing is the only other one
pub wings_few :
    (n : ℕ) (fs : List Ring) → Smoothable n fs → (verdict (edges_of fs) ≡ Irregular → ⊥) → (k : Edge) → length (wings fs k) ≤ 2
wings_few n fs s v k =
    let a : uses k (edges_of fs) < 3 = below_three (edges_of fs) (not_irregular (edges_of fs) v) k in
    omega (arith, wings_uses n fs s k)
