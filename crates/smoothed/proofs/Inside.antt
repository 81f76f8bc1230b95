-- Edges, wings and neighbours are old positions; each edge has a wing, and each position that is used has a neighbour; an edge with
-- a second wing ends at no corner: what reading a coordinate or a cosine rests on. Assumes nothing.
use mathlib.Core.Path.{◌≡◌, refl, sym, ◌∙◌, subst}
use mathlib.Core.Logic.{⊎_elim}
use mathlib.Core.Bool.{Bool, true, false, cond, not, ◌||◌}
use mathlib.Core.List.{List, map}
use Prim.Native.Nat.{ℕ, ◌≤◌, ◌<◌}
use native.Mathlib.Omega.{arith}
use lib.ListN.{length, length-map}
use lib.Dec.{leb, eqb}
use borrow.Author.Tests.{le-leb, leb-true, leb-false}
use Rattle.lists.specs.Lists.{some, only, keep_if, each, has}
use Rattle.lists.proofs.Counting.{clash, or_either, count_some}
use Rattle.lists.proofs.Buckets.{length_only}
use Rattle.mesh.specs.Mesh.{Ring, position}
use Rattle.verdicts.specs.Edges.{Edge, same, flip, key}
use Rattle.verdicts.proofs.SameEdge.{same_true, found}
use Rattle.mesh.proofs.Edges.{key_below}
use Rattle.verdicts.proofs.Keys.{key_order}
use Rattle.smoothed.specs.Smoothed.{sides, first_uses, edges_by_use, Smoothable, used_in}
use Rattle.smoothed.specs.Around.{Use, uses_of, wings, single, ends, across, neighbours, Corner, condition}
use Rattle.smoothed.proofs.All.{All, none, more, all_map, all_each, all_here, some_each, some_where}
use Rattle.smoothed.proofs.Verdicts.{key_flip}
use Rattle.smoothed.proofs.Around.{no_corner}
use Rattle.smoothed.proofs.Proper.{member_uses, Proper, proper, all_proper}
use Rattle.smoothed.proofs.Cuts.{meets_key}

module _ {A : Type 0} {P : A → Type 0} where
  pub all_only : (p : A → Bool) {l : List A} → All P l → All P (only p l)
  all_only p none = none
  all_only p (more {x = x} {l = l} h r) = go (p x) (all_only p r)
    where
      go : (b : Bool) → All P (only p l) → All P (keep_if b x (only p l))
      go true a = more h a
      go false a = a

pub all_mapped : {A B : Type 0} {P : B → Type 0} (f : A → B) {l : List A} → All (λ x. P (f x)) l → All P (map f l)
all_mapped f none = none
all_mapped f (more h r) = more h (all_mapped f r)

all_uses : {P : Edge → Type 0} {l : List Edge} → All P l → All P (first_uses l)
all_uses none = none
all_uses (more {x = k} h r) = more h (all_only (λ j. not (same k j)) (all_uses r))

-- an edge of two positions, without direction, has two ends in order
key_apart : (e : Edge) → (e.0 ≡ e.1 → ⊥) → (key e).0 < (key e).1
unfolding key
key_apart e d = go (leb e.0 e.1) refl
  where
    go : (b : Bool) → leb e.0 e.1 ≡ b → (cond b e (flip e)).0 < (cond b e (flip e)).1
    go true h = let l : e.0 ≤ e.1 = leb-true e.0 e.1 h in omega arith
    go false h = leb-false e.0 e.1 h

module _ (n : ℕ) (fs : List Ring) (s : Smoothable n fs) where
  -- ---- below n

  pub edges_below : All (λ (k : Edge). (k.0 < n) × (k.1 < n)) (edges_by_use fs)
  unfolding edges_by_use
  edges_below = all_uses (all_each sides (all_map three (all_proper n fs s)))
    where
      three : (f : Ring) → Proper n (first_uses (each sides fs)) f → All (λ (k : Edge). (k.0 < n) × (k.1 < n)) (sides f)
      three _ (proper {x = x} {y = y} {z = z} t) =
          more (key_below n (position y, position z) t.bc.start_below t.bc.end_below)
          (more (key_below n (position z, position x) t.ca.start_below t.ca.end_below)
          (more (key_below n (position x, position y) t.ab.start_below t.ab.end_below) none))

  -- and lower end first
  pub edges_apart : All (λ (k : Edge). k.0 < k.1) (edges_by_use fs)
  unfolding edges_by_use
  edges_apart = all_uses (all_each sides (all_map three (all_proper n fs s)))
    where
      three : (f : Ring) → Proper n (first_uses (each sides fs)) f → All (λ (k : Edge). k.0 < k.1) (sides f)
      three _ (proper {x = x} {y = y} {z = z} t) =
          more (key_apart (position y, position z) t.bc.no_loop)
          (more (key_apart (position z, position x) t.ca.no_loop)
          (more (key_apart (position x, position y) t.ab.no_loop) none))

  pub neighbours_below : (v : ℕ) → All (λ w. w < n) (neighbours fs v)
  unfolding neighbours
  neighbours_below v = all_mapped (across v) (all_only (ends v) (all_map (λ k h. go k h (eqb v k.0)) edges_below))
    where
      go : (k : Edge) → (k.0 < n) × (k.1 < n) → (b : Bool) → cond b k.1 k.0 < n
      go k h true = h.1
      go k h false = h.0

  pub wings_below : (k : Edge) → All (λ w. w < n) (wings fs k)
  unfolding wings
  wings_below k =
      all_mapped (λ (u : Use). u.1)
      (all_only (λ (u : Use). same k u.0) (all_each uses_of (all_map three (all_proper n fs s))))
    where
      three : (f : Ring) → Proper n (edges_by_use fs) f → All (λ (u : Use). u.1 < n) (uses_of f)
      three _ (proper t) = more t.ab.start_below (more t.bc.start_below (more t.ca.start_below none))

-- ---- edges that have numbers are written lower first

key_ordered : (k : Edge) → k.0 ≤ k.1 → key k ≡ k
unfolding key
key_ordered k l = rw (le-leb k.0 k.1 l)

pub edges_keys : (fs : List Ring) → All (λ k. key k ≡ k) (edges_by_use fs)
unfolding edges_by_use
edges_keys fs = all_uses (all_each sides (all_here (λ f. more (again _) (more (again _) (more (again _) none))) fs))
  where
    again : (e : Edge) → key (key e) ≡ key e
    again e = key_ordered (key e) (key_order e)

-- what holds of each holds of one that stands there
pub all_at : {P : Edge → Type 0} {l : List Edge} → All P l → (k : Edge) → some (same k) l ≡ true → P k
all_at none k h = clash h refl
all_at {P} (more {x = x} {l = l} p r) k h =
    ⊎_elim (λ s. subst P (sym (same_true k x s)) p) (λ s. all_at r k s) (or_either (same k x) (some (same k) l) h)

-- one with a second wing has no corner at its lower end, nor at its higher
pub inner_no_corner :
    (fs : List Ring) (k : Edge) → some (same k) (edges_by_use fs) ≡ true → single fs k ≡ false
    → (condition fs k.0 ≡ Corner → ⊥) × (condition fs k.1 ≡ Corner → ⊥)
inner_no_corner fs k h s =
    let e : key k ≡ k = all_at (edges_keys fs) k h in
    let d : key (flip k) ≡ k = key_flip k ∙ e in (
      no_corner fs k.0 k.1 (subst (λ j. some (same j) (edges_by_use fs) ≡ true) (sym e) h) (subst (λ j. single fs j ≡ false) (sym e) s),
      no_corner fs k.1 k.0 (subst (λ j. some (same j) (edges_by_use fs) ≡ true) (sym d) h) (subst (λ j. single fs j ≡ false) (sym d) s),
    )

-- ---- one at least

-- an edge that has a number has a wing
pub wings_some : (fs : List Ring) (k : Edge) → some (same k) (edges_by_use fs) ≡ true → 1 ≤ length (wings fs k)
unfolding wings edges_by_use
wings_some fs k h =
    let p : Use → Bool = λ (u : Use). same k u.0 in
    let a : some p (each uses_of fs) ≡ true =
    some_each uses_of p fs ∙ sym (some_each sides (same k) fs) ∙ sym (member_uses k (each sides fs)) ∙ h in
    let b : length (map (λ (u : Use). u.1) (only p (each uses_of fs))) ≡ length (only p (each uses_of fs)) =
    length-map (only p (each uses_of fs)) (λ (u : Use). u.1) in
    omega (arith, b, length_only p (each uses_of fs), count_some p (each uses_of fs) a)

-- what passes among all uses passes among the first
some_uses : (p : Edge → Bool) (l : List Edge) → some p l ≡ true → some p (first_uses l) ≡ true
some_uses p l h =
    let r : (e : Edge) × (p e ≡ true) × (some (same e) l ≡ true) = found p l h in
    some_where (same r.0) p
    (all_here (λ x q. subst (λ y. p y ≡ true) (same_true r.0 x q) r.1) (first_uses l))
    (member_uses r.0 l ∙ r.2)

two_of_three : (a b c : Bool) → (a || (b || (c || false))) ≡ true → ((b || c) || ((c || a) || ((a || b) || false))) ≡ true
two_of_three a true c h = refl
two_of_three a false true h = refl
two_of_three true false false h = refl
two_of_three false false false h = h

-- a position of some face has a neighbour
pub neighbours_some : (n : ℕ) (fs : List Ring) → Smoothable n fs → (v : ℕ) → used_in fs v ≡ true → 1 ≤ length (neighbours fs v)
unfolding neighbours edges_by_use
neighbours_some n fs s v h =
    let a : some (ends v) (first_uses (each sides fs)) ≡ true =
    some_uses (ends v) (each sides fs)
    (some_each sides (ends v) fs ∙ some_where (λ f. has v (map position f)) (λ f. some (ends v) (sides f)) (all_map ended (all_proper n fs s)) h) in
    omega (
      arith,
      length-map (only (ends v) (first_uses (each sides fs))) (across v),
      length_only (ends v) (first_uses (each sides fs)),
      count_some (ends v) (first_uses (each sides fs)) a,
    )
  where
    ended : (f : Ring) → Proper n (first_uses (each sides fs)) f → has v (map position f) ≡ true → some (ends v) (sides f) ≡ true
    ended _ (proper {x = x} {y = y} {z = z} t) g =
        rw (
          meets_key (position y, position z) v,
          meets_key (position z, position x) v,
          meets_key (position x, position y) v,
        )
        (two_of_three (eqb v (position x)) (eqb v (position y)) (eqb v (position z)) g)
