-- Every position of the result is the position of some corner, where every position of the input is. Assumes nothing.
use mathlib.Core.Path.{◌≡◌, refl, sym, ap, ◌∙◌, subst}
use mathlib.Core.Logic.{⊎_elim}
use mathlib.Core.Bool.{Bool, true, false, not, ◌&&◌, ◌||◌}
use mathlib.Core.List.{List, [], ◌∷◌, map}
use Prim.Native.Nat.{ℕ, zero, suc, ◌+◌, ◌-◌, ◌<◌}
use native.Mathlib.Nat.{not-suc-le-zero, le_of_suc-le-suc}
use native.Mathlib.Omega.{arith}
use lib.ListN.{length, get_or}
use lib.Dec.{eqb}
use borrow.Author.Tests.{eq-eqb}
use Rattle.lists.specs.Lists.{some, only, keep_if, each, has}
use Rattle.lists.proofs.Bools.{by_cases, or_left, or_right}
use Rattle.lists.proofs.Counting.{clash}
use Rattle.lists.proofs.Buckets.{lt_or_ge}
use Rattle.lists.proofs.Only.{some_only}
use Rattle.mesh.specs.Mesh.{Ring, position}
use Rattle.verdicts.specs.Edges.{Edge, same, key}
use Rattle.verdicts.proofs.SameEdge.{same_true, same_refl}
use Rattle.smoothed.specs.Smoothed.{sides, first_uses, edges_by_use, place, middle, four, smoothed_faces, smoothed_count, Smoothable, used_in, all_used}
use Rattle.smoothed.proofs.All.{All, all_map, some_each, some_where}
use Rattle.smoothed.proofs.Spans.{every_span_at, every_span_all}
use Rattle.smoothed.proofs.Proper.{member_only, member_uses, Proper, proper, all_proper}

-- ---- each edge has one number

-- edges, each once
pub data Once : List Edge → Type 0 where
  empty : Once []
  front : {k : Edge} {ks : List Edge} → some (same k) ks ≡ false → Once ks → Once (k ∷ ks)

some_fewer : (p : Edge → Bool) (k : Edge) (l : List Edge) → some (same k) l ≡ false → some (same k) (only p l) ≡ false
some_fewer p k l h = by_cases (some (same k) (only p l)) (λ e. clash (some_only p (same k) l e) h) (λ e. e)

once_only : (p : Edge → Bool) {l : List Edge} → Once l → Once (only p l)
once_only p empty = empty
once_only p (front {k = k} {ks = ks} h r) = go (p k) (once_only p r)
  where
    go : (b : Bool) → Once (only p ks) → Once (keep_if b k (only p ks))
    go true o = front (some_fewer p k ks h) o
    go false o = o

pub once_uses : (l : List Edge) → Once (first_uses l)
once_uses [] = empty
once_uses (k ∷ l) =
    front
    (member_only (λ j. not (same k j)) k (first_uses l) ∙ ap (λ b. not b && some (same k) (first_uses l)) (same_refl k))
    (once_only (λ j. not (same k j)) (once_uses l))

member_at : (ks : List Edge) (i : ℕ) → i < length ks → some (same (get_or ks i (0, 0))) ks ≡ true
member_at [] i h = absurd (not-suc-le-zero h)
member_at (k ∷ ks) zero h = or_left (same k k) (some (same k) ks) (same_refl k)
member_at (k ∷ ks) (suc i) h =
    or_right (same (get_or ks i (0, 0)) k) (some (same (get_or ks i (0, 0))) ks) (member_at ks i (le_of_suc-le-suc h))

-- the number of the edge that stands at i is i
place_at : {ks : List Edge} → Once ks → (i : ℕ) → i < length ks → place ks (get_or ks i (0, 0)) ≡ i
unfolding place
place_at empty i h = absurd (not-suc-le-zero h)
place_at (front {k = k} {ks = ks} n r) zero h = rw (same_refl k)
place_at (front {k = k} {ks = ks} n r) (suc i) h =
    let l : i < length ks = le_of_suc-le-suc h in
    by_cases
    (same (get_or ks i (0, 0)) k)
    (λ e. clash (member_at ks i l) (subst (λ x. some (same x) ks ≡ false) (sym (same_true (get_or ks i (0, 0)) k e)) n))
    (λ e. rw e (ap suc (place_at r i l)))

once_edges : (fs : List Ring) → Once (edges_by_use fs)
unfolding edges_by_use
once_edges fs = once_uses (each sides fs)

-- the edge at i is a side of some face
side_at : (fs : List Ring) (i : ℕ) → i < length (edges_by_use fs) → some (same (get_or (edges_by_use fs) i (0, 0))) (each sides fs) ≡ true
unfolding edges_by_use
side_at fs i h =
    sym (member_uses (get_or (first_uses (each sides fs)) i (0, 0)) (each sides fs)) ∙ member_at (first_uses (each sides fs)) i h

-- ---- old positions and new ones

-- of the tests of a position at the corners and the middles of a face
corner_in_four :
    (a b c i j k : Bool) → (a || (b || (c || false))) ≡ true
    → ((a || (k || (j || false)))
    || ((i || (c || (j || false))) || ((i || (k || (b || false))) || ((i || (j || (k || false))) || false))))
    ≡ true
corner_in_four true b c i j k h = refl
corner_in_four false b c i j true h = refl
corner_in_four false b c i true false h = refl
corner_in_four false b c true false false h = refl
corner_in_four false b true false false false h = refl
corner_in_four false true false false false false h = refl
corner_in_four false false false false false false h = h

one_of_three :
    (a b c x y z : Bool) → (a ≡ true → x ≡ true) → (b ≡ true → y ≡ true) → (c ≡ true → z ≡ true) → (a || (b || (c || false))) ≡ true
    → (x || (y || (z || false))) ≡ true
one_of_three true b c x y z f g h e = or_left x (y || (z || false)) (f refl)
one_of_three false true c x y z f g h e = or_right x (y || (z || false)) (or_left y (z || false) (g refl))
one_of_three false false true x y z f g h e = or_right x (y || (z || false)) (or_right y (z || false) (or_left z false (h refl)))
one_of_three false false false x y z f g h e = clash e refl

module _ (n : ℕ) (ks : List Edge) where
  -- a position of the face is one of the four triangles
  old_used : (p : ℕ) (f : Ring) → Proper n ks f → has p (map position f) ≡ true → used_in (four n ks f) p ≡ true
  old_used p _ (proper {x = x} {y = y} {z = z} t) h =
      corner_in_four
      (eqb p (position x))
      (eqb p (position y))
      (eqb p (position z))
      (eqb p (middle n ks (position y, position z)))
      (eqb p (middle n ks (position z, position x)))
      (eqb p (middle n ks (position x, position y)))
      h

  at_middle : (k e : Edge) → same k (key e) ≡ true → eqb (n + place ks k) (middle n ks e) ≡ true
  unfolding middle
  at_middle k e h = eq-eqb (n + place ks k) (n + place ks (key e)) (ap (λ j. n + place ks j) (same_true k (key e) h))

  -- so is the new position on a side of it
  new_used : (k : Edge) (f : Ring) → Proper n ks f → some (same k) (sides f) ≡ true → used_in (four n ks f) (n + place ks k) ≡ true
  new_used k _ (proper {x = x} {y = y} {z = z} t) h =
      let q : ℕ = n + place ks k in
      let bc : Edge = (position y, position z) in
      let ca : Edge = (position z, position x) in
      let ab : Edge = (position x, position y) in
      or_right (eqb q (position x) || (eqb q (middle n ks ab) || (eqb q (middle n ks ca) || false))) _
      (or_right (eqb q (middle n ks bc) || (eqb q (position z) || (eqb q (middle n ks ca) || false))) _
      (or_right (eqb q (middle n ks bc) || (eqb q (middle n ks ab) || (eqb q (position y) || false))) _
      (or_left (eqb q (middle n ks bc) || (eqb q (middle n ks ca) || (eqb q (middle n ks ab) || false))) false
      (one_of_three (same k (key bc)) (same k (key ca)) (same k (key ab)) _ _ _ (at_middle k bc) (at_middle k ca) (at_middle k ab) h))))

-- every position of the result is used where every position of the input is
pub smoothed_used :
    (n : ℕ) (fs : List Ring) → Smoothable n fs → all_used n fs ≡ true → all_used (smoothed_count n fs) (smoothed_faces n fs) ≡ true
unfolding smoothed_faces all_used
smoothed_used n fs s u = every_span_all (used_in (each (four n (edges_by_use fs)) fs)) (n + length (edges_by_use fs)) one
  where
    a : All (Proper n (edges_by_use fs)) fs
    a = all_proper n fs s

    old : (p : ℕ) → p < n → used_in (each (four n (edges_by_use fs)) fs) p ≡ true
    old p h =
        some_each (four n (edges_by_use fs)) (λ f. has p (map position f)) fs
        ∙ some_where (λ f. has p (map position f)) (λ f. used_in (four n (edges_by_use fs) f) p)
        (all_map (old_used n (edges_by_use fs) p) a) (every_span_at (used_in fs) n p u h)

    new : (i : ℕ) → i < length (edges_by_use fs) → used_in (each (four n (edges_by_use fs)) fs) (n + i) ≡ true
    new i h =
        let k : Edge = get_or (edges_by_use fs) i (0, 0) in
        let e : place (edges_by_use fs) k ≡ i = place_at (once_edges fs) i h in
        let m : some (λ f. some (same k) (sides f)) fs ≡ true = sym (some_each sides (same k) fs) ∙ side_at fs i h in
        subst (λ q. used_in (each (four n (edges_by_use fs)) fs) (n + q) ≡ true) e
        (some_each (four n (edges_by_use fs)) (λ f. has (n + place (edges_by_use fs) k) (map position f)) fs
        ∙ some_where (λ f. some (same k) (sides f)) (λ f. used_in (four n (edges_by_use fs) f) (n + place (edges_by_use fs) k))
        (all_map (new_used n (edges_by_use fs) k) a) m)

    one : (p : ℕ) → p < n + length (edges_by_use fs) → used_in (each (four n (edges_by_use fs)) fs) p ≡ true
    one p h =
        ⊎_elim (old p)
        (λ l.
        let e : n + (p - n) ≡ p = omega arith in
        subst (λ q. used_in (each (four n (edges_by_use fs)) fs) q ≡ true) e (new (p - n) (omega arith)))
        (lt_or_ge p n)
