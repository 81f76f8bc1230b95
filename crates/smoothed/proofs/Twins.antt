-- No two of the smoothed faces have the same positions where no two of the faces do: so smoothing can be done again, as often as one
-- likes, and keeps the verdict. Assumes nothing.
use mathlib.Core.Path.{◌≡◌, refl, sym, ◌∙◌, subst}
use mathlib.Core.Logic.{⊎_elim}
use mathlib.Core.Bool.{Bool, true, false, ◌&&◌, or_comm}
use mathlib.Core.List.{List, [], ◌∷◌, ◌++◌, map}
use Prim.Native.Nat.{ℕ, ◌≤◌, ◌<◌}
use native.Mathlib.Omega.{arith}
use Rattle.lists.specs.Lists.{some, each, has}
use Rattle.lists.proofs.Bools.{by_cases, and_left, or_neither, or_false_left, or_false_right}
use Rattle.lists.proofs.Counting.{clash}
use Rattle.lists.proofs.Members.{In, in_cases, in_one, in_head, in_tail}
use Rattle.lists.proofs.Others.{every_has}
use Rattle.mesh.specs.Mesh.{Ring, position}
use Rattle.verdicts.specs.Edges.{Edge, edges_of, verdict}
use Rattle.smoothed.specs.Smoothed.{at, bare, middle, four, edges_by_use, smoothed_faces, smoothed_count, Smoothable, covered, repeated}
use Rattle.smoothed.proofs.All.{All, none, more, all_map, all_append, all_both, all_fail, all_each}
use Rattle.smoothed.proofs.Places.{middle_above, edge_at}
use Rattle.smoothed.proofs.Proper.{Proper, proper, all_proper}
use Rattle.smoothed.proofs.Cuts.{meets, touches, cuts, cuts_touch, two_middles, same_positions}
use Rattle.smoothed.proofs.Again.{smoothed_again}
use Rattle.smoothed.proofs.Kept.{smoothed_verdict}

-- ---- two faces with the same positions

abbrev twin : Ring → Ring → Bool
twin f g = covered f g && covered g f

twin_has : (f g : Ring) (p : ℕ) → twin f g ≡ true → has p (map position f) ≡ true → has p (map position g) ≡ true
twin_has f g p t h = every_has (λ q. has q (map position g)) p (map position f) (and_left (covered f g) (covered g f) t) h

-- a position of the one that the other has not
no_twin : (f g : Ring) (p : ℕ) → has p (map position f) ≡ true → (has p (map position g) ≡ true → ⊥) → twin f g ≡ false
no_twin f g p h n = by_cases (twin f g) (λ t. absurd (n (twin_has f g p t h))) (λ t. t)

-- faces, no two of which are twins
data Unlike : List Ring → Type 0 where
  empty : Unlike []
  front : {f : Ring} {fs : List Ring} → All (λ g. twin f g ≡ false) fs → Unlike fs → Unlike (f ∷ fs)

unlike_append : {s t : List Ring} → Unlike s → Unlike t → All (λ f. All (λ g. twin f g ≡ false) t) s → Unlike (s ++ t)
unlike_append empty b c = b
unlike_append (front a r) b (more x c) = front (all_append a x) (unlike_append r b c)

none_some : (p : Ring → Bool) {l : List Ring} → All (λ x. p x ≡ false) l → some p l ≡ false
none_some p none = refl
none_some p (more {x = x} {l = l} e r) = or_neither (p x) (some p l) e (none_some p r)

unlike_repeated : {fs : List Ring} → Unlike fs → repeated fs ≡ false
unfolding repeated
unlike_repeated empty = refl
unlike_repeated (front {f = f} {fs = fs} a r) =
    or_neither (some (λ g. twin f g) fs) (repeated fs) (none_some (λ g. twin f g) a) (unlike_repeated r)

-- ---- one of three numbers

of_three : {R : Type 0} (p x y z : ℕ) → (p ≡ x → R) → (p ≡ y → R) → (p ≡ z → R) → has p (x ∷ y ∷ z ∷ []) ≡ true → R
of_three p x y z f g h e =
    ⊎_elim f (λ r. ⊎_elim g (λ s. h (in_one p z s)) (in_cases p y (z ∷ []) r)) (in_cases p x (y ∷ z ∷ []) e)

first : (x y z : ℕ) → In x (x ∷ y ∷ z ∷ [])
first x y z = in_head x (y ∷ z ∷ [])

second : (x y z : ℕ) → In y (x ∷ y ∷ z ∷ [])
second x y z = in_tail y x (y ∷ z ∷ []) (in_head y (z ∷ []))

third : (x y z : ℕ) → In z (x ∷ y ∷ z ∷ [])
third x y z = in_tail z x (y ∷ z ∷ []) (in_tail z y (z ∷ []) (in_head z []))

equal_in : (p q : ℕ) (l : List ℕ) → p ≡ q → In q l → In p l
equal_in p q l e h = subst (λ x. In x l) (sym e) h

module _ (n : ℕ) (ks : List Edge) where
  -- the three new positions of a face
  abbrev middles : Ring → List ℕ
  middles f = middle n ks (at f 1, at f 2) ∷ middle n ks (at f 2, at f 0) ∷ middle n ks (at f 0, at f 1) ∷ []

  -- p and q tell of the positions of f
  abbrev Tells : Ring → ℕ → ℕ → Type 0
  Tells f p q = (r : ℕ) → touches n ks (p, q) r ≡ has r (map position f)

  tells_back : (f : Ring) (p q : ℕ) → Tells f p q → Tells f q p
  tells_back f p q t r = or_comm (meets (edge_at n ks q) r) (meets (edge_at n ks p) r) ∙ t r

  -- any two of the new positions do
  middles_tell : {f : Ring} → Proper n ks f → (p q : ℕ) → (p ≡ q → ⊥) → In p (middles f) → In q (middles f) → Tells f p q
  middles_tell {f} h p q ne a b = go (cuts_touch n ks h)
    where
      i : ℕ
      i = middle n ks (at f 1, at f 2)

      j : ℕ
      j = middle n ks (at f 2, at f 0)

      k : ℕ
      k = middle n ks (at f 0, at f 1)

      move : (x y : ℕ) → Tells f x y → p ≡ x → q ≡ y → Tells f p q
      move x y t e d = subst (λ u. Tells f u q) (sym e) (subst (λ w. Tells f x w) (sym d) t)

      go : All (λ e. (r : ℕ) → touches n ks e r ≡ has r (map position f)) (cuts n ks f) → Tells f p q
      go (more ij (more jk (more ki none))) =
          of_three p i j k
          (λ e.
          of_three q i j k
          (λ d. absurd (ne (e ∙ sym d)))
          (λ d. move i j ij e d)
          (λ d. move i k (tells_back f k i ki) e d)
          b)
          (λ e.
          of_three q i j k
          (λ d. move j i (tells_back f i j ij) e d)
          (λ d. absurd (ne (e ∙ sym d)))
          (λ d. move j k jk e d)
          b)
          (λ e.
          of_three q i j k
          (λ d. move k i ki e d)
          (λ d. move k j (tells_back f j k jk) e d)
          (λ d. absurd (ne (e ∙ sym d)))
          b)
          a

  -- each of the four triangles has two new positions of its face, and no other new ones
  pub record Piece (f g : Ring) : Type 0 where
    pub one : ℕ
    pub other : ℕ
    pub differ : one ≡ other → ⊥
    pub one_new : n ≤ one
    pub other_new : n ≤ other
    pub one_of : In one (middles f)
    pub other_of : In other (middles f)
    pub has_one : In one (map position g)
    pub has_other : In other (map position g)
    pub no_more : (p : ℕ) → n ≤ p → In p (map position g) → In p (middles f)

  pieces : {f : Ring} → Proper n ks f → All (Piece f) (four n ks f)
  pieces (proper {x = x} {y = y} {z = z} t) = more t1 (more t2 (more t3 (more t4 none)))
    where
      a : ℕ
      a = position x

      b : ℕ
      b = position y

      c : ℕ
      c = position z

      i : ℕ
      i = middle n ks (position y, position z)

      j : ℕ
      j = middle n ks (position z, position x)

      k : ℕ
      k = middle n ks (position x, position y)

      ij : i ≡ j → ⊥
      ij = two_middles n ks (position y) (position z) (position x) t.bc t.ca t.ab.no_loop

      jk : j ≡ k → ⊥
      jk = two_middles n ks (position z) (position x) (position y) t.ca t.ab t.bc.no_loop

      ki : k ≡ i → ⊥
      ki = two_middles n ks (position x) (position y) (position z) t.ab t.bc t.ca.no_loop

      is_i : (p : ℕ) → p ≡ i → In p (i ∷ j ∷ k ∷ [])
      is_i p e = equal_in p i (i ∷ j ∷ k ∷ []) e (first i j k)

      is_j : (p : ℕ) → p ≡ j → In p (i ∷ j ∷ k ∷ [])
      is_j p e = equal_in p j (i ∷ j ∷ k ∷ []) e (second i j k)

      is_k : (p : ℕ) → p ≡ k → In p (i ∷ j ∷ k ∷ [])
      is_k p e = equal_in p k (i ∷ j ∷ k ∷ []) e (third i j k)

      is_old : (p v : ℕ) → v < n → n ≤ p → p ≡ v → In p (i ∷ j ∷ k ∷ [])
      is_old p v l h e = absurd (omega arith)

      t1 : Piece (x ∷ y ∷ z ∷ []) (x ∷ bare k ∷ bare j ∷ [])
      t1 = record {
        one = k;
        other = j;
        differ = λ e. jk (sym e);
        one_new = middle_above n ks (position x, position y);
        other_new = middle_above n ks (position z, position x);
        one_of = third i j k;
        other_of = second i j k;
        has_one = second a k j;
        has_other = third a k j;
        no_more = λ p l h. of_three p a k j (is_old p a t.ab.start_below l) (is_k p) (is_j p) h;
      }

      t2 : Piece (x ∷ y ∷ z ∷ []) (bare i ∷ z ∷ bare j ∷ [])
      t2 = record {
        one = i;
        other = j;
        differ = ij;
        one_new = middle_above n ks (position y, position z);
        other_new = middle_above n ks (position z, position x);
        one_of = first i j k;
        other_of = second i j k;
        has_one = first i c j;
        has_other = third i c j;
        no_more = λ p l h. of_three p i c j (is_i p) (is_old p c t.ca.start_below l) (is_j p) h;
      }

      t3 : Piece (x ∷ y ∷ z ∷ []) (bare i ∷ bare k ∷ y ∷ [])
      t3 = record {
        one = i;
        other = k;
        differ = λ e. ki (sym e);
        one_new = middle_above n ks (position y, position z);
        other_new = middle_above n ks (position x, position y);
        one_of = first i j k;
        other_of = third i j k;
        has_one = first i k b;
        has_other = second i k b;
        no_more = λ p l h. of_three p i k b (is_i p) (is_k p) (is_old p b t.bc.start_below l) h;
      }

      t4 : Piece (x ∷ y ∷ z ∷ []) (bare i ∷ bare j ∷ bare k ∷ [])
      t4 = record {
        one = i;
        other = j;
        differ = ij;
        one_new = middle_above n ks (position y, position z);
        other_new = middle_above n ks (position z, position x);
        one_of = first i j k;
        other_of = second i j k;
        has_one = first i j k;
        has_other = second i j k;
        no_more = λ p l h. h;
      }

  -- ---- no twins

  -- of one face: each of the three at its corners has the corner, and the others have not
  four_unlike : {f : Ring} → Proper n ks f → Unlike (four n ks f)
  four_unlike (proper {x = x} {y = y} {z = z} t) =
      let a : ℕ = position x in
      let b : ℕ = position y in
      let c : ℕ = position z in
      let i : ℕ = middle n ks (position y, position z) in
      let j : ℕ = middle n ks (position z, position x) in
      let k : ℕ = middle n ks (position x, position y) in
      let la : a < n = t.ab.start_below in
      let lb : b < n = t.bc.start_below in
      let lc : c < n = t.ca.start_below in
      let li : n ≤ i = middle_above n ks (position y, position z) in
      let lj : n ≤ j = middle_above n ks (position z, position x) in
      let lk : n ≤ k = middle_above n ks (position x, position y) in
      let ab : a ≡ b → ⊥ = t.ab.no_loop in
      let bc : b ≡ c → ⊥ = t.bc.no_loop in
      let ca : c ≡ a → ⊥ = t.ca.no_loop in
      front
      (more (no_twin (x ∷ bare k ∷ bare j ∷ []) (bare i ∷ z ∷ bare j ∷ []) a (first a k j) (of_three a i c j (λ e. omega arith) (λ e. ca (sym e)) (λ e. omega arith)))
      (more (no_twin (x ∷ bare k ∷ bare j ∷ []) (bare i ∷ bare k ∷ y ∷ []) a (first a k j) (of_three a i k b (λ e. omega arith) (λ e. omega arith) ab))
      (more (no_twin (x ∷ bare k ∷ bare j ∷ []) (bare i ∷ bare j ∷ bare k ∷ []) a (first a k j) (of_three a i j k (λ e. omega arith) (λ e. omega arith) (λ e. omega arith)))
      none)))
      (front
      (more (no_twin (bare i ∷ z ∷ bare j ∷ []) (bare i ∷ bare k ∷ y ∷ []) c (second i c j) (of_three c i k b (λ e. omega arith) (λ e. omega arith) (λ e. bc (sym e))))
      (more (no_twin (bare i ∷ z ∷ bare j ∷ []) (bare i ∷ bare j ∷ bare k ∷ []) c (second i c j) (of_three c i j k (λ e. omega arith) (λ e. omega arith) (λ e. omega arith)))
      none))
      (front
      (more (no_twin (bare i ∷ bare k ∷ y ∷ []) (bare i ∷ bare j ∷ bare k ∷ []) b (third i k b) (of_three b i j k (λ e. omega arith) (λ e. omega arith) (λ e. omega arith)))
      none)
      (front none empty)))

  -- of two faces: a twin would have the two new positions that tell of the first, and they would tell of the second
  two_unlike :
      (f h g d : Ring) → Proper n ks f → Proper n ks h → twin f h ≡ false → Piece f g → Piece h d → twin g d ≡ false
  two_unlike f h g d pf ph ne u v =
      by_cases (twin g d)
      (λ t.
      let in-one' : In u.one (middles h) = v.no_more u.one u.one_new (twin_has g d u.one t u.has_one) in
      let in-other : In u.other (middles h) = v.no_more u.other u.other_new (twin_has g d u.other t u.has_other) in
      clash
      (same_positions n ks f h (u.one, u.other) (u.one, u.other)
      (middles_tell pf u.one u.other u.differ u.one_of u.other_of)
      (middles_tell ph u.one u.other u.differ in-one' in-other)
      refl)
      ne)
      (λ t. t)

  all_unlike : {fs : List Ring} → All (Proper n ks) fs → repeated fs ≡ false → Unlike (each (four n ks) fs)
  unfolding repeated
  all_unlike none r = empty
  all_unlike (more {x = f} {l = fs} p ps) r =
      unlike_append (four_unlike p)
      (all_unlike ps (or_false_right (some (λ g. twin f g) fs) (repeated fs) r))
      (all_map
      (λ g u.
      all_each (four n ks)
      (all_map
      (λ h q. all_map (λ d v. two_unlike f h g d p q.0 q.1 u v) (pieces q.0))
      (all_both ps (all_fail (λ h. twin f h) fs (or_false_left (some (λ g. twin f g) fs) (repeated fs) r)))))
      (pieces p))

pub smoothed_unlike : (n : ℕ) (fs : List Ring) → Smoothable n fs → repeated fs ≡ false → repeated (smoothed_faces n fs) ≡ false
unfolding smoothed_faces
smoothed_unlike n fs s r = unlike_repeated (all_unlike n (edges_by_use fs) (all_proper n fs s) r)

-- so the verdict stays when it is done again
pub smoothed_twice :
    (n : ℕ) (fs : List Ring) → Smoothable n fs → repeated fs ≡ false
    → verdict (edges_of (smoothed_faces (smoothed_count n fs) (smoothed_faces n fs))) ≡ verdict (edges_of fs)
smoothed_twice n fs s r =
    smoothed_verdict (smoothed_count n fs) (smoothed_faces n fs) (smoothed_again n fs s) (smoothed_unlike n fs s r)
    ∙ smoothed_verdict n fs s r
