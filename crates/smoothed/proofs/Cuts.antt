-- The inner edges of the four triangles: three to a face, each run there and back. Two of them are one only where their faces have
-- the same positions: so they are Closed by themselves. Assumes nothing.
use mathlib.Core.Path.{◌≡◌, refl, sym, ap, ap₂, ◌∙◌}
use mathlib.Core.Logic.{⊎_elim}
use mathlib.Core.Bool.{Bool, true, false, ◌&&◌, ◌||◌, or_comm, or_assoc, or-false}
use mathlib.Core.List.{List, [], ◌∷◌, ◌++◌, map}
use Prim.Native.Nat.{ℕ}
use lib.Dec.{eqb}
use Rattle.lists.specs.Lists.{some, each, has}
use Rattle.lists.proofs.Bools.{by_cases, and_both, or_false_left, or_false_right}
use Rattle.lists.proofs.Counting.{clash}
use Rattle.lists.proofs.Others.{has_every}
use Rattle.mesh.specs.Mesh.{Ring, position}
use Rattle.verdicts.specs.Edges.{Edge, same, key, Closed, verdict}
use Rattle.verdicts.proofs.SameEdge.{same_true}
use Rattle.verdicts.proofs.Keys.{key_or_flip}
use Rattle.smoothed.specs.Smoothed.{at, middle, covered, repeated}
use Rattle.smoothed.proofs.All.{All, none, more, all_map, all_append, all_both, all_fail, all_each}
use Rattle.smoothed.proofs.Verdicts.{key_cases, pair, Distinct, empty, front, pairs_closed}
use Rattle.smoothed.proofs.Places.{middle_one, edge_at, edge_at_middle}
use Rattle.smoothed.proofs.Halves.{Numbered}
use Rattle.smoothed.proofs.Proper.{same_swap, Proper, proper}

distinct_append :
    {s t : List Edge} → Distinct s → Distinct t → All (λ d. All (λ e. same (key d) (key e) ≡ false) t) s → Distinct (s ++ t)
distinct_append empty b c = b
distinct_append (front a r) b (more x c) = front (all_append a x) (distinct_append r b c)

-- three different numbers: i to j and j to k are not one
apart : (i j k : ℕ) → (i ≡ j → ⊥) → (k ≡ i → ⊥) → same (key (i, j)) (key (j, k)) ≡ false
apart i j k h r =
    by_cases (same (key (i, j)) (key (j, k)))
    (λ s.
    absurd
    (⊎_elim
    (λ (q : (i, j) ≡ (j, k)). h (ap (λ (x : Edge). x.0) q))
    (λ (q : (i, j) ≡ (k, j)). r (sym (ap (λ (x : Edge). x.0) q)))
    (key_cases (i, j) (j, k) (same_true (key (i, j)) (key (j, k)) s))))
    (λ s. s)

three_distinct :
    (i j k : ℕ) → (i ≡ j → ⊥) → (j ≡ k → ⊥) → (k ≡ i → ⊥) → Distinct ((i, j) ∷ (j, k) ∷ (k, i) ∷ [])
three_distinct i j k a b c =
    front
    (more (apart i j k a c) (more (same_swap (key (i, j)) (key (k, i)) ∙ apart k i j c b) none))
    (front (more (apart j k i b a) none) (front none empty))

-- ---- the positions that an inner edge tells of

-- whether p is an end of the edge
abbrev pub meets : Edge → ℕ → Bool
meets k p = eqb p k.0 || eqb p k.1

pub meets_key : (e : Edge) (p : ℕ) → meets (key e) p ≡ meets e p
meets_key e p =
    ⊎_elim
    (λ q. ap (λ (x : Edge). meets x p) (sym q))
    (λ q. or_comm (eqb p (key e).0) (eqb p (key e).1) ∙ ap (λ (x : Edge). meets x p) (sym q))
    (key_or_flip e)

-- two edges with an end in common have three ends
joins : (x y z : Bool) → ((x || y) || (y || z)) ≡ (x || (y || z))
joins true y z = refl
joins false true z = refl
joins false false z = refl

turns : (x y z : Bool) → (x || (y || z)) ≡ (y || (z || x))
turns x y z = or_comm x (y || z) ∙ or_assoc y z x

module _ (n : ℕ) (ks : List Edge) where
  -- the three inner edges of a face
  abbrev pub cuts : Ring → List Edge
  cuts f =
      (middle n ks (at f 1, at f 2), middle n ks (at f 2, at f 0))
      ∷ (middle n ks (at f 2, at f 0), middle n ks (at f 0, at f 1))
      ∷ (middle n ks (at f 0, at f 1), middle n ks (at f 1, at f 2))
      ∷ []

  -- whether p is an end of one of the two old edges that an inner edge joins
  abbrev pub touches : Edge → ℕ → Bool
  touches e p = meets (edge_at n ks e.0) p || meets (edge_at n ks e.1) p

  touches_key : (e : Edge) (p : ℕ) → touches (key e) p ≡ touches e p
  touches_key e p =
      ⊎_elim
      (λ q. ap (λ (x : Edge). touches x p) (sym q))
      (λ q.
      or_comm (meets (edge_at n ks (key e).0) p) (meets (edge_at n ks (key e).1) p) ∙ ap (λ (x : Edge). touches x p) (sym q))
      (key_or_flip e)

  -- of two edges of a triangle: a to b, b to c
  touches_two :
      (a b c : ℕ) → Numbered n ks (a, b) → Numbered n ks (b, c) → (p : ℕ)
      → touches (middle n ks (a, b), middle n ks (b, c)) p ≡ (eqb p a || (eqb p b || eqb p c))
  touches_two a b c h k p =
      ap₂ (λ (x y : Edge). meets x p || meets y p) (edge_at_middle n ks (a, b) h.known) (edge_at_middle n ks (b, c) k.known)
      ∙ ap₂ ◌||◌ (meets_key (a, b) p) (meets_key (b, c) p)
      ∙ joins (eqb p a) (eqb p b) (eqb p c)

  -- they are the positions of the face
  pub cuts_touch : {f : Ring} → Proper n ks f → All (λ e. (p : ℕ) → touches e p ≡ has p (map position f)) (cuts f)
  cuts_touch (proper {x = x} {y = y} {z = z} t) =
      let a = position x in
      let b = position y in
      let c = position z in
      more
      (λ p. touches_two b c a t.bc t.ca p ∙ sym (turns (eqb p a) (eqb p b) (eqb p c)) ∙ plain p)
      (more
      (λ p. touches_two c a b t.ca t.ab p ∙ turns (eqb p c) (eqb p a) (eqb p b) ∙ plain p)
      (more (λ p. touches_two a b c t.ab t.bc p ∙ plain p) none))
    where
      plain :
          (p : ℕ) → (eqb p (position x) || (eqb p (position y) || eqb p (position z))) ≡ has p (position x ∷ position y ∷ position z ∷ [])
      plain p = rw (or-false (eqb p (position z)))

  -- two faces that have an inner edge in common have the same positions
  pub same_positions :
      (f g : Ring) (d e : Edge) → ((p : ℕ) → touches d p ≡ has p (map position f))
      → ((p : ℕ) → touches e p ≡ has p (map position g)) → key d ≡ key e → (covered f g && covered g f) ≡ true
  same_positions f g d e s t k =
      and_both (covered f g) (covered g f)
      (has_every (λ p. has p (map position g)) (map position f) (λ p h. sym (one p) ∙ h))
      (has_every (λ p. has p (map position f)) (map position g) (λ p h. one p ∙ h))
    where
      one : (p : ℕ) → has p (map position f) ≡ has p (map position g)
      one p =
          sym (s p) ∙ sym (touches_key d p) ∙ ap (λ (x : Edge). touches x p) k ∙ touches_key e p ∙ t p

  -- ---- within a face

  -- the middles of two edges of a triangle
  pub two_middles :
      (a b c : ℕ) → Numbered n ks (a, b) → Numbered n ks (b, c) → (c ≡ a → ⊥) → middle n ks (a, b) ≡ middle n ks (b, c) → ⊥
  two_middles a b c h k r q =
      ⊎_elim
      (λ (s : (a, b) ≡ (b, c)). h.no_loop (ap (λ (x : Edge). x.0) s))
      (λ (s : (a, b) ≡ (c, b)). r (sym (ap (λ (x : Edge). x.0) s)))
      (key_cases (a, b) (b, c) (middle_one n ks (a, b) (b, c) h.known k.known q))

  cuts_distinct : {f : Ring} → Proper n ks f → Distinct (cuts f)
  cuts_distinct (proper {x = x} {y = y} {z = z} t) =
      three_distinct
      (middle n ks (position y, position z))
      (middle n ks (position z, position x))
      (middle n ks (position x, position y))
      (two_middles (position y) (position z) (position x) t.bc t.ca t.ab.no_loop)
      (two_middles (position z) (position x) (position y) t.ca t.ab t.bc.no_loop)
      (two_middles (position x) (position y) (position z) t.ab t.bc t.ca.no_loop)

  cuts_no_loop : {f : Ring} → Proper n ks f → All (λ e. e.0 ≡ e.1 → ⊥) (cuts f)
  cuts_no_loop (proper {x = x} {y = y} {z = z} t) =
      more
      (two_middles (position y) (position z) (position x) t.bc t.ca t.ab.no_loop)
      (more
      (two_middles (position z) (position x) (position y) t.ca t.ab t.bc.no_loop)
      (more (two_middles (position x) (position y) (position z) t.ab t.bc t.ca.no_loop) none))

  -- ---- of all faces

  all_distinct : {fs : List Ring} → All (Proper n ks) fs → repeated fs ≡ false → Distinct (each cuts fs)
  unfolding repeated
  all_distinct none r = empty
  all_distinct (more {x = f} {l = fs} h hs) r =
      distinct_append (cuts_distinct h)
      (all_distinct hs (or_false_right (some (λ g. covered f g && covered g f) fs) (repeated fs) r))
      (all_map
      (λ d s.
      all_each cuts
      (all_map
      (λ g k.
      all_map
      (λ e t.
      by_cases (same (key d) (key e))
      (λ q. clash (same_positions f g d e s t (same_true (key d) (key e) q)) k.1)
      (λ q. q))
      (cuts_touch k.0))
      (all_both hs
      (all_fail (λ g. covered f g && covered g f) fs (or_false_left (some (λ g. covered f g && covered g f) fs) (repeated fs) r)))))
      (cuts_touch h))

  pub cuts_closed : {fs : List Ring} → All (Proper n ks) fs → repeated fs ≡ false → verdict (each pair (each cuts fs)) ≡ Closed
  cuts_closed a r = pairs_closed (all_each cuts (all_map (λ f h. cuts_no_loop h) a)) (all_distinct a r)
