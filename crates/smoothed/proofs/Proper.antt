-- Faces that can be smoothed, one by one: three different old positions, and edges that have numbers. Assumes nothing.
use mathlib.Core.Path.{◌≡◌, refl, sym, ap, ◌∙◌}
use mathlib.Core.Bool.{Bool, true, false, not, ◌&&◌}
use mathlib.Core.List.{List, [], ◌∷◌}
use Prim.Native.Nat.{ℕ, suc, ◌<◌}
use native.Mathlib.Omega.{arith}
use lib.ListN.{length}
use lib.Dec.{ltb, eqb}
use borrow.Author.Tests.{ltb-true, eqb-true, eqb-false}
use Rattle.lists.specs.Lists.{some, every, only, each, has}
use Rattle.lists.proofs.Bools.{by_cases, and_left, and_right, and_false_right, or_false_left, or_false_right, or_left, or_right}
use Rattle.lists.proofs.Cases.{iff}
use Rattle.lists.proofs.Parts.{some_append}
use Rattle.mesh.specs.Mesh.{Corner, Ring, position}
use Rattle.verdicts.specs.Edges.{Edge, same}
use Rattle.verdicts.proofs.SameEdge.{same_true, same_refl}
use Rattle.splitting.specs.Splitting.{folded_by, twice}
use Rattle.folding.specs.Folding.{folded}
use Rattle.smoothed.specs.Smoothed.{sides, first_uses, edges_by_use, Smoothable}
use Rattle.smoothed.proofs.All.{All, none, more, all_map, all_both, all_every, all_fail}
use Rattle.smoothed.proofs.Halves.{Numbered}

-- ---- first uses

pub same_swap : (d e : Edge) → same d e ≡ same e d
same_swap d e = iff (same d e) (same e d) (λ p. rw (same_true d e p) (same_refl e)) (λ p. rw (same_true e d p) (same_refl d))

-- an edge stands among those that pass where it passes and was there
pub member_only : (p : Edge → Bool) (k : Edge) (l : List Edge) → some (same k) (only p l) ≡ (p k && some (same k) l)
member_only p k [] = sym (and_false_right (p k) false refl)
member_only p k (j ∷ l) =
    by_cases
    (same k j)
    (λ e.
    let q : p j ≡ p k = ap p (sym (same_true k j e)) in
    by_cases (p k) (λ t. rw (q, t, e)) (λ t. rw (q, t) (member_only p k l ∙ rw t)))
    (λ e. by_cases (p j) (λ t. rw (t, e) (member_only p k l)) (λ t. rw (t, e) (member_only p k l)))

-- what is used is used for a first time
pub member_uses : (k : Edge) (l : List Edge) → some (same k) (first_uses l) ≡ some (same k) l
member_uses k [] = refl
member_uses k (j ∷ l) =
    by_cases
    (same k j)
    (λ e. rw e)
    (λ e.
    rw e
    (member_only (λ i. not (same j i)) k (first_uses l)
    ∙ ap (λ b. not b && some (same k) (first_uses l)) (same_swap j k ∙ e)
    ∙ member_uses k l))

-- each of a list stands in it
members : (l : List Edge) → All (λ k. some (same k) l ≡ true) l
members [] = none
members (j ∷ l) =
    more
    (or_left (same j j) (some (same j) l) (same_refl j))
    (all_map (λ k h. or_right (same k j) (some (same k) l) h) (members l))

-- each face's sides stand among all sides
sided : (fs : List Ring) → All (λ f. All (λ k. some (same k) (each sides fs) ≡ true) (sides f)) fs
sided [] = none
sided (f ∷ fs) =
    more
    (all_map
    (λ k h. some_append (same k) (sides f) (each sides fs) ∙ or_left (some (same k) (sides f)) (some (same k) (each sides fs)) h)
    (members (sides f)))
    (all_map
    (λ g a.
    all_map
    (λ k h. some_append (same k) (sides f) (each sides fs) ∙ or_right (some (same k) (sides f)) (some (same k) (each sides fs)) h)
    a)
    (sided fs))

pub numbered_sides : (fs : List Ring) → All (λ f. All (λ k. some (same k) (edges_by_use fs) ≡ true) (sides f)) fs
unfolding edges_by_use
numbered_sides fs = all_map (λ f a. all_map (λ k h. member_uses k (each sides fs) ∙ h) a) (sided fs)

-- ---- faces

module _ (n : ℕ) (ks : List Edge) where
  -- a triangle's edges in its direction
  pub record Three (a b c : ℕ) : Type 0 where
    pub ab : Numbered n ks (a, b)
    pub bc : Numbered n ks (b, c)
    pub ca : Numbered n ks (c, a)

  pub data Proper : Ring → Type 0 where
    proper : {x y z : Corner} → Three (position x) (position y) (position z) → Proper (x ∷ y ∷ z ∷ [])

  three :
      (x y z : Corner) → folded (x ∷ y ∷ z ∷ []) ≡ false → every (λ c. ltb (position c) n) (x ∷ y ∷ z ∷ []) ≡ true
      → All (λ k. some (same k) ks ≡ true) (sides (x ∷ y ∷ z ∷ [])) → Three (position x) (position y) (position z)
  unfolding folded_by
  three x y z f w (more kbc (more kca (more kab none))) =
      let a = position x in
      let b = position y in
      let c = position z in
      let fa : has a (b ∷ c ∷ []) ≡ false = or_false_left (has a (b ∷ c ∷ [])) (twice (b ∷ c ∷ [])) f in
      let fb : twice (b ∷ c ∷ []) ≡ false = or_false_right (has a (b ∷ c ∷ [])) (twice (b ∷ c ∷ [])) f in
      let ab : a ≡ b → ⊥ = eqb-false a b (or_false_left (eqb a b) (has a (c ∷ [])) fa) in
      let ac : a ≡ c → ⊥ = eqb-false a c (or_false_left (eqb a c) false (or_false_right (eqb a b) (has a (c ∷ [])) fa)) in
      let bc : b ≡ c → ⊥ = eqb-false b c (or_false_left (eqb b c) false (or_false_left (has b (c ∷ [])) (twice (c ∷ [])) fb)) in
      let wb : (ltb b n && (ltb c n && true)) ≡ true = and_right (ltb a n) (ltb b n && (ltb c n && true)) w in
      let la : a < n = ltb-true a n (and_left (ltb a n) (ltb b n && (ltb c n && true)) w) in
      let lb : b < n = ltb-true b n (and_left (ltb b n) (ltb c n && true) wb) in
      let lc : c < n = ltb-true c n (and_left (ltb c n) true (and_right (ltb b n) (ltb c n && true) wb)) in
      record {
        ab = record { start_below = la; end_below = lb; no_loop = ab; known = kab };
        bc = record { start_below = lb; end_below = lc; no_loop = bc; known = kbc };
        ca = record { start_below = lc; end_below = la; no_loop = λ e. ac (sym e); known = kca };
      }

  proper_face :
      (f : Ring) → eqb (length f) 3 ≡ true → folded f ≡ false → every (λ c. ltb (position c) n) f ≡ true
      → All (λ k. some (same k) ks ≡ true) (sides f) → Proper f
  proper_face [] l u w a = let e : ◌≡◌ {A = ℕ} 0 3 = eqb-true 0 3 l in absurd (omega arith)
  proper_face (x ∷ []) l u w a = let e : ◌≡◌ {A = ℕ} 1 3 = eqb-true 1 3 l in absurd (omega arith)
  proper_face (x ∷ y ∷ []) l u w a = let e : ◌≡◌ {A = ℕ} 2 3 = eqb-true 2 3 l in absurd (omega arith)
  proper_face (x ∷ y ∷ z ∷ []) l u w a = proper (three x y z u w a)
  proper_face (x ∷ y ∷ z ∷ t ∷ f) l u w a =
      let e : suc (suc (suc (suc (length f)))) ≡ 3 = eqb-true (suc (suc (suc (suc (length f))))) 3 l in absurd (omega arith)

pub all_proper : (n : ℕ) (fs : List Ring) → Smoothable n fs → All (Proper n (edges_by_use fs)) fs
all_proper n fs s =
    all_map
    (λ f h. proper_face n (edges_by_use fs) f h.0 h.1.0 h.1.1.0 h.1.1.1)
    (all_both
    (all_every (λ f. eqb (length f) 3) fs s.triangles)
    (all_both
    (all_fail folded fs s.unfolded)
    (all_both (all_every (λ f. every (λ c. ltb (position c) n) f) fs s.within) (numbered_sides fs))))
