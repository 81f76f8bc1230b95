-- The two halves of each old edge are used as often as the edge and in its directions: so they have its verdict. Assumes nothing.
use mathlib.Core.Path.{◌≡◌, refl, sym, ap, ◌∙◌}
use mathlib.Core.Logic.{◌⊎◌, inl, inr, ⊎_elim}
use mathlib.Core.Bool.{Bool, true, false, ◌&&◌, ◌||◌}
use mathlib.Core.List.{List, [], ◌∷◌}
use Prim.Native.Nat.{ℕ, ◌≤◌, ◌<◌}
use native.Mathlib.Omega.{arith}
use lib.Dec.{leb, eqb}
use borrow.Author.Tests.{le-leb, lt-leb, eqb-true, eq-eqb, ne_eqb}
use Rattle.lists.specs.Lists.{some, each, bump}
use Rattle.lists.proofs.Bools.{by_cases, and_left, and_right, and_both, and_false_right}
use Rattle.lists.proofs.Cases.{iff}
use Rattle.lists.proofs.Counting.{clash}
use Rattle.verdicts.specs.Edges.{Edge, same, flip, key, uses, runs, verdict}
use Rattle.verdicts.proofs.SameEdge.{same_true, same_of}
use Rattle.smoothed.specs.Smoothed.{middle}
use Rattle.smoothed.proofs.All.{All, all_map, some_all, some_each, count_each}
use Rattle.smoothed.proofs.Verdicts.{key_cases}
use Rattle.smoothed.proofs.Places.{middle_above, middle_key, middle_one}

pub key_up : (a b : ℕ) → a < b → key (a, b) ≡ (a, b)
unfolding key
key_up a b l = rw (le-leb a b (omega arith))

pub key_down : (a b : ℕ) → b < a → key (a, b) ≡ (b, a)
unfolding key
key_down a b l = rw (lt-leb a b l)

-- one of two different numbers
one_of : (u a b : ℕ) → (a ≡ b → ⊥) → (u ≡ a) ⊎ (u ≡ b) → bump (eqb u a && true) (bump (eqb u b && true) 0) ≡ 1
one_of u a b n (inl p) = rw (eq-eqb u a p, ne_eqb u b (λ q. n (sym p ∙ q)))
one_of u a b n (inr p) = rw (eq-eqb u b p, ne_eqb u a (λ q. n (sym q ∙ p)))

none_of : (x y : Bool) → bump (x && false) (bump (y && false) 0) ≡ 0
none_of x y = rw (and_false_right x false refl, and_false_right y false refl)

module _ (n : ℕ) (ks : List Edge) where
  -- an edge between two different old positions, which has a number
  pub record Numbered (e : Edge) : Type 0 where
    pub start_below : e.0 < n
    pub end_below : e.1 < n
    pub no_loop : e.0 ≡ e.1 → ⊥
    pub known : some (same (key e)) ks ≡ true

  abbrev pub half : Edge → List Edge
  half e = (e.0, middle n ks e) ∷ (middle n ks e, e.1) ∷ []

  module _ (d e : Edge) (o : Numbered d) (q : Numbered e) where
    one_middle : middle n ks d ≡ middle n ks e → key d ≡ key e
    one_middle = middle_one n ks d e o.known q.known

    -- an end of d with d's middle is one half of e, without direction, where d and e are one; else it is none
    uses_half : (u : ℕ) → (u ≡ d.0) ⊎ (u ≡ d.1) → uses (u, middle n ks d) (half e) ≡ bump (same (key d) (key e)) 0
    uses_half u w =
        let m : n ≤ middle n ks e = middle_above n ks e in
        let a : e.0 < n = q.start_below in
        let b : e.1 < n = q.end_below in
        rw (key_up e.0 (middle n ks e) (omega arith), key_down (middle n ks e) e.1 (omega arith))
        (by_cases (same (key d) (key e))
        (λ s.
        let k : key d ≡ key e = same_true (key d) (key e) s in
        let t : eqb (middle n ks d) (middle n ks e) ≡ true = eq-eqb (middle n ks d) (middle n ks e) (middle_key n ks d e k) in
        rw (t, s) (one_of u e.0 e.1 q.no_loop (an_end (key_cases d e k) w)))
        (λ s.
        let t : eqb (middle n ks d) (middle n ks e) ≡ false =
        ne_eqb (middle n ks d) (middle n ks e) (λ r. clash (same_of (key d) (key e) (one_middle r)) s) in
        rw (t, s) (none_of (eqb u e.0) (eqb u e.1))))
      where
        an_end : (d ≡ e) ⊎ (d ≡ flip e) → (u ≡ d.0) ⊎ (u ≡ d.1) → (u ≡ e.0) ⊎ (u ≡ e.1)
        an_end (inl p) (inl r) = inl (r ∙ ap (λ (x : Edge). x.0) p)
        an_end (inl p) (inr r) = inr (r ∙ ap (λ (x : Edge). x.1) p)
        an_end (inr p) (inl r) = inr (r ∙ ap (λ (x : Edge). x.0) p)
        an_end (inr p) (inr r) = inl (r ∙ ap (λ (x : Edge). x.1) p)

    -- one middle, and one start or one end: one edge
    one_start : d.0 ≡ e.0 → middle n ks d ≡ middle n ks e → d ≡ e
    one_start s r =
        ⊎_elim (λ p. p) (λ p. absurd (q.no_loop (sym s ∙ ap (λ (x : Edge). x.0) p))) (key_cases d e (one_middle r))

    one_end : d.1 ≡ e.1 → middle n ks d ≡ middle n ks e → d ≡ e
    one_end s r =
        ⊎_elim (λ p. p) (λ p. absurd (q.no_loop (sym (ap (λ (x : Edge). x.1) p) ∙ s))) (key_cases d e (one_middle r))

    runs_start : runs (d.0, middle n ks d) (half e) ≡ bump (same d e) 0
    runs_start =
        let m : n ≤ middle n ks e = middle_above n ks e in
        let a : d.0 < n = o.start_below in
        let t : (eqb d.0 e.0 && eqb (middle n ks d) (middle n ks e)) ≡ same d e =
        iff (eqb d.0 e.0 && eqb (middle n ks d) (middle n ks e)) (same d e)
        (λ h.
        same_of d e
        (one_start
        (eqb-true d.0 e.0 (and_left (eqb d.0 e.0) (eqb (middle n ks d) (middle n ks e)) h))
        (eqb-true (middle n ks d) (middle n ks e) (and_right (eqb d.0 e.0) (eqb (middle n ks d) (middle n ks e)) h))))
        (λ h.
        and_both (eqb d.0 e.0) (eqb (middle n ks d) (middle n ks e))
        (and_left (eqb d.0 e.0) (eqb d.1 e.1) h)
        (eq-eqb (middle n ks d) (middle n ks e) (ap (middle n ks) (same_true d e h)))) in
        rw (t, ne_eqb d.0 (middle n ks e) (λ r. omega arith))

    runs_end : runs (middle n ks d, d.1) (half e) ≡ bump (same d e) 0
    runs_end =
        let m : n ≤ middle n ks d = middle_above n ks d in
        let a : e.0 < n = q.start_below in
        let t : (eqb (middle n ks d) (middle n ks e) && eqb d.1 e.1) ≡ same d e =
        iff (eqb (middle n ks d) (middle n ks e) && eqb d.1 e.1) (same d e)
        (λ h.
        same_of d e
        (one_end
        (eqb-true d.1 e.1 (and_right (eqb (middle n ks d) (middle n ks e)) (eqb d.1 e.1) h))
        (eqb-true (middle n ks d) (middle n ks e) (and_left (eqb (middle n ks d) (middle n ks e)) (eqb d.1 e.1) h))))
        (λ h.
        and_both (eqb (middle n ks d) (middle n ks e)) (eqb d.1 e.1)
        (eq-eqb (middle n ks d) (middle n ks e) (ap (middle n ks) (same_true d e h)))
        (and_right (eqb d.0 e.0) (eqb d.1 e.1) h)) in
        rw (t, ne_eqb (middle n ks d) e.0 (λ r. omega arith))

  module _ {es : List Edge} (a : All Numbered es) where
    -- each half is used as often as its edge, and in each direction as often
    uses_of_start : (d : Edge) → Numbered d → uses (key (d.0, middle n ks d)) (each half es) ≡ uses (key d) es
    uses_of_start d o =
        let m : n ≤ middle n ks d = middle_above n ks d in
        let l : d.0 < n = o.start_below in
        rw (key_up d.0 (middle n ks d) (omega arith))
        (count_each half (λ x. same (d.0, middle n ks d) (key x)) (λ x. same (key d) (key x))
        (all_map (λ e q. uses_half d e o q d.0 (inl refl)) a))

    uses_of_end : (d : Edge) → Numbered d → uses (key (middle n ks d, d.1)) (each half es) ≡ uses (key d) es
    uses_of_end d o =
        let m : n ≤ middle n ks d = middle_above n ks d in
        let l : d.1 < n = o.end_below in
        rw (key_down (middle n ks d) d.1 (omega arith))
        (count_each half (λ x. same (d.1, middle n ks d) (key x)) (λ x. same (key d) (key x))
        (all_map (λ e q. uses_half d e o q d.1 (inr refl)) a))

    runs_of_start : (d : Edge) → Numbered d → runs (d.0, middle n ks d) (each half es) ≡ runs d es
    runs_of_start d o = count_each half (same (d.0, middle n ks d)) (same d) (all_map (λ e q. runs_start d e o q) a)

    runs_of_end : (d : Edge) → Numbered d → runs (middle n ks d, d.1) (each half es) ≡ runs d es
    runs_of_end d o = count_each half (same (middle n ks d, d.1)) (same d) (all_map (λ e q. runs_end d e o q) a)

    -- a test of such a count
    tested :
        (t : ℕ → Bool) (f : Edge → List Edge → ℕ)
        → ((d : Edge) → Numbered d → f (d.0, middle n ks d) (each half es) ≡ f d es)
        → ((d : Edge) → Numbered d → f (middle n ks d, d.1) (each half es) ≡ f d es)
        → some (λ h. t (f h (each half es))) (each half es) ≡ some (λ e. t (f e es)) es
    tested t f s e =
        some_each half (λ h. t (f h (each half es))) es
        ∙ some_all
        (λ x. t (f (x.0, middle n ks x) (each half es)) || (t (f (middle n ks x, x.1) (each half es)) || false))
        (λ x. t (f x es))
        (all_map (λ x o. rw (s x o, e x o) (twice (t (f x es)))) a)
      where
        twice : (b : Bool) → (b || (b || false)) ≡ b
        twice true = refl
        twice false = refl

    pub verdict_halves : verdict (each half es) ≡ verdict es
    unfolding verdict
    verdict_halves =
        rw (
          tested (λ c. leb 3 c) (λ e l. uses (key e) l) uses_of_start uses_of_end,
          tested (λ c. leb 2 c) (λ e l. runs e l) runs_of_start runs_of_end,
          tested (λ c. eqb 1 c) (λ e l. uses (key e) l) uses_of_start uses_of_end,
        )
