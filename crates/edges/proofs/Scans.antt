-- The scans over the sorted uses. The uses are groups, one for each edge in ascending order; so where a group ends the next use is
-- one of another edge, and the scan sees the edges one by one. Assumes nothing.
use mathlib.Core.Path.{◌≡◌, refl, sym, ap, ap₂, ◌∙◌, subst}
use mathlib.Core.Bool.{Bool, true, false, cond, not, ◌||◌, or_assoc, or-false}
use mathlib.Core.List.{List, [], ◌∷◌, ◌++◌}
use Prim.Native.Nat.{ℕ, suc, ◌+◌}
use native.Mathlib.Nat.{add-zero, zero-add}
use native.Mathlib.Omega.{arith}
use lib.ListN.{length, get_or}
use lib.Dec.{leb, eqb}
use Rattle.lists.specs.Lists.{keep_if, only, some, each, last_of, bump, count}
use Rattle.lists.proofs.Bools.{by_cases}
use Rattle.uses.specs.Uses.{key_at, goes_on}
use Rattle.verdicts.specs.Edges.{Edge, same, odd}
use Rattle.scans.specs.Runs.{hems_at, odd_after, last_odd, tally_of, counted, closed, stepped, tallied}
use Rattle.scans.specs.declared.Tally.{Tally}
use Rattle.verdicts.proofs.SameEdge.{same_true, same_refl, Before, before_asym}
use Rattle.verdicts.proofs.Ascending.{Above, Asc}

-- ---- groups

module _ (lowers highers : List ℕ) where
  -- each of these is a use of the edge k
  abbrev pub Keyed : Edge → List ℕ → Type 0
  Keyed k [] = Unit {0}
  Keyed k (u ∷ g) = (key_at lowers highers u ≡ k) × Keyed k g

  keyed_keep : (k : Edge) (u : ℕ) (g : List ℕ) (b : Bool) → same k (key_at lowers highers u) ≡ b → Keyed k g → Keyed k (keep_if b u g)
  keyed_keep k u g true e h = (sym (same_true k (key_at lowers highers u) e), h)
  keyed_keep k u g false e h = h

  pub keyed_only : (k : Edge) (l : List ℕ) → Keyed k (only (λ u. same k (key_at lowers highers u)) l)
  keyed_only k [] = tt
  keyed_only k (u ∷ l) =
      keyed_keep k u (only (λ v. same k (key_at lowers highers v)) l) (same k (key_at lowers highers u)) refl (keyed_only k l)

  -- these do not begin with a use of k
  abbrev Fresh : Edge → List ℕ → Type 0
  Fresh k [] = Unit {0}
  Fresh k (v ∷ t) = key_at lowers highers v ≡ k → ⊥

  run_ends : (k : Edge) (u : ℕ) (t : List ℕ) → key_at lowers highers u ≡ k → Fresh k t → goes_on lowers highers u t ≡ false
  unfolding goes_on
  run_ends k u [] e h = refl
  run_ends k u (v ∷ t) e h =
      by_cases (same (key_at lowers highers u) (key_at lowers highers v))
      (λ p. absurd (h (sym (same_true (key_at lowers highers u) (key_at lowers highers v) p) ∙ e)))
      (λ p. p)

  run_goes_on : (k : Edge) (u v : ℕ) (t : List ℕ) → key_at lowers highers u ≡ k → key_at lowers highers v ≡ k → goes_on lowers highers u (v ∷ t) ≡ true
  unfolding goes_on
  run_goes_on k u v t p q = ap₂ same p q ∙ same_refl k

  module _ (g : Edge → List ℕ) (keyed : (k : Edge) → Keyed k (g k)) where
    fresh_behind : (k j : Edge) (l r : List ℕ) → Before k j → Keyed j l → Fresh k r → Fresh k (l ++ r)
    fresh_behind k j [] r h ks f = f
    fresh_behind k j (u ∷ l) r h ks f = λ e. let w : Before k k = subst (Before k) (sym ks.0 ∙ e) h in before_asym k k w w

    -- the groups of what stands behind k do not begin with a use of k
    pub fresh : (k : Edge) (ks : List Edge) → Above k ks → Fresh k (each g ks)
    fresh k [] a = tt
    fresh k (j ∷ ks) a = fresh_behind k j (g j) (each g ks) a.0 (keyed j) (fresh k ks a.1)

-- ---- the last uses of odd edges

-- the parity of the number of uses, n of which are passed
parity : Bool → List ℕ → Bool
parity o [] = o
parity o (u ∷ g) = parity (not o) g

parity_odd : (n : ℕ) (g : List ℕ) → parity (odd n) g ≡ odd (n + length g)
unfolding parity
parity_odd n [] = rw add-zero
parity_odd n (u ∷ g) = let e : suc n + length g ≡ n + length (u ∷ g) = omega arith in parity_odd (suc n) g ∙ ap odd e

keep_one : (b : Bool) (u : ℕ) → keep_if b u [] ≡ cond b (u ∷ []) []
keep_one true u = refl
keep_one false u = refl

-- of a group with an odd number of uses its last
abbrev pub odd_last : List ℕ → List ℕ
odd_last g = cond (odd (length g)) (last_of g) []

module _ (lowers highers : List ℕ) where
  odd_run :
      (k : Edge) (t : List ℕ) → Fresh lowers highers k t → (o : Bool) (u : ℕ) (g : List ℕ) → key_at lowers highers u ≡ k → Keyed lowers highers k g
      → last_odd lowers highers o (u ∷ (g ++ t)) ≡ cond (parity o (u ∷ g)) (last_of (u ∷ g)) [] ++ last_odd lowers highers false t
  unfolding last_odd hems_at odd_after parity
  odd_run k t f o u [] e h =
      ap (λ (b : Bool). cond b [] (keep_if (not o) u []) ++ last_odd lowers highers (cond b (not o) false) t) (run_ends lowers highers k u t e f)
      ∙ ap (λ (l : List ℕ). l ++ last_odd lowers highers false t) (keep_one (not o) u)
  odd_run k t f o u (v ∷ g) e h =
      ap (λ (b : Bool). cond b [] (keep_if (not o) u []) ++ last_odd lowers highers (cond b (not o) false) (v ∷ (g ++ t))) (run_goes_on lowers highers k u v (g ++ t) e h.0)
      ∙ odd_run k t f (not o) v g h.0 h.1

  odd_group :
      (k : Edge) (t : List ℕ) → Fresh lowers highers k t → (g : List ℕ) → Keyed lowers highers k g
      → last_odd lowers highers false (g ++ t) ≡ odd_last g ++ last_odd lowers highers false t
  odd_group k t f [] h = refl
  odd_group k t f (u ∷ g) h =
      let e : parity false (u ∷ g) ≡ odd (length (u ∷ g)) = parity_odd 0 (u ∷ g) ∙ ap odd (zero-add (length (u ∷ g))) in
      odd_run k t f false u g h.0 h.1 ∙ ap (λ (b : Bool). cond b (last_of (u ∷ g)) [] ++ last_odd lowers highers false t) e

  odd_none : last_odd lowers highers false [] ≡ []
  unfolding last_odd
  odd_none = refl

  -- edge by edge
  pub odd_each :
      (g : Edge → List ℕ) → ((k : Edge) → Keyed lowers highers k (g k)) → (ks : List Edge) → Asc ks
      → last_odd lowers highers false (each g ks) ≡ each (λ k. odd_last (g k)) ks
  odd_each g keyed [] a = odd_none
  odd_each g keyed (k ∷ ks) a =
      odd_group k (each g ks) (fresh lowers highers g keyed k ks a.0) (g k) (keyed k)
      ∙ ap (λ (t : List ℕ). odd_last (g k) ++ t) (odd_each g keyed ks a.1)

-- ---- what is seen of the edges

module _ (downs : List ℕ) where
  -- whether use u runs down, or up
  abbrev pub down : ℕ → Bool
  down u = eqb (get_or downs u 0) 1

  abbrev pub up : ℕ → Bool
  up u = not (down u)

  all_counted : Tally → List ℕ → Tally
  all_counted t [] = t
  all_counted t (u ∷ g) = all_counted (counted (get_or downs u 0) t) g

  -- as many more as there are
  counts : (g : List ℕ) (m n : ℕ) (a b c : Bool) → all_counted (tally_of m n a b c) g ≡ tally_of (m + count up g) (n + count down g) a b c
  unfolding all_counted counted
  counts [] m n a b c = ap₂ (λ (x y : ℕ). tally_of x y a b c) (sym (add-zero m)) (sym (add-zero n))
  counts (u ∷ g) m n a b c = go (down u) (counts g m (n + 1) a b c) (counts g (m + 1) n a b c)
    where
      go :
          (t : Bool) → all_counted (tally_of m (n + 1) a b c) g ≡ tally_of (m + count up g) (n + 1 + count down g) a b c
          → all_counted (tally_of (m + 1) n a b c) g ≡ tally_of (m + 1 + count up g) (n + count down g) a b c
          → all_counted (cond t (tally_of m (n + 1) a b c) (tally_of (m + 1) n a b c)) g
          ≡ tally_of (m + bump (not t) (count up g)) (n + bump t (count down g)) a b c
      go true p q = let e : n + 1 + count down g ≡ n + suc (count down g) = omega arith in p ∙ ap (λ (x : ℕ). tally_of (m + count up g) x a b c) e
      go false p q = let e : m + 1 + count up g ≡ m + suc (count up g) = omega arith in q ∙ ap (λ (x : ℕ). tally_of x (n + count down g) a b c) e

  -- a use runs up or down
  pub halves : (g : List ℕ) → count up g + count down g ≡ length g
  halves [] = refl
  halves (u ∷ g) = go (down u) (halves g)
    where
      go : (t : Bool) → count up g + count down g ≡ length g → bump (not t) (count up g) + bump t (count down g) ≡ suc (length g)
      go true h = omega arith
      go false h = omega arith

  -- twice in the same direction
  abbrev pub two_alike : List ℕ → Bool
  two_alike g = leb 2 (count up g) || leb 2 (count down g)

  -- a group closed, after which a, b, c are seen besides
  group_closed :
      (g : List ℕ) (a b c : Bool)
      → closed (all_counted (tally_of 0 0 a b c) g) ≡ tally_of 0 0 (a || leb 3 (length g)) (b || two_alike g) (c || eqb 1 (length g))
  unfolding closed
  group_closed g a b c =
      ap closed (counts g 0 0 a b c)
      ∙ ap (λ (n : ℕ). tally_of 0 0 (a || leb 3 n) (b || (leb 2 (0 + count up g) || leb 2 (0 + count down g))) (c || eqb 1 n))
      (let h : count up g + count down g ≡ length g = halves g in let e : 0 + count up g + (0 + count down g) ≡ length g = omega arith in e)
      ∙ ap₂ (λ (x y : ℕ). tally_of 0 0 (a || leb 3 (length g)) (b || (leb 2 x || leb 2 y)) (c || eqb 1 (length g))) (zero-add (count up g)) (zero-add (count down g))

module _ (lowers highers downs : List ℕ) where
  tally_run :
      (k : Edge) (r : List ℕ) → Fresh lowers highers k r → (t : Tally) (u : ℕ) (g : List ℕ) → key_at lowers highers u ≡ k → Keyed lowers highers k g
      → tallied lowers highers downs t (u ∷ (g ++ r)) ≡ tallied lowers highers downs (closed (all_counted downs t (u ∷ g))) r
  unfolding tallied all_counted stepped
  tally_run k r f t u [] e h =
      let c : Tally = counted (get_or downs u 0) t in
      ap (λ (b : Bool). tallied lowers highers downs (cond b c (closed c)) r) (run_ends lowers highers k u r e f)
  tally_run k r f t u (v ∷ g) e h =
      let c : Tally = counted (get_or downs u 0) t in
      ap (λ (b : Bool). tallied lowers highers downs (cond b c (closed c)) (v ∷ (g ++ r))) (run_goes_on lowers highers k u v (g ++ r) e h.0)
      ∙ tally_run k r f c v g h.0 h.1

  tally_group :
      (k : Edge) (r : List ℕ) → Fresh lowers highers k r → (g : List ℕ) → Keyed lowers highers k g → (a b c : Bool)
      → tallied lowers highers downs (tally_of 0 0 a b c) (g ++ r)
      ≡ tallied lowers highers downs (tally_of 0 0 (a || leb 3 (length g)) (b || two_alike downs g) (c || eqb 1 (length g))) r
  tally_group k r f [] h a b c =
      λ i. tallied lowers highers downs (tally_of 0 0 (sym (or-false a) i) (sym (or-false b) i) (sym (or-false c) i)) r
  tally_group k r f (u ∷ g) h a b c =
      tally_run k r f (tally_of 0 0 a b c) u g h.0 h.1
      ∙ ap (λ (t : Tally). tallied lowers highers downs t r) (group_closed downs (u ∷ g) a b c)

  tally_none : (t : Tally) → tallied lowers highers downs t [] ≡ t
  unfolding tallied
  tally_none t = refl

  module _ (g : Edge → List ℕ) (keyed : (k : Edge) → Keyed lowers highers k (g k)) where
    -- edge by edge
    pub tally_each :
        (ks : List Edge) → Asc ks → (a b c : Bool)
        → tallied lowers highers downs (tally_of 0 0 a b c) (each g ks)
        ≡ tally_of 0 0 (a || some (λ k. leb 3 (length (g k))) ks) (b || some (λ k. two_alike downs (g k)) ks) (c || some (λ k. eqb 1 (length (g k))) ks)
    tally_each [] asc a b c =
        tally_none (tally_of 0 0 a b c) ∙ (λ i. tally_of 0 0 (sym (or-false a) i) (sym (or-false b) i) (sym (or-false c) i))
    tally_each (k ∷ ks) asc a b c =
        tally_group k (each g ks) (fresh lowers highers g keyed k ks asc.0) (g k) (keyed k) a b c
        ∙ tally_each ks asc.1 (a || leb 3 (length (g k))) (b || two_alike downs (g k)) (c || eqb 1 (length (g k)))
        ∙ (λ i.
        tally_of 0 0
        (or_assoc a (leb 3 (length (g k))) (some (λ j. leb 3 (length (g j))) ks) i)
        (or_assoc b (two_alike downs (g k)) (some (λ j. two_alike downs (g j)) ks) i)
        (or_assoc c (eqb 1 (length (g k))) (some (λ j. eqb 1 (length (g j))) ks) i))
