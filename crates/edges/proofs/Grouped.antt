-- The uses, sorted by higher and then by lower position, are the uses of each edge, edge by edge in ascending order: first for every
-- pair of positions below n, then for the edges alone, since the others have no use. Assumes nothing.
use mathlib.Core.Path.{◌≡◌, refl, sym, ap, ap₂, ◌∙◌, subst, fun_ext}
use mathlib.Core.Bool.{Bool, true, false, ◌&&◌}
use mathlib.Core.List.{List, [], ◌∷◌, ◌++◌, map}
use mathlib.Core.Logic.{inl, inr}
use Prim.Native.Nat.{ℕ, zero, suc, ◌+◌, ◌≤◌, ◌<◌}
use native.Mathlib.Omega.{arith}
use lib.ListN.{length, get_or, length-map}
use lib.Dec.{ltb, eqb}
use borrow.Author.Tests.{ltb-true, eqb-true, eqb-false}
use Rattle.lists.specs.Lists.{only, some, every, each, span}
use Rattle.lists.proofs.Bools.{by_cases, and_left, and_right, or_left, or_right}
use Rattle.lists.proofs.Buckets.{only_cong, only_only, only_none, each_cong, length_only}
use Rattle.lists.proofs.Alike.{some_map}
use Rattle.lists.proofs.Others.{eqb_flip}
use Rattle.lists.proofs.Mapping.{only_map, each_map, each_each, map_span, some_find}
use Rattle.lists.proofs.Parts.{some_append}
use Rattle.sorting.specs.Digits.{digit, passed}
use Rattle.sorting.proofs.Digits.{passed_buckets}
use Rattle.uses.specs.Uses.{key_at}
use Rattle.mesh.proofs.Edges.{key_below}
use Rattle.uses.proofs.Sides.{inside}
use Rattle.uses.proofs.Reading.{use_at, lowers, highers, key_at_lem}
use Rattle.verdicts.specs.Edges.{Edge, same, key, keys, uses}
use Rattle.verdicts.proofs.SameEdge.{same_true, same_refl}
use Rattle.verdicts.proofs.Ascending.{Above, Asc, keys_asc, keys_member}
use Rattle.verdicts.proofs.EachEdge.{above_append, within, each_part}

-- ---- all pairs of positions

row : ℕ → ℕ → ℕ → List Edge
row l a n = map (λ h. (l, h)) (span a n)

square : ℕ → ℕ → ℕ → List Edge
square N a n = each (λ l. row l 0 N) (span a n)

above_row : (x : Edge) (l a n : ℕ) → x.0 < l → Above x (row l a n)
unfolding row
above_row x l a zero h = tt
above_row x l a (suc n) h = (inl h, above_row x l (suc a) n h)

above_square : (x : Edge) (N a n : ℕ) → x.0 < a → Above x (square N a n)
unfolding square
above_square x N a zero h = tt
above_square x N a (suc n) h = above_append x (row a 0 N) (square N (suc a) n) (above_row x a 0 N h) (above_square x N (suc a) n (omega arith))

behind_row : (l b a n : ℕ) → b < a → Above (l, b) (row l a n)
unfolding row
behind_row l b a zero h = tt
behind_row l b a (suc n) h = (inr (refl, h), behind_row l b (suc a) n (omega arith))

asc_row : (l a n : ℕ) (r : List Edge) → ((b : ℕ) → Above (l, b) r) → Asc r → Asc (row l a n ++ r)
unfolding row
asc_row l a zero r h s = s
asc_row l a (suc n) r h s = (above_append (l, a) (row l (suc a) n) r (behind_row l a (suc a) n (omega arith)) (h a), asc_row l (suc a) n r h s)

asc_square : (N a n : ℕ) → Asc (square N a n)
unfolding square
asc_square N a zero = tt
asc_square N a (suc n) = asc_row a 0 N (square N (suc a) n) (λ b. above_square (a, b) N (suc a) n (omega arith)) (asc_square N (suc a) n)

in_row : (l h a n : ℕ) → a ≤ h → h < a + n → within (l, h) (row l a n) ≡ true
unfolding row
in_row l h a zero p q = absurd (let r : h < a + zero = q in omega arith)
in_row l h a (suc n) p q =
    by_cases (eqb h a)
    (λ e. or_left (same (l, h) (l, a)) (within (l, h) (row l (suc a) n)) (rw (eqb-true h a e) (same_refl (l, a))))
    (λ e.
    or_right (same (l, h) (l, a)) (within (l, h) (row l (suc a) n))
    (in_row l h (suc a) n (let ne : h ≡ a → ⊥ = eqb-false h a e in omega arith) (let r : h < a + suc n = q in omega arith)))

in_square : (x : Edge) (N a n : ℕ) → a ≤ x.0 → x.0 < a + n → x.1 < N → within x (square N a n) ≡ true
unfolding square
in_square x N a zero p q r = absurd (let s : x.0 < a + zero = q in omega arith)
in_square x N a (suc n) p q r =
    some_append (same x) (row a 0 N) (square N (suc a) n)
    ∙ by_cases (eqb x.0 a)
    (λ e.
    or_left (within x (row a 0 N)) (within x (square N (suc a) n))
    (subst (λ (l : ℕ). within x (row l 0 N) ≡ true) (eqb-true x.0 a e) (in_row x.0 x.1 0 N (omega arith) (omega arith))))
    (λ e.
    or_right (within x (row a 0 N)) (within x (square N (suc a) n))
    (in_square x N (suc a) n (let ne : x.0 ≡ a → ⊥ = eqb-false x.0 a e in omega arith) (let s : x.0 < a + suc n = q in omega arith) r))

-- ---- the uses of each edge

module _ (es : List Edge) where
  -- the uses of the edge k, in order
  abbrev pub group_at : Edge → List ℕ
  group_at k = only (λ u. same k (key_at (lowers es) (highers es) u)) (span 0 (length es))

  -- they are those uses of the list
  pub group_uses : (k : Edge) → map (use_at es) (group_at k) ≡ only (λ e. same k (key e)) es
  group_uses k =
      ap (map (use_at es)) (only_cong (λ u. same k (key_at (lowers es) (highers es) u)) (λ u. same k (key (use_at es u))) (λ u. ap (same k) (key_at_lem es u)) (span 0 (length es)))
      ∙ sym (only_map (use_at es) (λ e. same k (key e)) (span 0 (length es)))
      ∙ ap (only (λ e. same k (key e))) (map_span (0, 0) es)

  pub group_length : (k : Edge) → length (group_at k) ≡ uses k es
  group_length k = sym (length-map (group_at k) (use_at es)) ∙ ap length (group_uses k) ∙ length_only (λ e. same k (key e)) es

  group_none : (k : Edge) → within k (keys es) ≡ false → group_at k ≡ []
  group_none k h =
      only_none (λ u. same k (key_at (lowers es) (highers es) u)) (span 0 (length es))
      (ap (λ (p : ℕ → Bool). some p (span 0 (length es))) (fun_ext (λ u. ap (same k) (key_at_lem es u)))
      ∙ sym (some_map (λ e. same k (key e)) (use_at es) (span 0 (length es)))
      ∙ ap (some (λ e. same k (key e))) (map_span (0, 0) es)
      ∙ sym (keys_member k es)
      ∙ h)

  module _ (N : ℕ) (low : every (inside N) es ≡ true) where
    keys_in : (x : Edge) → within x (keys es) ≡ true → within x (square N 0 N) ≡ true
    keys_in x h =
        let r : (e : Edge) × (same x (key e) ≡ true) × (inside N e ≡ true) = some_find (λ e. same x (key e)) (inside N) es (sym (keys_member x es) ∙ h) low in
        let e : Edge = r.0 in
        let q : x ≡ key e = same_true x (key e) r.1 in
        let b : ((key e).0 < N) × ((key e).1 < N) =
        key_below N e (ltb-true e.0 N (and_left (ltb e.0 N) (ltb e.1 N) r.2)) (ltb-true e.1 N (and_right (ltb e.0 N) (ltb e.1 N) r.2)) in
        let c : x.0 < 0 + N = subst (λ (y : Edge). y.0 < 0 + N) (sym q) (omega arith) in
        let d : x.1 < N = subst (λ (y : Edge). y.1 < N) (sym q) b.1 in
        in_square x N 0 N (omega arith) c d

    -- edge by edge
    grouped : each group_at (square N 0 N) ≡ each group_at (keys es)
    grouped = each_part group_at (square N 0 N) (keys es) (asc_square N 0 N) (keys_asc es) keys_in (λ x _ h. group_none x h)

    -- sorted by higher position, then by lower: edge by edge
    pub sorted_uses : passed (digit N (lowers es) ∷ digit N (highers es) ∷ []) (span 0 (length es)) ≡ each group_at (keys es)
    unfolding square row
    sorted_uses =
        passed_buckets (digit N (lowers es) ∷ digit N (highers es) ∷ []) (span 0 (length es))
        ∙ each_cong _ (λ l. each group_at (row l 0 N))
        (λ l.
        each_cong _ (λ h. group_at (l, h))
        (λ h.
        only_only (λ u. eqb (get_or (highers es) u 0) h) (λ u. eqb (get_or (lowers es) u 0) l) (span 0 (length es))
        ∙ only_cong _ (λ u. same (l, h) (key_at (lowers es) (highers es) u)) (key_both l h) (span 0 (length es)))
        (span 0 N)
        ∙ sym (each_map group_at (λ h. (l, h)) (span 0 N)))
        (span 0 N)
        ∙ sym (each_each group_at (λ l. row l 0 N) (span 0 N))
        ∙ grouped
      where
        key_both : (l h u : ℕ) → (eqb (get_or (lowers es) u 0) l && eqb (get_or (highers es) u 0) h) ≡ same (l, h) (key_at (lowers es) (highers es) u)
        key_both l h u = ap₂ ◌&&◌ (eqb_flip (get_or (lowers es) u 0) l) (eqb_flip (get_or (highers es) u 0) h)
