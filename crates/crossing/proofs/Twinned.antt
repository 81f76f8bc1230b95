-- The twins that the scan leaves: a neighbour in the order that has the same edge, or the use itself where no other has it. Assumes nothing.
use mathlib.Core.Path.{◌≡◌, refl, sym, ap, ap₂, ◌∙◌, subst}
use mathlib.Core.Logic.{◌⊎◌, inl, inr}
use mathlib.Core.Bool.{Bool, true, false}
use mathlib.Core.List.{List}
use Prim.Native.Nat.{ℕ, zero, suc, ◌+◌, ◌-◌, ◌≤◌, ◌<◌}
use native.Mathlib.Numerals.{add-one}
use native.Mathlib.Omega.{arith}
use lib.Dec.{ltb, eqb}
use lib.ListN.{length, get_or, set, length-set, length-map}
use lib.Seq.{get_or-set_same, get_or-set_other}
use borrow.Author.Tests.{ltb-true, ltb-false, eqb-true, eqb-false}
use Rattle.lists.proofs.Bools.{by_cases}
use Rattle.lists.proofs.Counting.{clash}
use Rattle.mesh.specs.Mesh.{rings}
use Rattle.mesh.specs.Edges.{Edge, same, key, edges_of, Edged}
use Rattle.uses.specs.Uses.{lower_of, key_at, Gathered}
use Rattle.uses.proofs.Reading.{use_at, key_at_lem, next_there}
use Rattle.verdicts.proofs.SameEdge.{same_true, same_of}
use Rattle.crossing.specs.Crossing.{on_at, back_at, twin_at, twinned}
use Rattle.crossing.proofs.Twin.{back_above, on_inside, twin_back, twin_on, twin_own}
use Rattle.crossing.proofs.Ordered.{order_below, order_at, order_one, order_between}

-- ---- what is written at a use

module _ (l h order : List ℕ) where
  pub length_twinned : (n : ℕ) (t : List ℕ) → length (twinned l h order n t) ≡ length t
  unfolding twinned
  length_twinned zero t = refl
  length_twinned (suc n) t = length-set (twinned l h order n t) (get_or order n 0) (twin_at l h order n) ∙ length_twinned n t

  -- where every use stands at one place of the order
  module _ (t : List ℕ) (below : (j : ℕ) → j < length order → get_or order j 0 < length t)
      (one : (i j : ℕ) → i < length order → j < length order → get_or order i 0 ≡ get_or order j 0 → i ≡ j) where
    twinned_at : (n i : ℕ) → i < n → n ≤ length order → get_or (twinned l h order n t) (get_or order i 0) 0 ≡ twin_at l h order i
    unfolding twinned
    twinned_at zero i p q = absurd (omega arith)
    twinned_at (suc n) i p q = go (eqb i n) refl (twinned_at n i)
      where
        go :
            (b : Bool) → eqb i n ≡ b → (i < n → n ≤ length order → get_or (twinned l h order n t) (get_or order i 0) 0 ≡ twin_at l h order i)
            → get_or (set (twinned l h order n t) (get_or order n 0) (twin_at l h order n)) (get_or order i 0) 0 ≡ twin_at l h order i
        go true e ih =
            subst (λ (j : ℕ). get_or (set (twinned l h order n t) (get_or order n 0) (twin_at l h order n)) (get_or order j 0) 0 ≡ twin_at l h order j)
            (sym (eqb-true i n e))
            (get_or-set_same (twinned l h order n t) (get_or order n 0) (twin_at l h order n) 0
            (let b : _ = below n (omega arith) in let k : _ = length_twinned n t in omega arith))
        go false e ih =
            let ne : i ≡ n → ⊥ = eqb-false i n e in
            get_or-set_other (twinned l h order n t) (get_or order n 0) (get_or order i 0) (twin_at l h order n) 0
            (λ w. ne (one i n (omega arith) (omega arith) w))
            ∙ ih (omega arith) (omega arith)

-- ---- the uses of a mesh with n positions, sorted

module _ (cs s : List ℕ) (n : ℕ) (e : Edged cs s n) (l h d order : List ℕ) (g : Gathered n (edges_of (rings s cs)) l h d order) where
  abbrev es : List Edge
  es = edges_of (rings s cs)

  -- the use at place i of the order
  abbrev entry : ℕ → Edge
  entry i = use_at es (get_or order i 0)

  abbrev on : ℕ → Bool
  on = on_at l h order

  abbrev back : ℕ → Bool
  back = back_at l h order

  keys : (u : ℕ) → key_at l h u ≡ key (use_at es u)
  keys u = (λ i. key_at (g.columns.lower i) (g.columns.higher i) u) ∙ key_at_lem es u

  on_same : (i : ℕ) → i + 1 < length order → same (key (entry i)) (key (entry (i + 1))) ≡ on i
  unfolding on_at
  on_same i k =
      ap₂ same (sym (keys (get_or order i 0))) (sym (keys (get_or order (i + 1) 0)))
      ∙ next_there l h order i (get_or order i 0) (get_or order (i + 1) 0) k refl refl

  on_key : (i : ℕ) → on i ≡ true → key (entry i) ≡ key (entry (i + 1))
  on_key i q = same_true (key (entry i)) (key (entry (i + 1))) (on_same i (on_inside l h order i q) ∙ q)

  key_on : (i : ℕ) → i + 1 < length order → key (entry i) ≡ key (entry (i + 1)) → on i ≡ true
  key_on i k q = sym (on_same i k) ∙ same_of (key (entry i)) (key (entry (i + 1))) q

  -- the same of the use before
  back_key : (i : ℕ) → back i ≡ true → key (entry (i - 1)) ≡ key (entry i)
  unfolding back_at
  back_key zero q = absurd (let z : 0 < 0 = back_above l h order 0 q in omega arith)
  back_key (suc i) q =
      ap (λ (j : ℕ). key (entry j)) (let z : suc i - 1 ≡ i = omega arith in z) ∙ on_key i q ∙ ap (λ (j : ℕ). key (entry j)) (add-one i)

  key_back : (i : ℕ) → 0 < i → i < length order → key (entry (i - 1)) ≡ key (entry i) → back i ≡ true
  unfolding back_at
  key_back zero p k q = absurd (omega arith)
  key_back (suc i) p k q =
      key_on i (omega arith)
      (ap (λ (j : ℕ). key (entry j)) (let z : i ≡ suc i - 1 = omega arith in z) ∙ q ∙ ap (λ (j : ℕ). key (entry j)) (sym (add-one i)))

  -- ---- the twin of the use at place i of the order is one of the same edge

  twin_found : (i : ℕ) → i < length order → (twin_at l h order i < length es) × (key (entry i) ≡ key (use_at es (twin_at l h order i)))
  twin_found i k =
      by_cases (back i)
      (λ q.
      found (i - 1) (let z : 0 < i = back_above l h order i q in omega arith) (twin_back l h order i (get_or order (i - 1) 0) q refl) (sym (back_key i q)))
      (λ q.
      by_cases (on i)
      (λ r. found (i + 1) (on_inside l h order i r) (twin_on l h order i (get_or order (i + 1) 0) q r refl) (on_key i r))
      (λ r. found i k (twin_own l h order i (get_or order i 0) q r refl) refl))
    where
      found :
          (j : ℕ) → j < length order → get_or order j 0 ≡ twin_at l h order i → key (entry i) ≡ key (entry j)
          → (twin_at l h order i < length es) × (key (entry i) ≡ key (use_at es (twin_at l h order i)))
      found j m w q = (subst (λ (v : ℕ). v < length es) w (order_below cs s n e l h d order g j m), q ∙ ap (λ (v : ℕ). key (use_at es v)) w)

  -- not itself where a neighbour is one of the same edge
  twin_other : (i : ℕ) → i < length order → (back i ≡ true) ⊎ (on i ≡ true) → twin_at l h order i ≡ get_or order i 0 → ⊥
  twin_other i k b w = by_cases (back i) before (λ q. behind q b)
    where
      before : back i ≡ true → ⊥
      before q =
          let z : 0 < i = back_above l h order i q in
          let v : i - 1 ≡ i =
          order_one cs s n e l h d order g (i - 1) i (omega arith) k (twin_back l h order i (get_or order (i - 1) 0) q refl ∙ w) in
          omega arith

      behind : back i ≡ false → (back i ≡ true) ⊎ (on i ≡ true) → ⊥
      behind q (inl r) = clash r q
      behind q (inr r) =
          let v : i + 1 ≡ i =
          order_one cs s n e l h d order g (i + 1) i (on_inside l h order i r) k (twin_on l h order i (get_or order (i + 1) 0) q r refl ∙ w) in
          omega arith

  -- where two uses are of one edge, each has such a neighbour
  neighbour : (i j : ℕ) → i < length order → j < length order → (i ≡ j → ⊥) → key (entry i) ≡ key (entry j) → (back i ≡ true) ⊎ (on i ≡ true)
  neighbour i j p q ne w =
      by_cases (ltb i j)
      (λ t.
      let a : i < j = ltb-true i j t in
      inr (key_on i (omega arith) (w ∙ sym (order_between cs s n e l h d order g i (i + 1) j (omega arith) (omega arith) q w))))
      (λ t.
      let a : j ≤ i = ltb-false i j t in
      inl (key_back i (omega arith) p (order_between cs s n e l h d order g j (i - 1) i (omega arith) (omega arith) p (sym w))))

  -- ---- the row

  module _ (old : List ℕ) (room : length old ≡ length l) where
    abbrev twins : List ℕ
    twins = twinned l h order (length order) old

    columned : length l ≡ length es
    columned = ap length g.columns.lower ∙ length-map es lower_of

    pub twins_long : length twins ≡ length es
    twins_long = length_twinned l h order (length order) old ∙ room ∙ columned

    twins_at : (i : ℕ) → i < length order → get_or twins (get_or order i 0) 0 ≡ twin_at l h order i
    twins_at i k =
        twinned_at l h order old (λ j p. let b : _ = order_below cs s n e l h d order g j p in omega (arith, room, columned))
        (order_one cs s n e l h d order g) (length order) i k (omega arith)

    twin_is : (u : ℕ) → u < length es → (get_or twins u 0 < length es) × (key (use_at es u) ≡ key (use_at es (get_or twins u 0)))
    twin_is u k =
        let a : (i : ℕ) × (i < length order) × (get_or order i 0 ≡ u) = order_at cs s n e l h d order g u k in
        subst (λ (v : ℕ). (get_or twins v 0 < length es) × (key (use_at es v) ≡ key (use_at es (get_or twins v 0)))) a.2
        (subst (λ (v : ℕ). (v < length es) × (key (entry a.0) ≡ key (use_at es v))) (sym (twins_at a.0 a.1)) (twin_found a.0 a.1))

    pub twins_below : (u : ℕ) → u < length es → get_or twins u 0 < length es
    twins_below u k = (twin_is u k).0

    pub twins_key : (u : ℕ) → u < length es → key (use_at es u) ≡ key (use_at es (get_or twins u 0))
    twins_key u k = (twin_is u k).1

    pub twins_alone :
        (u v : ℕ) → u < length es → v < length es → (v ≡ u → ⊥) → key (use_at es u) ≡ key (use_at es v) → get_or twins u 0 ≡ u → ⊥
    twins_alone u v p q ne w t =
        let a : (i : ℕ) × (i < length order) × (get_or order i 0 ≡ u) = order_at cs s n e l h d order g u p in
        let b : (i : ℕ) × (i < length order) × (get_or order i 0 ≡ v) = order_at cs s n e l h d order g v q in
        let apart : a.0 ≡ b.0 → ⊥ = λ z. ne (sym b.2 ∙ ap (λ (i : ℕ). get_or order i 0) (sym z) ∙ a.2) in
        let k : key (entry a.0) ≡ key (entry b.0) =
        ap (λ (x : ℕ). key (use_at es x)) a.2 ∙ w ∙ ap (λ (x : ℕ). key (use_at es x)) (sym b.2) in
        twin_other a.0 a.1 (neighbour a.0 b.0 a.1 b.1 apart k)
        (sym (twins_at a.0 a.1) ∙ ap (λ (x : ℕ). get_or twins x 0) a.2 ∙ t ∙ sym a.2)
