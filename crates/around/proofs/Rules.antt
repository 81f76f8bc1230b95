-- What is gathered from the rows of the edges is what the rules of smoothing say. Assumes nothing.
use Rattle.std.proofs.Common.{◌≡◌, refl, sym, ap, ap₂, ◌∙◌, subst, Bool, true, false, cond, ◌||◌, List, [], ◌∷◌, map, ℕ, zero, suc, ◌≤◌, ◌<◌, not-suc-le-zero, le_of_suc-le-suc, arith, eqb}
use Rattle.std.proofs.Common.{length, get_or, eqb-true}
use mathlib.Core.Path.{fun_ext}
use lib.ListN.{length-map}
use Rattle.lists.specs.Lists.{keep_if, only, span}
use Rattle.lists.proofs.Buckets.{table_ext, each_span_cong}
use Rattle.lists.proofs.Changing.{map_at}
use Rattle.lists.proofs.Mapping.{only_map, each_only}
use Rattle.mesh.specs.Limits.{corner_limit, entry_limit}
use Rattle.mesh.specs.Mesh.{Ring, missing}
use Rattle.verdicts.specs.Edges.{Edge, key}
use Rattle.smoothed.specs.Smoothed.{edges_by_use, Smoothable}
use Rattle.smoothed.specs.Around.{wings, single, ends, across, neighbours, along_hem}
use Rattle.smoothed.specs.Columns.{edge_lowers, edge_highers, edge_wings, degrees, hem_neighbours}
use Rattle.smoothed.proofs.All.{All, none, more}
use Rattle.smoothed.proofs.Verdicts.{key_flip}
use Rattle.smoothed.proofs.Inside.{edges_below, edges_apart, edges_keys}
use Rattle.around.specs.Rows.{edge_at, edges_to, hems_to, edges_in, hems_in, neighbours_in, degrees_in, chosen_in, EdgeRows, HemRows, HemsAre}

-- ---- a list of edges as rows

abbrev lower : Edge → ℕ
lower k = k.0

abbrev higher : Edge → ℕ
higher k = k.1

module _ (es : List Edge) where
  row_at : (i : ℕ) → i < length es → edge_at (map lower es) (map higher es) i ≡ get_or es i (0, 0)
  row_at i h = ap₂ (λ (x y : ℕ). (x, y)) (map_at lower (0, 0) 0 es i h) (map_at higher (0, 0) 0 es i h)

  rows_back : edges_in (map lower es) (map higher es) ≡ es
  unfolding edges_to
  rows_back =
      ap (λ (m : ℕ). map (edge_at (map lower es) (map higher es)) (span 0 m)) (length-map es lower)
      ∙ sym (table_ext (edge_at (map lower es) (map higher es)) (length es) (0, 0) es refl (λ i h. sym (row_at i h)))

  -- with a row of numbers beside them
  hems_back : (f : Edge → ℕ) → hems_in (map lower es) (map higher es) (map f es) ≡ only (λ k. eqb 1 (f k)) es
  unfolding hems_to edges_to
  hems_back f =
      let g : ℕ → Edge = edge_at (map lower es) (map higher es) in
      let m : ℕ = length (map lower es) in
      let n : m ≡ length es = length-map es lower in
      let p : ℕ → Bool = λ i. eqb 1 (get_or (map f es) i 0) in
      let q : ℕ → Bool = λ i. eqb 1 (f (g i)) in
      sym (each_only g p (span 0 m))
      ∙ each_span_cong (λ i. keep_if (p i) (g i) []) (λ i. keep_if (q i) (g i) []) 0 m
      (λ i o u.
      let h : i < length es = omega arith in
      ap (λ (x : ℕ). keep_if (eqb 1 x) (g i) []) (map_at f (0, 0) 0 es i h ∙ ap f (sym (row_at i h))))
      ∙ each_only g q (span 0 m)
      ∙ sym (only_map g (λ k. eqb 1 (f k)) (span 0 m))
      ∙ ap (only (λ k. eqb 1 (f k))) rows_back

-- ---- the neighbours along some of the edges

-- an edge that ends at v is the edge of v and its other end
back_key : (v : ℕ) (k : Edge) → key k ≡ k → ends v k ≡ true → key (v, across v k) ≡ k
back_key v k e h = go (eqb v k.0) refl h
  where
    go : (b : Bool) → eqb v k.0 ≡ b → (b || eqb v k.1) ≡ true → key (v, cond b k.1 k.0) ≡ k
    go true l r = ap (λ (u : ℕ). key (u, k.1)) (eqb-true v k.0 l) ∙ e
    go false l r = ap (λ (u : ℕ). key (u, k.0)) (eqb-true v k.1 r) ∙ key_flip k ∙ e

-- the other ends of the edges that pass are the neighbours to whom the edge passes
along :
    (p : Edge → Bool) (v : ℕ) {es : List Edge} → All (λ k. key k ≡ k) es
    → map (across v) (only (ends v) (only p es)) ≡ only (λ w. p (key (v, w))) (map (across v) (only (ends v) es))
along p v none = refl
along p v (more {x = k} {l = es} e r) = go (ends v k) refl (p k) refl (along p v r)
  where
    rest : List ℕ
    rest = only (λ w. p (key (v, w))) (map (across v) (only (ends v) es))

    go :
        (b : Bool) → ends v k ≡ b → (c : Bool) → p k ≡ c → map (across v) (only (ends v) (only p es)) ≡ rest
        → map (across v) (only (ends v) (keep_if c k (only p es))) ≡ only (λ w. p (key (v, w))) (map (across v) (keep_if b k (only (ends v) es)))
    go true t true s h = rw (t, ap p (back_key v k e t) ∙ s) (ap (λ (l : List ℕ). across v k ∷ l) h)
    go true t false s h = rw (ap p (back_key v k e t) ∙ s) h
    go false t true s h = rw t h
    go false t false s h = h

-- ---- the edges by first use

module _ (fs : List Ring) where
  pub edges_are : edges_in (edge_lowers fs) (edge_highers fs) ≡ edges_by_use fs
  unfolding edge_lowers edge_highers
  edges_are = rows_back (edges_by_use fs)

  hems_are : hems_in (edge_lowers fs) (edge_highers fs) (edge_wings fs) ≡ only (single fs) (edges_by_use fs)
  unfolding edge_lowers edge_highers edge_wings
  hems_are = hems_back (edges_by_use fs) (λ k. length (wings fs k))

  hem_along : (v : ℕ) → neighbours_in (only (single fs) (edges_by_use fs)) v ≡ along_hem fs v
  unfolding neighbours_in along_hem neighbours
  hem_along v = along (single fs) v (edges_keys fs)

  -- how many neighbours
  pub degrees_are : (n : ℕ) → degrees_in (edges_in (edge_lowers fs) (edge_highers fs)) n ≡ degrees fs n
  unfolding degrees_in degrees neighbours_in neighbours
  degrees_are n = ap (λ es. degrees_in es n) edges_are

  -- the first and the second along a hem
  pub chosen_are : (i n : ℕ) → chosen_in i (hems_in (edge_lowers fs) (edge_highers fs) (edge_wings fs)) n ≡ hem_neighbours i fs n
  unfolding chosen_in hem_neighbours
  chosen_are i n =
      ap (λ es. chosen_in i es n) hems_are
      ∙ ap (λ (f : ℕ → List ℕ). map (λ v. get_or (f v) i missing) (span 0 n)) (fun_ext hem_along)

-- ---- what the passes ask of the rows

rows_at : {P : Edge → Type 0} {es : List Edge} → All P es → (i : ℕ) → i < length es → P (get_or es i (0, 0))
rows_at none i h = absurd (not-suc-le-zero h)
rows_at (more p r) zero h = p
rows_at (more p r) (suc i) h = rows_at r i (le_of_suc-le-suc h)

-- rows that are those of the edges by first use
module _ (n : ℕ) (fs : List Ring) {ls hs : List ℕ} (low : ls ≡ edge_lowers fs) (high : hs ≡ edge_highers fs) where
  edge_at_lem : (e : ℕ) → e < length (edges_by_use fs) → edge_at ls hs e ≡ get_or (edges_by_use fs) e (0, 0)
  unfolding edge_lowers edge_highers
  edge_at_lem e h = ap₂ (λ (l k : List ℕ). edge_at l k e) low high ∙ row_at (edges_by_use fs) e h

  lowers_long : length ls ≡ length (edges_by_use fs)
  unfolding edge_lowers
  lowers_long = ap length low ∙ length-map (edges_by_use fs) lower

  highers_long : length hs ≡ length (edges_by_use fs)
  unfolding edge_highers
  highers_long = ap length high ∙ length-map (edges_by_use fs) higher

  module _ (s : Smoothable n fs) (few : length (edges_by_use fs) ≤ corner_limit) where
    pub edge_rows : EdgeRows n ls hs
    edge_rows = record {
      long = highers_long ∙ sym lowers_long;
      few = omega (arith, lowers_long);
      ordered = λ e h.
          let u : e < length (edges_by_use fs) = omega (arith, lowers_long) in
          subst (λ (k : Edge). k.0 < k.1) (sym (edge_at_lem e u)) (rows_at (edges_apart n fs s) e u);
      below = λ e h.
          let u : e < length (edges_by_use fs) = omega (arith, lowers_long) in
          subst (λ (k : Edge). k.1 < n) (sym (edge_at_lem e u)) (rows_at (edges_below n fs s) e u).1;
    }

    pub degree_rows : (l : List ℕ) → length l ≡ n → EdgeRows (length l) ls hs
    degree_rows l e = subst (λ (m : ℕ). EdgeRows m ls hs) (sym e) edge_rows

    pub hem_rows :
        (ws first second : List ℕ) → ws ≡ edge_wings fs → n ≤ entry_limit → length first ≡ n → length second ≡ n → HemRows ls hs ws first second
    unfolding edge_wings
    hem_rows ws first second w most f g = record {
      edges = degree_rows first f;
      wings_long = ap length w ∙ length-map (edges_by_use fs) (λ k. length (wings fs k)) ∙ sym lowers_long;
      entries = omega arith;
      second_long = g ∙ sym f;
    }

  -- ---- what comes of them

  pub degrees_come : (l : List ℕ) (m : ℕ) → m ≡ n → l ≡ degrees_in (edges_in ls hs) m → l ≡ degrees fs n
  degrees_come l m e h =
      h ∙ ap (degrees_in (edges_in ls hs)) e ∙ ap₂ (λ (a b : List ℕ). degrees_in (edges_in a b) n) low high ∙ degrees_are fs n

  hem_comes : (i : ℕ) (ws l : List ℕ) (m : ℕ) → m ≡ n → ws ≡ edge_wings fs → l ≡ chosen_in i (hems_in ls hs ws) m → l ≡ hem_neighbours i fs n
  hem_comes i ws l m e w h =
      h
      ∙ ap (chosen_in i (hems_in ls hs ws)) e
      ∙ ap₂ (λ (a b : List ℕ). chosen_in i (hems_in a b ws) n) low high
      ∙ ap (λ (c : List ℕ). chosen_in i (hems_in (edge_lowers fs) (edge_highers fs) c) n) w
      ∙ chosen_are fs i n

  pub hems_come :
      (ws first second : List ℕ) (m : ℕ) → m ≡ n → ws ≡ edge_wings fs → HemsAre m (hems_in ls hs ws) first second
      → (first ≡ hem_neighbours 0 fs n) × (second ≡ hem_neighbours 1 fs n)
  hems_come ws first second m e w h = (hem_comes 0 ws first m e w h.first_is, hem_comes 1 ws second m e w h.second_is)
