-- Of the rows of a mesh, new positions stand where the rules say. Assumes nothing.
use Rattle.std.proofs.Common.{◌≡◌, ℕ, ◌<◌, ◌≤◌, Bool, true, false, cond, eqb, List, length, get_or, sym, refl, ap, ◌∙◌, ap₂, arith, Float}
use lib.ListN.{length-map}
use lib.Ieee.{binary64, sub}
use Rattle.lists.specs.Lists.{some, each, span}
use Rattle.lists.proofs.Buckets.{each_span_cong}
use Rattle.lists.proofs.Changing.{map_at}
use Rattle.lists.proofs.Mapping.{each_map, map_span}
use Rattle.lists.proofs.Parts.{some_true_at}
use Rattle.mesh.specs.Limits.{entry_limit}
use Rattle.mesh.specs.Mesh.{Ring, missing}
use Rattle.verdicts.specs.Edges.{Edge, same}
use Rattle.verdicts.proofs.SameEdge.{same_refl}
use Rattle.smoothed.specs.Smoothed.{edges_by_use, Smoothable}
use Rattle.smoothed.specs.Around.{Condition, Corner, Boundary, Inner, condition, neighbours, single, wings, first_wing, second_wing}
use Rattle.smoothed.specs.Positions.{axes, coordinate, cosine, spread, quartered, five_eighths, half, share, middle_of}
use Rattle.smoothed.specs.Columns.{edge_lowers, edge_highers, edge_firsts, edge_seconds, edge_wings, degrees, hem_neighbours}
use Rattle.smoothed.proofs.Inside.{edges_below, all_at, inner_no_corner}
use Rattle.moved.specs.Axis.{halfway, winged}
use Rattle.moved.specs.Rows.{condition_at, share_at, middle_at, middle_list}
use Rattle.moved.proofs.Conditions.{degree_at, rowed, condition_is}

-- edge e, by first use
abbrev pub edge_at : List Ring → ℕ → Edge
edge_at fs e = get_or (edges_by_use fs) e (0, 0)

module _ (fs : List Ring) (e : ℕ) (h : e < length (edges_by_use fs)) where
  pub edge_known : some (same (edge_at fs e)) (edges_by_use fs) ≡ true
  edge_known = some_true_at (same (edge_at fs e)) (0, 0) (edges_by_use fs) e h (same_refl (edge_at fs e))

  -- what the rows have of it
  pub lower_at : get_or (edge_lowers fs) e 0 ≡ (edge_at fs e).0
  unfolding edge_lowers
  lower_at = map_at (λ (k : Edge). k.0) (0, 0) 0 (edges_by_use fs) e h

  pub higher_at : get_or (edge_highers fs) e 0 ≡ (edge_at fs e).1
  unfolding edge_highers
  higher_at = map_at (λ (k : Edge). k.1) (0, 0) 0 (edges_by_use fs) e h

  pub first_at : get_or (edge_firsts fs) e 0 ≡ first_wing fs (edge_at fs e)
  unfolding edge_firsts
  first_at = map_at (first_wing fs) (0, 0) 0 (edges_by_use fs) e h

  pub second_at : get_or (edge_seconds fs) e 0 ≡ second_wing fs (edge_at fs e)
  unfolding edge_seconds
  second_at = map_at (second_wing fs) (0, 0) 0 (edges_by_use fs) e h

  pub wings_at : get_or (edge_wings fs) e 0 ≡ length (wings fs (edge_at fs e))
  unfolding edge_wings
  wings_at = map_at (λ (k : Edge). length (wings fs k)) (0, 0) 0 (edges_by_use fs) e h

-- the share, where neither end is a corner: m and o say whether the second hem neighbour is missing, t and u whether there are two
-- neighbours
share_by :
    (fs : List Ring) (ps ones twos : List Float) (v w x y z q : ℕ) (m t o u : Bool)
    → (cond m Inner (cond t Corner (Boundary x y)) ≡ Corner → ⊥) → (cond o Inner (cond u Corner (Boundary z q)) ≡ Corner → ⊥)
    → cond m (cond o half (spread (cosine ones (length (neighbours fs w)))))
    (sub binary64 five_eighths (quartered (cosine ones (length (neighbours fs v)))))
    ≡ share fs ps ones twos (cond m Inner (cond t Corner (Boundary x y))) (cond o Inner (cond u Corner (Boundary z q))) v w
share_by fs ps ones twos v w x y z q true t true u g h = refl
share_by fs ps ones twos v w x y z q true t false true g h = absurd (h refl)
share_by fs ps ones twos v w x y z q true t false false g h = refl
share_by fs ps ones twos v w x y z q false true o u g h = absurd (g refl)
share_by fs ps ones twos v w x y z q false false o u g h = refl

module _ (n : ℕ) (fs : List Ring) (s : Smoothable n fs) (few : n ≤ entry_limit) (ps ones twos : List Float) where
  abbrev ruled : ℕ → ℕ → Float
  ruled v w = share fs ps ones twos (condition fs v) (condition fs w) v w

  share_is :
      (v w : ℕ) → v < n → w < n → (condition fs v ≡ Corner → ⊥) → (condition fs w ≡ Corner → ⊥)
      → share_at (degrees fs n) (hem_neighbours 1 fs n) ones v w ≡ ruled v w
  unfolding share_at condition_at
  share_is v w g h i j =
      let c : rowed fs n v ≡ condition fs v = condition_is n fs s few v g in
      let d : rowed fs n w ≡ condition fs w = condition_is n fs s few w h in
      let count : ℕ → ℕ = λ u. get_or (degrees fs n) u 0 in
      let hem : ℕ → ℕ → ℕ = λ i u. get_or (hem_neighbours i fs n) u 0 in
      ap₂
      (λ (a b : ℕ).
      cond (eqb (hem 1 v) missing)
      (cond (eqb (hem 1 w) missing) half (spread (cosine ones b)))
      (sub binary64 five_eighths (quartered (cosine ones a))))
      (degree_at fs n v g)
      (degree_at fs n w h)
      ∙ share_by fs ps ones twos v w (hem 0 v) (hem 1 v) (hem 0 w) (hem 1 w) (eqb (hem 1 v) missing) (eqb (count v) 2)
      (eqb (hem 1 w) missing) (eqb (count w) 2) (λ e. i (sym c ∙ e)) (λ e. j (sym d ∙ e))
      ∙ ap₂ (λ (a b : Condition). share fs ps ones twos a b v w) c d

  abbrev by_rows : ℕ → ℕ → Float
  by_rows =
      middle_at ps (edge_lowers fs) (edge_highers fs) (edge_firsts fs) (edge_seconds fs) (edge_wings fs) (degrees fs n) (hem_neighbours 1 fs n)
      ones

  -- edge k, whether it has one wing or two
  middle_by :
      (k : Edge) (a : ℕ) → some (same k) (edges_by_use fs) ≡ true → (b : Bool) → single fs k ≡ b
      → cond b (halfway (coordinate ps a k.0) (coordinate ps a k.1))
      (winged (share_at (degrees fs n) (hem_neighbours 1 fs n) ones k.0 k.1) (coordinate ps a k.0) (coordinate ps a k.1)
      (coordinate ps a (first_wing fs k)) (coordinate ps a (second_wing fs k)))
      ≡ middle_of fs ps ones twos a k
  unfolding halfway winged
  middle_by k a known true t = rw t
  middle_by k a known false t =
      let below = all_at (edges_below n fs s) k known in
      let inner = inner_no_corner fs k known t in
      rw (t, share_is k.0 k.1 below.0 below.1 inner.0 inner.1)

  middles : (e a : ℕ) → e < length (edges_by_use fs) → by_rows a e ≡ middle_of fs ps ones twos a (edge_at fs e)
  unfolding middle_at
  middles e a h =
      rw (lower_at fs e h, higher_at fs e h, first_at fs e h, second_at fs e h, wings_at fs e h)
      (middle_by (edge_at fs e) a (edge_known fs e h) (single fs (edge_at fs e)) refl)

  pub middles_are :
      middle_list ps (edge_lowers fs) (edge_highers fs) (edge_firsts fs) (edge_seconds fs) (edge_wings fs) (degrees fs n) (hem_neighbours 1 fs n)
      ones
      ≡ each (λ k. axes (λ a. middle_of fs ps ones twos a k)) (edges_by_use fs)
  unfolding middle_list edge_lowers
  middles_are =
      let rule : Edge → List Float = λ k. axes (λ a. middle_of fs ps ones twos a k) in
      ap (λ (m : ℕ). each (λ e. axes (λ a. by_rows a e)) (span 0 m)) (length-map (edges_by_use fs) (λ (k : Edge). k.0))
      ∙ each_span_cong (λ e. axes (λ a. by_rows a e)) (λ e. rule (edge_at fs e)) 0 (length (edges_by_use fs))
      (λ e l h. ap axes (λ i. λ a. middles e a (omega arith) i))
      ∙ sym (each_map rule (edge_at fs) (span 0 (length (edges_by_use fs))))
      ∙ ap (each rule) (map_span (0, 0) (edges_by_use fs))
