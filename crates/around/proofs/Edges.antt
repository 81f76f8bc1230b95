-- The edges of two rows, one more at a time. Assumes nothing.
use Rattle.std.proofs.Common.{◌≡◌, ap, ◌∙◌, Bool, true, false, List, [], ◌∷◌, ◌++◌, map, append-nil, ℕ, ◌+◌, ◌≤◌, ◌<◌, zero-add, arith, eqb, length, get_or}
use mathlib.Core.List.{map-append}
use lib.ListN.{length-map}
use Rattle.lists.specs.Lists.{keep_if, only, span}
use Rattle.lists.proofs.Buckets.{only_snoc, span_snoc, length_span}
use Rattle.lists.proofs.Mapping.{map_keep}
use Rattle.lists.proofs.Only.{only_length}
use Rattle.verdicts.specs.Edges.{Edge}
use Rattle.smoothed.specs.Around.{ends, across}
use Rattle.around.specs.Rows.{edge_at, edges_to, hems_to, neighbours_in, EdgeRows}
use Rattle.around.proofs.Gathering.{Joins}

module _ (ls hs : List ℕ) where
  pub edges_more : (e : ℕ) → edges_to ls hs (e + 1) ≡ edges_to ls hs e ++ (edge_at ls hs e ∷ [])
  unfolding edges_to
  edges_more e =
      ap (map (edge_at ls hs)) (span_snoc 0 e)
      ∙ map-append (edge_at ls hs) (span 0 e) ((0 + e) ∷ [])
      ∙ ap (λ (i : ℕ). map (edge_at ls hs) (span 0 e) ++ (edge_at ls hs i ∷ [])) (zero-add e)

  pub length_edges : (m : ℕ) → length (edges_to ls hs m) ≡ m
  unfolding edges_to
  length_edges m = length-map (span 0 m) (edge_at ls hs) ∙ length_span 0 m

  -- one with one wing, and another
  hems_keep :
      (ws : List ℕ) (e : ℕ)
      → hems_to ls hs ws (e + 1) ≡ hems_to ls hs ws e ++ keep_if (eqb 1 (get_or ws e 0)) (edge_at ls hs e) []
  unfolding hems_to
  hems_keep ws e =
      let single : ℕ → Bool = λ i. eqb 1 (get_or ws i 0) in
      let old : List ℕ = only single (span 0 e) in
      ap (λ (s : List ℕ). map (edge_at ls hs) (only single s)) (span_snoc 0 e ∙ ap (λ (i : ℕ). span 0 e ++ (i ∷ [])) (zero-add e))
      ∙ ap (map (edge_at ls hs)) (only_snoc single (span 0 e) e)
      ∙ map-append (edge_at ls hs) old (keep_if (single e) e [])
      ∙ ap (λ (t : List Edge). map (edge_at ls hs) old ++ t) (map_keep (edge_at ls hs) (single e) e [])

  pub hems_more : (ws : List ℕ) (e : ℕ) → eqb 1 (get_or ws e 0) ≡ true → hems_to ls hs ws (e + 1) ≡ hems_to ls hs ws e ++ (edge_at ls hs e ∷ [])
  hems_more ws e h = hems_keep ws e ∙ ap (λ (b : Bool). hems_to ls hs ws e ++ keep_if b (edge_at ls hs e) []) h

  pub hems_same : (ws : List ℕ) (e : ℕ) → eqb 1 (get_or ws e 0) ≡ false → hems_to ls hs ws (e + 1) ≡ hems_to ls hs ws e
  hems_same ws e h =
      hems_keep ws e ∙ ap (λ (b : Bool). hems_to ls hs ws e ++ keep_if b (edge_at ls hs e) []) h ∙ append-nil (hems_to ls hs ws e)

  -- an edge of n positions
  pub joins : (n e : ℕ) → EdgeRows n ls hs → e < length ls → Joins n (edge_at ls hs e)
  joins n e r h =
      let o : get_or ls e 0 < get_or hs e 0 = r.ordered e h in
      let b : get_or hs e 0 < n = r.below e h in
      record { apart = λ q. omega arith; lower_below = omega arith; higher_below = b }

-- there are no more neighbours than edges
pub neighbours_few : (es : List Edge) (v : ℕ) → length (neighbours_in es v) ≤ length es
unfolding neighbours_in
neighbours_few es v =
    let a : length (map (across v) (only (ends v) es)) ≡ length (only (ends v) es) = length-map (only (ends v) es) (across v) in
    omega (arith, only_length (ends v) es)
