-- The edges at the places that are their own twins are the hem edges, each once. Assumes nothing.
use mathlib.Core.Path.{◌≡◌, sym, ap, ap₂, ◌∙◌, subst}
use mathlib.Core.Bool.{Bool, true, false, ◌&&◌}
use mathlib.Core.List.{List, map}
use Prim.Native.Nat.{ℕ, ◌+◌, ◌≤◌, ◌<◌}
use native.Mathlib.Omega.{arith}
use lib.ListN.{length, get_or}
use Rattle.lists.specs.Lists.{only, some, has, count, span}
use Rattle.lists.proofs.Bools.{by_cases, and_false_right}
use Rattle.lists.proofs.Counting.{clash, count_map, count_some, count_none}
use Rattle.lists.proofs.Alike.{Alike}
use Rattle.lists.proofs.Buckets.{length_only, length_span, span_at}
use Rattle.lists.proofs.Changing.{only_same}
use Rattle.lists.proofs.Mapping.{count_only, count_cong, map_span, some_find}
use Rattle.lists.proofs.Only.{every_self}
use Rattle.lists.proofs.Places.{in_at}
use Rattle.edges.specs.Edges.{Edge, same, runs, mesh_edges, thrice, alike, hems}
use Rattle.edges.proofs.SameEdge.{same_true}
use Rattle.tracing.proofs.Balance.{runs_ext}
use Rattle.turning.specs.Rows.{nil, edge_at, place_count}
use Rattle.turning.specs.Turning.{is_hem}
use Rattle.turning.proofs.Crossing.{edges_once, hems_once, hem_edge}
use Rattle.trailing.specs.Trailing.{is_left}

module _ (fs : List (List ℕ)) (ni : thrice (mesh_edges fs) ≡ false) (nr : alike (mesh_edges fs) ≡ false) where
  abbrev es : List Edge
  es = mesh_edges fs

  abbrev H : List Edge
  H = hems (mesh_edges fs)

  -- a hem edge is used once
  used_once : (d : Edge) → is_hem (hems (mesh_edges fs)) d ≡ true → (runs d (mesh_edges fs) ≡ 1) × (runs d (hems (mesh_edges fs)) ≡ 1)
  used_once d q =
      let a : 0 < runs d (mesh_edges fs) = count_some (same d) (mesh_edges fs) (hem_edge (mesh_edges fs) ni nr d q) in
      let b : runs d (mesh_edges fs) ≤ 1 = edges_once (mesh_edges fs) ni nr d in
      let c : 0 < runs d (hems (mesh_edges fs)) = count_some (same d) (hems (mesh_edges fs)) q in
      let e : runs d (hems (mesh_edges fs)) ≤ 1 = hems_once (mesh_edges fs) ni nr d in
      (omega arith, omega arith)

  -- so the hem edges among the edges are the hem edges
  hem_runs : (d : Edge) → runs d (only (is_hem (hems (mesh_edges fs))) (mesh_edges fs)) ≡ runs d (hems (mesh_edges fs))
  hem_runs d =
      by_cases (is_hem (hems (mesh_edges fs)) d)
      (λ q.
      count_only (same d) (is_hem (hems (mesh_edges fs))) (mesh_edges fs)
      ∙ count_cong (λ e. is_hem (hems (mesh_edges fs)) e && same d e) (same d)
      (λ e.
      by_cases (same d e)
      (λ p. ap₂ (λ (x y : Bool). x && y) (subst (λ (x : Edge). is_hem (hems (mesh_edges fs)) x ≡ true) (same_true d e p) q) p ∙ sym p)
      (λ p. and_false_right (is_hem (hems (mesh_edges fs)) e) (same d e) p ∙ sym p))
      (mesh_edges fs)
      ∙ (used_once d q).0
      ∙ sym (used_once d q).1)
      (λ q.
      count_none (same d) (only (is_hem (hems (mesh_edges fs))) (mesh_edges fs))
      (by_cases (some (same d) (only (is_hem (hems (mesh_edges fs))) (mesh_edges fs)))
      (λ p.
      let r : (x : Edge) × (same d x ≡ true) × (is_hem (hems (mesh_edges fs)) x ≡ true) =
      some_find (same d) (is_hem (hems (mesh_edges fs))) (only (is_hem (hems (mesh_edges fs))) (mesh_edges fs)) p (every_self (is_hem (hems (mesh_edges fs))) (mesh_edges fs)) in
      clash (subst (λ (x : Edge). is_hem (hems (mesh_edges fs)) x ≡ true) (sym (same_true d r.0 r.1)) r.2) q)
      (λ p. p))
      ∙ sym (count_none (same d) (hems (mesh_edges fs)) q))

  span_below : (n x : ℕ) → has x (span 0 n) ≡ true → x < n
  span_below n x i =
      let r : (q : ℕ) × (q < length (span 0 n)) × (get_or (span 0 n) q 0 ≡ x) = in_at x (span 0 n) i in
      let l : length (span 0 n) ≡ n = length_span 0 n in
      let e : get_or (span 0 n) r.0 0 ≡ 0 + r.0 = span_at 0 n r.0 0 (omega (arith, r.1)) in
      omega (arith, r.1, r.2)

  module _
      (twins : List ℕ) (hem_is : (u : ℕ) → u < place_count fs → is_left twins u ≡ is_hem (hems (mesh_edges fs)) (edge_at fs u))
      (l : List ℕ) (all : (q : ℕ → Bool) → count q l ≡ count q (span 0 (place_count fs))) where
    -- tests that agree on places
    agreed :
        (p : Edge → Bool)
        → count (λ u. is_left twins u && p (edge_at fs u)) (span 0 (place_count fs))
        ≡ count (λ u. is_hem (hems (mesh_edges fs)) (edge_at fs u) && p (edge_at fs u)) (span 0 (place_count fs))
    agreed p =
        sym (length_only (λ u. is_left twins u && p (edge_at fs u)) (span 0 (place_count fs)))
        ∙ ap length
        (only_same (λ u. is_left twins u && p (edge_at fs u)) (λ u. is_hem (hems (mesh_edges fs)) (edge_at fs u) && p (edge_at fs u)) (span 0 (place_count fs))
        (λ x i. ap (λ (b : Bool). b && p (edge_at fs x)) (hem_is x (span_below (place_count fs) x i))))
        ∙ length_only (λ u. is_hem (hems (mesh_edges fs)) (edge_at fs u) && p (edge_at fs u)) (span 0 (place_count fs))

    pub hems_alike : Alike (hems (mesh_edges fs)) (map (edge_at fs) (only (is_left twins) l))
    hems_alike = record {
      agree = λ p.
          sym
          (count_map p (edge_at fs) (only (is_left twins) l)
          ∙ count_only (λ u. p (edge_at fs u)) (is_left twins) l
          ∙ all (λ u. is_left twins u && p (edge_at fs u))
          ∙ agreed p
          ∙ sym (count_map (λ e. is_hem (hems (mesh_edges fs)) e && p e) (edge_at fs) (span 0 (place_count fs)))
          ∙ ap (count (λ e. is_hem (hems (mesh_edges fs)) e && p e)) (map_span nil (mesh_edges fs))
          ∙ sym (count_only p (is_hem (hems (mesh_edges fs))) (mesh_edges fs))
          ∙ runs_ext (only (is_hem (hems (mesh_edges fs))) (mesh_edges fs)) (hems (mesh_edges fs)) hem_runs p);
    }
