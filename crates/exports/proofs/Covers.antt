-- Two exports of one cover: first the positions of the one are renumbered, then the faces are put in the other's order. Assumes nothing.
use mathlib.Core.Path.{◌≡◌, sym, ap, ◌∙◌, subst}
use mathlib.Core.Bool.{false}
use mathlib.Core.List.{List, [], map}
use Prim.Native.Nat.{ℕ, ◌<◌}
use native.Mathlib.Omega.{arith}
use lib.ListN.{length, get_or, length-map, get_or-map}
use Rattle.lists.specs.Lists.{count, together}
use Rattle.mesh.specs.Mesh.{Ring, faces}
use Rattle.edges.specs.Edges.{mesh_edges, edges_of, verdict}
use Rattle.turning.specs.Turning.{house_wires, house_wires_of}
use Rattle.turning.specs.Promise.{Fit}
use Rattle.order.specs.Same.{Same, then, Matching}
use Rattle.order.specs.Demand.{by_position, SameTogether, SameByPosition}
use Rattle.order.proofs.Panelwise.{Full}
use Rattle.order.proofs.Demand.{accepted_full, same_positions}
use Rattle.order.proofs.Ordered.{same_house}
use Rattle.order.proofs.Matched.{same_sym}
use Rattle.renumbered.specs.Renumbered.{Kept}
use Rattle.renumbered.specs.Points.{hem_points}
use Rattle.exports.specs.Covers.{renumbered_by, OneCover, CoverKept, CoversAgree, HemsOfOneCover}
use Rattle.renumbered.proofs.Joined.{repositioned}
use Rattle.renumbered.proofs.Renumbered.{numbers_do_not_matter}
use Rattle.renumbered.proofs.Points.{points_same}
use Rattle.renumbered.proofs.Compacted.{compaction_keeps_all}
use Rattle.exports.proofs.Rewritten.{rewritten, rewritten_by}

module _ (g : ℕ → ℕ) where
  full_rewritten : (fs : List Ring) → Full fs → Full (rewritten g fs)
  full_rewritten fs full x l =
      let a : length (get_or (rewritten g fs) x []) ≡ length (get_or fs x []) =
      ap length (get_or-map (map (repositioned g)) fs x []) ∙ length-map (get_or fs x []) (repositioned g) in
      let b : 0 < length (get_or fs x []) = full x (omega (arith, length-map fs (map (repositioned g)))) in
      omega arith

  module _ (m n : List Ring) (f : Full m) (h : Full n) (c : OneCover g m n) where
    kept : Kept g m (rewritten g m)
    kept = numbers_do_not_matter g m (rewritten g m) (record { positions = rewritten_by g m; one_to_one = c.one_to_one })

    by : SameByPosition (rewritten g m) n
    by = same_positions (full_rewritten m f) h (rw (rewritten_by g m) c.same_positions)

    -- the panels, by the rings of the rewritten faces and so by the renumbered rings
    abbrev Panelled : List (List ℕ) → Type 0
    Panelled fs = (match : Matching fs (by_position n)) × SameTogether match false m n

    panelled : Panelled (renumbered_by g m)
    panelled =
        subst Panelled (rewritten_by g m) (
          by.matching,
          record {
            matched = λ a b la lb. ap (together a b) (sym kept.same_panels) ∙ by.same_panels.matched a b la lb;
            whichever = λ a b x y la lx s t. ap (together a b) (sym kept.same_panels) ∙ by.same_panels.whichever a b x y la lx s t;
          },
        )

    -- the house wires of the rewritten faces are those of the renumbered rings, and so the other's
    wired : Fit (verdict (edges_of m)) → house_wires_of (rewritten g m) ≡ house_wires_of n
    wired v =
        let e : verdict (edges_of m) ≡ verdict (mesh_edges (renumbered_by g m)) =
        sym kept.one_verdict ∙ ap (λ (l : List (List ℕ)). verdict (mesh_edges l)) (rewritten_by g m) in
        ap house_wires (rewritten_by g m) ∙ same_house c.same_positions (subst Fit e v)

    pub cover_kept : CoverKept g m n
    cover_kept = record {
      one_verdict = sym kept.one_verdict ∙ by.edges.one_verdict;
      same_hems = λ v test.
          sym (kept.same_hems test) ∙ ap (count test) (by.edges.same_directions (λ e. v (sym kept.one_verdict ∙ e)));
      same_wires = λ v. subst (Same (map (map g) (house_wires_of m))) (wired v) (kept.same_wires v);
      matching = panelled.0;
      same_panels = panelled.1;
    }

pub covers_agree : CoversAgree
covers_agree g m n y z c = cover_kept g _ _ (accepted_full m y) (accepted_full n z) c

pub hems_of_one_cover : HemsOfOneCover
hems_of_one_cover g m n y z c k v =
    let a : CoverKept g (faces m) (faces n) = covers_agree g m n y z c in
    let s : Same (hem_points m) (hem_points n) = points_same g m n v k (a.same_wires v) in
    let v' : Fit (verdict (edges_of (faces n))) = subst Fit a.one_verdict v in
    record {
      as_they_are = s;
      as_printed = then (same_sym ((compaction_keeps_all m y).same_points v)) (then s ((compaction_keeps_all n z).same_points v'));
    }
