-- Two calls of the list on meshes with the same faces: both get to the last row, the verdict's, and what they leave at the fronts of their
-- lists are the rules' own lists. Assumes nothing.
use mathlib.Core.Path.{◌≡◌, refl, sym, ap, ◌∙◌, subst}
use mathlib.Core.Logic.{inl, inr}
use mathlib.Core.Bool.{Bool, true, false, not}
use mathlib.Core.List.{List, [], ◌∷◌, map}
use Prim.Native.Nat.{ℕ, ◌≤◌}
use native.Mathlib.Omega.{arith}
use lib.Dec.{eqb}
use lib.ListN.{length, get_or}
use lib.IntN.{ℤ}
use borrow.Author.Tests.{le-ltb}
use Rattle.mesh.specs.Mesh.{Mesh, position, faces}
use Rattle.mesh.specs.Table.{mesh_number, when, first_of, short}
use Rattle.mesh.proofs.After.{after_done}
use Rattle.mesh.proofs.Numbers.{first_on, row_passed}
use Rattle.edges.specs.Edges.{Verdict, Irregular, Regular, Oriented, Closed, edges_of, verdict}
use Rattle.edges.proofs.OfHems.{mesh_hems_within}
use Rattle.tracing.specs.Answers.{corner_count}
use Rattle.turning.specs.Promise.{Fit}
use Rattle.turning.proofs.Promised.{hems_turn}
use Rattle.house.specs.Answers.{wired, unwired}
use Rattle.hemlist.specs.HemList.{point_of, hem_panels, hem_edges, hem_lengths, unmatched, beyond_reach, list_short, hem_list_number}
use Rattle.order.proofs.Demand.{positions_enough}
use Rattle.calls.proofs.Fronts.{front}
use Rattle.hemlaws.specs.Promises.{hem_count}
use Rattle.hemlaws.specs.Order.{SameHems, ListCall, panels_written, edges_written, lengths_written, SameLists, OrderIsFreeOfTheListCalls}
use Rattle.hemlaws.proofs.InPanels.{entries}
use Rattle.hemlaws.proofs.Order.{order_is_free_for_hems}

-- ---- the number

last_row : (b : Bool) → first_of (when b 10 ∷ []) ≡ when b 10
last_row true = refl
last_row false = refl

roomy : (m : Mesh) (p e l : ℕ) → corner_count m.corners ≤ p → corner_count m.corners ≤ e → corner_count m.corners ≤ l → list_short m p e l ≡ false
unfolding list_short short
roomy m p e l f g h = rw (le-ltb p (corner_count m.corners) f, le-ltb e (corner_count m.corners) g, le-ltb l (corner_count m.corners) h)

by_verdict :
    (m : Mesh) (cs : List ℤ) (p e l : ℕ) → mesh_number m ≡ 0 → unmatched m cs ≡ false → beyond_reach cs ≡ false → list_short m p e l ≡ false
    → hem_list_number m cs p e l ≡ when (unwired m) 10
unfolding hem_list_number
by_verdict m cs p e l z u f s =
    first_on (mesh_number m) (when (unmatched m cs) 18 ∷ when (beyond_reach cs) 19 ∷ when (list_short m p e l) 9 ∷ when (unwired m) 10 ∷ []) z
    ∙ row_passed (unmatched m cs) 17 (when (beyond_reach cs) 19 ∷ when (list_short m p e l) 9 ∷ when (unwired m) 10 ∷ []) u
    ∙ row_passed (beyond_reach cs) 18 (when (list_short m p e l) 9 ∷ when (unwired m) 10 ∷ []) f
    ∙ row_passed (list_short m p e l) 8 (when (unwired m) 10 ∷ []) s
    ∙ last_row (unwired m)

fit_wired : (v : Verdict) → Fit v → when (not (wired v)) 10 ≡ 0
fit_wired v (inl e) = ap (λ (x : Verdict). when (not (wired x)) 10) e
fit_wired v (inr e) = ap (λ (x : Verdict). when (not (wired x)) 10) e

unfit_wired : (v : Verdict) → (Fit v → ⊥) → when (not (wired v)) 10 ≡ 10
unfit_wired Irregular f = refl
unfit_wired Regular f = refl
unfit_wired Oriented f = absurd (f (inl refl))
unfit_wired Closed f = absurd (f (inr refl))

-- ---- one call

module _ (m : Mesh) (cs : List ℤ) (z : mesh_number m ≡ 0) (u : unmatched m cs ≡ false) (f : beyond_reach cs ≡ false) (r : ListCall m cs) where
  pub number_is : r.answer.number ≡ when (not (wired (verdict (edges_of (faces m))))) 10
  number_is =
      r.contract.number
      ∙ by_verdict m cs (length r.before.panels) (length r.before.edges) (length r.before.lengths) z u f
      (roomy m (length r.before.panels) (length r.before.edges) (length r.before.lengths) r.panel_room r.edge_room r.length_room)

  module _ (v : Fit (verdict (edges_of (faces m)))) where
    pub done : r.answer.number ≡ 0
    done = number_is ∙ fit_wired (verdict (edges_of (faces m))) v

    few : hem_count (faces m) ≤ corner_count m.corners
    few = omega (arith, (hems_turn (map (map position) (faces m)) v).wires_few, mesh_hems_within m z)

    pub panels_front : panels_written r ≡ hem_panels (faces m)
    panels_front =
        let e : length (hem_panels (faces m)) ≡ hem_count (faces m) = (entries (point_of cs) (faces m)).panels in
        front r.before.panels r.afterwards.panels (hem_panels (faces m)) r.answer.number (hem_count (faces m)) r.answer.hems done
        r.contract.panels r.contract.hem_count_is (sym e) (omega (arith, few, r.panel_room))

    pub edges_front : edges_written r ≡ hem_edges (faces m)
    edges_front =
        let e : length (hem_edges (faces m)) ≡ hem_count (faces m) = (entries (point_of cs) (faces m)).edges in
        front r.before.edges r.afterwards.edges (hem_edges (faces m)) r.answer.number (hem_count (faces m)) r.answer.hems done
        r.contract.edges r.contract.hem_count_is (sym e) (omega (arith, few, r.edge_room))

    pub lengths_front : lengths_written r ≡ hem_lengths (point_of cs) (faces m)
    lengths_front =
        let e : length (hem_lengths (point_of cs) (faces m)) ≡ hem_count (faces m) = (entries (point_of cs) (faces m)).lengths in
        front r.before.lengths r.afterwards.lengths (hem_lengths (point_of cs) (faces m)) r.answer.number (hem_count (faces m))
        r.answer.hems done r.contract.lengths r.contract.hem_count_is (sym e) (omega (arith, few, r.length_room))

    pub hems_are : r.answer.hems ≡ hem_count (faces m)
    hems_are = r.contract.hem_count_is ∙ after_done r.answer.number (hem_count (faces m)) 0 done

-- ---- two calls

module _ (m n : Mesh) (cs : List ℤ) (z : mesh_number m ≡ 0) (y : mesh_number n ≡ 0) (u : unmatched m cs ≡ false) (w : unmatched n cs ≡ false)
    (f : beyond_reach cs ≡ false) (r : ListCall m cs) (q : ListCall n cs) where
  lists_agree : Fit (verdict (edges_of (faces m))) → Fit (verdict (edges_of (faces n))) → SameHems (point_of cs) (faces m) (faces n) → SameLists r q
  lists_agree v v' s = record {
    done = (done m cs z u f r v, done n cs y w f q v');
    as_many = hems_are m cs z u f r v ∙ s.as_many ∙ sym (hems_are n cs y w f q v');
    same_edges = edges_front m cs z u f r v ∙ s.same_edges ∙ sym (edges_front n cs y w f q v');
    same_lengths = lengths_front m cs z u f r v ∙ s.same_lengths ∙ sym (lengths_front n cs y w f q v');
    same_partings = λ j k l h.
        let e : r.answer.hems ≡ hem_count (faces m) = hems_are m cs z u f r v in
        ap (λ (ps : List ℕ). eqb (get_or ps j 0) (get_or ps k 0)) (panels_front m cs z u f r v)
        ∙ s.same_partings j k (omega arith) (omega arith)
        ∙ ap (λ (ps : List ℕ). eqb (get_or ps j 0) (get_or ps k 0)) (sym (panels_front n cs y w f q v'));
  }

pub order_is_free_of_the_list_calls : OrderIsFreeOfTheListCalls
order_is_free_of_the_list_calls m n cs z y s u w f r q =
    let e : verdict (edges_of (faces m)) ≡ verdict (edges_of (faces n)) = (positions_enough m n z y s).edges.one_verdict in
    record {
      listed = λ v. lists_agree m n cs z y u w f r q v (subst Fit e v) (order_is_free_for_hems (point_of cs) m n z y s v);
      refused = λ v. (
        number_is m cs z u f r ∙ unfit_wired (verdict (edges_of (faces m))) v,
        number_is n cs y w f q ∙ ap (λ (x : Verdict). when (not (wired x)) 10) (sym e) ∙ unfit_wired (verdict (edges_of (faces m))) v,
      );
    }
