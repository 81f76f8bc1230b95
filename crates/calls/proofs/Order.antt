-- Demand 3, said of the calls: from the theorem on the definitions and the contracts, which say that what a call answers and leaves
-- are these definitions. Assumes nothing.
use mathlib.Core.Path.{◌≡◌, refl, sym, ap, ◌∙◌}
use mathlib.Core.Bool.{false, not}
use mathlib.Core.List.{map}
use lib.ListN.{length, length-map}
use Rattle.mesh.specs.Mesh.{Mesh, position, faces}
use Rattle.mesh.specs.Table.{mesh_number}
use Rattle.edges.specs.Edges.{Verdict, verdict}
use Rattle.edges.specs.Answers.{mesh_edges_of}
use Rattle.edges.specs.declared.Judged.TheVariants.{Found}
use Rattle.house.specs.Answers.{wired}
use Rattle.order.specs.Demand.{SameEdges, Demand3, SameByPosition}
use Rattle.order.proofs.Matched.{same_map}
use Rattle.order.proofs.Demand.{demand3, positions_enough}
use Rattle.calls.specs.Order.{EdgeCallsAgree, OrderIsFreeOfTheCalls, PositionsAreEnoughForTheCalls}
use Rattle.calls.proofs.Counts.{same_length, corners_count}
use Rattle.calls.proofs.Numbers.{numbers_agree}
use Rattle.calls.proofs.Verdicts.{case_of, answered}
use Rattle.calls.proofs.Hemming.{hems_agree}
use Rattle.calls.proofs.Wiring.{house_agree, ported_agree}
use Rattle.calls.proofs.Panelling.{panels_agree}

-- what goes by the edges
edges_agree :
    (m n : Mesh) → mesh_number m ≡ 0 → mesh_number n ≡ 0 → length m.corners ≡ length n.corners → SameEdges (faces m) (faces n)
    → EdgeCallsAgree m n
edges_agree m n a b c e = record {
  one_verdict = λ v w. record {
    verdict = case_of (verdict (mesh_edges_of m));
    of_the_one = answered m a v;
    of_the_other = answered n b w ∙ ap (λ (x : Verdict). Found (case_of x)) (sym e.one_verdict);
  };
  same_numbers = numbers_agree m n (a ∙ sym b) c (ap (λ (x : Verdict). not (wired x)) e.one_verdict);
  same_hems = λ v r q. hems_agree m n a b e v r q;
  same_house = λ v r q. house_agree m n a b e v r q;
  same_ported = λ v r q. ported_agree m n a b e v r q;
}

pub demand3_of_the_calls : OrderIsFreeOfTheCalls
demand3_of_the_calls m n a b s =
    let d : Demand3 (faces m) (faces n) = demand3 m n a b s in
    record {
      edges = edges_agree m n a b (corners_count m n a b (same_map position s)) d.edges;
      matching = d.matching;
      same_panels = λ k r q. panels_agree d.matching m n a b refl refl (same_length s) k (d.same_panels k) r q;
    }

pub positions_enough_for_the_calls : PositionsAreEnoughForTheCalls
positions_enough_for_the_calls m n a b s =
    let d : SameByPosition (faces m) (faces n) = positions_enough m n a b s in
    record {
      edges = edges_agree m n a b (corners_count m n a b s) d.edges;
      matching = d.matching;
      same_panels = λ r q.
          panels_agree d.matching m n a b (length-map (faces m) (map position)) (length-map (faces n) (map position)) (same_length s) false d.same_panels r q;
    }
