-- Rule by rule: no rule tests the mark, and it moves with its corner; and so of two meshes that differ in marks alone. Assumes nothing.
use mathlib.Core.Path.{refl, sym, ap, ◌∙◌}
use mathlib.Core.List.{List}
use Rattle.mesh.specs.Mesh.{faces}
use Rattle.mesh.specs.Table.{mesh_number}
use Rattle.unused.proofs.Columns.{marks_kept}
use Rattle.edges.specs.Edges.{Edge, verdict, hems}
use Rattle.ported.specs.Ported.{ported_wires}
use Rattle.turning.specs.Turning.{house_wires, house_wires_of}
use Rattle.panels.specs.Panels.{panels}
use Rattle.marks.specs.Promises.{NumbersUnread, NoRuleTestsTheMark, MovesWithItsCorner, MarksAlone}
use Rattle.marks.proofs.Remarked.{faces_remarked}
use Rattle.marks.proofs.Accepted.{number_remarked}
use Rattle.marks.proofs.Removal.{unfolded_moves, origins_unread, places_kept, marks_at_places}
use Rattle.marks.proofs.Compaction.{compacted_moves}
use Rattle.marks.proofs.Merging.{merge_number_lem, pairs_unread, merged_moves, merged_marks}
use Rattle.marks.proofs.Edges.{positions_remarked, edges_unread}
use Rattle.marks.proofs.Panels.{panels_remarked}
use Rattle.marks.proofs.Smoothing.{smoothing_moves}
use Rattle.marks.proofs.Numbers.{removal_number_lem, compaction_number_lem, edge_numbers, smoothing_number_lem}
use Rattle.marks.proofs.Sheet.{part_moved, cleaned_moves, sheet_unread}

numbers_unread : NumbersUnread
numbers_unread = record {
  of_mesh = number_remarked;
  of_compaction = compaction_number_lem;
  of_removal = removal_number_lem;
  of_merging = merge_number_lem;
  of_hem_edges = λ x y g m. (edge_numbers g m).hem_number_is x y;
  of_ported_wires = λ x y g m. (edge_numbers g m).ported_number_is x y;
  of_house_wires = λ x y g m. (edge_numbers g m).house_number_is x y;
  of_panels = λ x y g m. (edge_numbers g m).panels_number x y;
  of_smoothing = smoothing_number_lem;
}

pub no_rule_tests_the_mark : NoRuleTestsTheMark
no_rule_tests_the_mark = record {
  numbers = numbers_unread;
  part = part_moved;
  compaction = compacted_moves;
  folded_faces = unfolded_moves;
  origins = origins_unread;
  cleaning = cleaned_moves;
  merging = merged_moves;
  pairs = pairs_unread;
  verdict = λ g m. ap verdict (edges_unread g m);
  hem_edges_is = λ g m. ap hems (edges_unread g m);
  ported_wires_is = λ g m. ap (λ (es : List Edge). ported_wires (hems es)) (edges_unread g m);
  house_wires_is = λ g m. ap house_wires_of (faces_remarked g m) ∙ ap house_wires (positions_remarked g (faces m));
  panels = λ k g m. ap (panels k) (faces_remarked g m) ∙ panels_remarked g k (faces m);
  smoothing = smoothing_moves;
  sheet = sheet_unread;
}

pub moves_with_its_corner : MovesWithItsCorner
moves_with_its_corner = record {
  compaction = marks_kept;
  merging = merged_marks;
  folded_faces = marks_at_places;
  same_places = places_kept;
  smoothing = λ n ks f. refl;
}

-- both are the mesh without marks, as far as an answer reads
pub marks_alone : MarksAlone
marks_alone m n e = record {
  answers = λ answer u. sym (u (λ k. 0) m) ∙ ap answer e ∙ u (λ k. 0) n;
  leaves = λ rule r h.
      sym (r (λ k. 0) m h) ∙ ap rule e ∙ r (λ k. 0) n (sym (number_remarked (λ k. 0) n) ∙ sym (ap mesh_number e) ∙ number_remarked (λ k. 0) m ∙ h);
}
