-- Each contract of the source is, word for word, what the list of the calls says of it. Assumes nothing.
use mathlib.Core.Path.{subst}
use Rattle.unused.specs.Compaction.{Compaction, compacted_of}
use Rattle.inplace.proofs.Laws.{as_ordinary}
use Rattle.determined.specs.Determined.{Call, Determined, mesh_from}
use Rattle.determined.specs.Tied.{Tied, OneResult, AllTied, EnginesAgree, InPlaceAgrees, mesh_in, mesh_placed, rest, list_mut, compacted_lists, placed_lists, sizes_in}
use Rattle.determined.proofs.Determined.{merging_determined}

-- so what is said of the list is said of the sources: a call whose results are determined has a source whose contract allows one result
pub source_determined :
    {K A R E : Type 0} (Post : K → A → R → E → Type 0) (c : Call) (given : A → c.Given) (result : R → E → c.Result)
    → Tied Post c given result → Determined c → OneResult Post result
source_determined Post c given result tie one κs a r q e f h k =
    one (given a) (result r e) (result q f) (tie κs a r e h) (tie κs a q f k)

pub all_tied : AllTied
all_tied = record {
  number_tied = λ κs a r e h. h;
  face_tied = λ κs a r e h. h;
  push_tied = λ κs a r e h. h;
  compaction_tied = λ κs a r e h. h;
  in_place_tied = λ κs a r e h. h;
  removal_tied = λ κs a r e h. h;
  merging_tied = λ κs a r e h. h;
  by_cell_tied = λ κs a r e h. h;
  smoothing_tied = λ κs a r e h. h;
  verdict_tied = λ κs a r e h. h;
  hem_tied = λ κs a r e h. h;
  ported_tied = λ κs a r e h. h;
  house_tied = λ κs a r e h. h;
  panels_tied = λ κs a r e h. h;
  list_tied = λ κs a r e h. h;
  read_tied = λ κs a r e h. h;
  scan_tied = λ κs a r e h. h;
  write_tied = λ κs a r e h. h;
  sheet_tied = λ κs a r e h. h;
  clean_tied = λ κs a r e h. h;
  hem_sheet_tied = λ κs a r e h. h;
}

-- the two engines of merging have one contract, and it determines the result
pub engines_agree : EnginesAgree
engines_agree κs κt a r q e f h k =
    merging_determined ((mesh_in a, (rest a).0), list_mut (rest a).1) (r, list_mut (rest e).1) (q, list_mut (rest f).1) (all_tied.merging_tied κs a r e h)
    (all_tied.by_cell_tied κt a q f k)

-- compaction in place gives what the ordinary gives: both contracts are tied to their sources, and the crate has the law of the two
pub in_place_agrees : InPlaceAgrees
in_place_agrees κs κt a b r q e f h k same zero nought =
    as_ordinary (mesh_placed b) (mesh_from (placed_lists f).0 (sizes_in b)) (placed_lists b).1 (placed_lists f).1 (compacted_of q) (compacted_lists a.1)
    (compacted_lists e.1) (compacted_of r) (all_tied.in_place_tied κt b q f k) nought
    (subst (λ m. Compaction m (compacted_lists a.1) (compacted_lists e.1) (compacted_of r)) same (all_tied.compaction_tied κs a r e h)) zero
