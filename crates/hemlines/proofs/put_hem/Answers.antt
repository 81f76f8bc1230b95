-- `hemlines::put_hem` meets its contract: the word, three numbers and the line feed, one behind the other (`Line`). Assumes nothing.
use Rattle.hemlines.proofs.Line.{word_room, panel_room, edges_room, length_room, feed_room, line_written}
use native.Mathlib.Omega.{arith}
use Rattle.hemlines.proofs.put_hem.Goals as goal

pub put_bytes-a-requires : goal.put_bytes-a-requires
put_bytes-a-requires c = word_room _ _ _ _ _ c.requires

pub put_number-b-requires : goal.put_number-b-requires
put_number-b-requires c =
    let word = c in
    let start = c in
    panel_room _ _ _ _ _ start.requires _ _ word.put_bytes-a.ensures

pub put_number-c-requires : goal.put_number-c-requires
put_number-c-requires c =
    let panel = c in
    let word = c in
    let start = c in
    edges_room _ _ _ _ _ start.requires _ _ _ _ word.put_bytes-a.ensures panel.put_number-b.ensures

pub put_number-d-requires : goal.put_number-d-requires
put_number-d-requires c =
    let edges = c in
    let panel = c in
    let word = c in
    let start = c in
    length_room _ _ _ _ _ start.requires _ _ _ _ _ _ word.put_bytes-a.ensures panel.put_number-b.ensures edges.put_number-c.ensures

pub bounds-out-d : goal.bounds-out-d
bounds-out-d c =
    let length = c in
    let edges = c in
    let panel = c in
    let word = c in
    let start = c in
    omega (
      arith,
      feed_room _ _ _ _ _ start.requires _ _ _ _ _ _ _ _ word.put_bytes-a.ensures panel.put_number-b.ensures edges.put_number-c.ensures
          length.put_number-d.ensures,
    )

pub overflow_add-result : goal.overflow_add-result
overflow_add-result c =
    let length = c in
    let edges = c in
    let panel = c in
    let word = c in
    let start = c in
    omega (
      arith,
      feed_room _ _ _ _ _ start.requires _ _ _ _ _ _ _ _ word.put_bytes-a.ensures panel.put_number-b.ensures edges.put_number-c.ensures
          length.put_number-d.ensures,
      start.well_formed,
    )

pub returns : goal.returns
returns c =
    let length = c in
    let edges = c in
    let panel = c in
    let word = c in
    let start = c in
    line_written _ _ _ _ _ start.requires _ _ _ _ _ _ _ _ word.put_bytes-a.ensures panel.put_number-b.ensures edges.put_number-c.ensures
    length.put_number-d.ensures
