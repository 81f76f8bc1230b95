-- `measured::edge_length` meets its contract: the coordinates that are read are the two points', and the root found is the edge's length.
-- Assumes nothing.
use mathlib.Core.List.{List}
use lib.IntN.{ℤ}
use Rattle.measured.proofs.Reading.{point_read_lem, edge_read}
use Rattle.measured.proofs.edge_length.Goals as goal

pub returns : goal.returns
returns c =
    let w = c.requires in
    let cs : List ℤ = c.args.triples.now in
    let p = c.args.p in
    let q = c.args.q in
    let start = point_read_lem cs p c.ax-1.given c.ay-1.given c.az-1.given in
    let end = point_read_lem cs q c.bx-1.given c.by-1.given c.bz-1.given in
    edge_read cs p q c.length_between.result start end c.length_between.ensures
