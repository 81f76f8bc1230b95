-- The place i is the first that has a mate, or none has one. Assumes nothing.
use Rattle.std.proofs.Common.{map, ◌∙◌, arith}
use Rattle.lists.proofs.Seeking.{seek_turns, seek_finds, seek_ends}
use Rattle.splitting.proofs.Search.{mate_after}
use Rattle.places.specs.Working.{position_at_lem}
use Rattle.places.proofs.Seeking.{first_sought, mate_found, mate_missing}
use Rattle.places.proofs.Cutting.{not_folded}
use Rattle.places.proofs.first_pair.Goals as goal

pub returns-in-Some : goal.returns-in-Some
returns-in-Some c =
    let key = position_at_lem c.args.face.now in
    let row = c.args.row.now in
    let found = c.in-Some.ensures in
    record {
      first = seek_finds _ _ _ _ (omega arith) (mate_found _ _ _ found.0 found.1) c.loop-i.invariant ∙ first_sought key row;
      second = found.0;
      ordered = omega (arith, found.0, mate_after (map key row) c.loop-i.i);
      within = found.1;
    }

pub loop-i-preserved : goal.loop-i-preserved
loop-i-preserved c = seek_turns _ _ _ _ (omega arith) (mate_missing _ _ c.in_default.ensures) c.loop-i.invariant

pub returns : goal.returns
returns c =
    let key = position_at_lem c.args.face.now in
    let row = c.args.row.now in
    not_folded key row _ (seek_ends _ _ _ _ (omega arith) c.loop-i.invariant ∙ first_sought key row) (omega arith)
