-- `triples::put_coordinates` meets its contract. Assumes nothing.
use Rattle.std.proofs.Common.{◌∙◌, arith}
use mir.Syntax.{w32}
use mir.ValLaws.{to_z-of_z}
use Rattle.triples.proofs.Coordinates.{putting_turns, putting_ends}
use Rattle.triples.proofs.put_coordinates.Goals as goal

pub loop-k-preserved : goal.loop-k-preserved
loop-k-preserved c = putting_turns _ _ _ _ _ _ (omega arith) c.word.ensures (to_z-of_z w32 c.signed.result (record { sfits = c.signed.type_inv }) ∙ c.signed.ensures) c.loop-k.invariant

pub returns : goal.returns
returns c = putting_ends _ _ _ _ (omega arith) c.loop-k.invariant
