-- The position at i comes again behind it, or none does. Assumes nothing.
use Rattle.std.proofs.Common.{◌∙◌, sym, arith}
use Rattle.lists.proofs.Seeking.{seek_turns, seek_finds, seek_ends}
use Rattle.folding.proofs.Search.{first_seeks, mate_seen}
use Rattle.folding.proofs.first.Goals as goal

pub returns-then-contains : goal.returns-then-contains
returns-then-contains c =
    seek_finds _ _ _ _ (omega arith) (mate_seen c.args.places.now c.loop-i.i (omega arith) ∙ sym c.contains.ensures.value ∙ c.if-contains.true) c.loop-i.invariant
    ∙ first_seeks _

pub loop-i-preserved : goal.loop-i-preserved
loop-i-preserved c =
    seek_turns _ _ _ _ (omega arith) (mate_seen c.args.places.now c.loop-i.i (omega arith) ∙ sym c.contains.ensures.value ∙ c.if-contains.false) c.loop-i.invariant

pub returns : goal.returns
returns c = omega (arith, seek_ends _ _ _ _ (omega arith) c.loop-i.invariant ∙ first_seeks c.args.places.now)
