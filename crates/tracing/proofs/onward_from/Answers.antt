-- Where the first edge at c is no edge's number there is no entry; else the tables say that it is the entry, and what is left without it. Assumes nothing.
use Rattle.tracing.proofs.Steps.{back_home, goes_on}
use Rattle.tracing.proofs.onward_from.Goals as goal

pub returns-then-k-starts : goal.returns-then-k-starts
returns-then-k-starts c = back_home _ _ _ _ _ _ c.requires.stands c.requires.home c.requires.inside c.if-k-starts.true

pub returns : goal.returns
returns c = goes_on _ _ _ _ _ _ c.requires.stands c.requires.home c.requires.inside c.if-k-starts.false
