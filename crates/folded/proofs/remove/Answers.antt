-- Where no face is folded, all of them are what is left. Assumes nothing.
use Rattle.std.proofs.Common.{sym, ◌∙◌}
use Rattle.removal.proofs.Unfolded.{left_same}
use Rattle.folded.proofs.remove.Goals as goal

pub returns : goal.returns
returns c =
    left_same _ _ _ _ _ _ _ _ _ _ c.requires.ready.fit c.requires.grouped (sym c.any_folded.ensures ∙ c.if-any_folded.false) c.keep_all.ensures
