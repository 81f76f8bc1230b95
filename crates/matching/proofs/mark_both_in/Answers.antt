-- `matching::mark_both_in` meets its contract: a sort by two marks, where the other digits are alike. Assumes nothing.
use Rattle.matching.proofs.Both.{pairs_sort}
use Rattle.matching.proofs.mark_both_in.Goals as goal

pub put_firsts-requires : goal.put_firsts-requires
put_firsts-requires c = pairs_sort _ _ _ _ _ c.requires
