-- the front is filled, and what stands behind it stays
use Rattle.fourfold.proofs.Fours.{sizes_put}
use Rattle.fourfold.proofs.put_sizes.Goals as goal

pub returns : goal.returns
returns c = sizes_put _ _ _ _ c.requires (c.fill.ensures.after (λ y e. e))
