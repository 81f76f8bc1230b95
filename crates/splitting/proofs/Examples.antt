-- The two examples hold, by computation. Assumes nothing.
use lib.Dec.{T}
use Rattle.lists.specs.Numbers.{seek}
use Rattle.splitting.specs.Splitting.{mate_of, first_mated, folded_by, split_by_in, split_by, pieces_by}
use Rattle.splitting.specs.Examples.{takes, seventh, eighth}

pub seventh_holds : T seventh
unfolding takes pieces_by split_by split_by_in folded_by first_mated mate_of seek
seventh_holds = tt

pub eighth_holds : T eighth
unfolding takes pieces_by split_by split_by_in folded_by first_mated mate_of seek
eighth_holds = tt
