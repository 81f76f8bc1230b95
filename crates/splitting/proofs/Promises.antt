-- The promises of the split, by the laws of its pieces. Assumes nothing.
use Rattle.splitting.specs.Promises.{NoneLost, MapCommutes, OnlyEquality}
use Rattle.splitting.proofs.Pieces.{split_count}
use Rattle.splitting.proofs.Mapped.{pieces_map, pieces_same}

pub none_lost : NoneLost
none_lost A key p r = split_count key p r

pub map_commutes : MapCommutes
map_commutes A B f key r = pieces_map f key r

pub only_equality : OnlyEquality
only_equality A k k' p agree r h = pieces_same k k' p agree r h
