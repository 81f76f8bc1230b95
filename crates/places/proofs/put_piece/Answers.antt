-- A ring that is not folded is one piece, or none where it has fewer than three places. Assumes nothing.
use Rattle.std.proofs.Common.{arith}
use Rattle.places.proofs.Taking.{piece_none, piece_put}
use Rattle.places.proofs.put_piece.Goals as goal

pub returns-then-n-lt-LEAST_RING : goal.returns-then-n-lt-LEAST_RING
returns-then-n-lt-LEAST_RING c = piece_none _ _ c.requires.row_value _ _ _ _ c.if-n-lt-LEAST_RING.true

pub returns : goal.returns
returns c = piece_put _ _ c.requires.row_value _ _ _ _ _ (omega arith) c.put.ensures
