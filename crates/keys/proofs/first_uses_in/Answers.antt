-- Columns, then marks, which are the first uses of the rules. Assumes nothing.
use Rattle.keys.proofs.Rows.{rows_ready, firsts_done}
use Rattle.keys.proofs.first_uses_in.Goals as goal

pub put_firsts-requires : goal.put_firsts-requires
put_firsts-requires c =
    rows_ready _ _ _ c.requires.keyable _ _ _ _ c.put_digits.ensures _ _ c.requires.order_long c.requires.firsts_long

pub returns : goal.returns
returns c =
    firsts_done _ _ _ c.requires.keyable _ _ _ _ c.put_digits.ensures c.args.order.now _ c.requires.order_long c.put_firsts.ensures
