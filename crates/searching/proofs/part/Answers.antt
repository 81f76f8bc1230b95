-- It is `part_in` with the fronts of rows of fixed length. Assumes nothing.
use Rattle.std.proofs.Common.{refl}
use Rattle.connected.proofs.Rows.{entry_row, face_row, clear_row, divisible_at}
use Rattle.searching.proofs.part.Goals as goal

pub part_in-requires : goal.part_in-requires
part_in-requires c =
    record {
      divisible = divisible_at _ _ _ _ _ (face_row _ _ _ _ c.requires) c.requires;
      entries_long = entry_row _ _ _ _ c.requires;
      order_long = entry_row _ _ _ _ c.requires;
      unseen = clear_row _ _ _ _ c.requires;
      stack_long = refl;
    }
