-- `saving::bytes::put_header` meets its contract: two numbers of two bytes, one behind the other. Assumes nothing.
use Rattle.saving.proofs.Storing.{header_stored}
use Rattle.saving.proofs.bytes.put_header.Goals as goal

pub returns : goal.returns
returns c = header_stored _ _ _ _ _ _ c.put_half.ensures c.put_half-2.ensures
