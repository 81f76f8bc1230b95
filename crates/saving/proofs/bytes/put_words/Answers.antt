-- `saving::bytes::put_words` meets its contract: the bytes of the first numbers are stored. Assumes nothing.
use mathlib.Core.Path.{refl}
use Rattle.little.specs.Little.{word_bytes}
use Rattle.saving.proofs.Storing.{word_stored}
use Rattle.saving.proofs.Listing.{putting_turns, word_room}
use Rattle.saving.proofs.bytes.put_words.Goals as goal

pub put_word-requires : goal.put_word-requires
put_word-requires c = word_room _ _ _ _ _ _ c.loop-x-test.true c.loop-x.invariant c.requires

pub loop-x-preserved : goal.loop-x-preserved
loop-x-preserved c =
    putting_turns word_bytes 0 _ _ _ _ _ _ _ c.loop-x-test.true refl c.loop-x.invariant _ _ (word_stored _ _ _ _ c.put_word.ensures)
