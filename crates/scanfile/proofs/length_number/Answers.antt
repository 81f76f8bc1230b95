-- `scanfile::length_number` meets its contract: row by row. Assumes nothing.
use mathlib.Core.Path.{refl}
use Rattle.scanned.proofs.Lengths.{count_is, length_few, count_many, length_below, length_above, length_right}
use Rattle.scanfile.proofs.length_number.Goals as goal

pub returns-then-file-lt-FRONT_BYTES : goal.returns-then-file-lt-FRONT_BYTES
returns-then-file-lt-FRONT_BYTES c = length_few _ c.if-file-lt-FRONT_BYTES.true

pub returns-then-count-gt-FACES : goal.returns-then-count-gt-FACES
returns-then-count-gt-FACES c =
    count_many _ c.if-file-lt-FRONT_BYTES.false _ (count_is _ _ _ refl c.word-count.ensures) c.if-count-gt-FACES.true

pub returns-then-file-asked : goal.returns-then-file-asked
returns-then-file-asked c =
    length_below _ c.if-file-lt-FRONT_BYTES.false _ (count_is _ _ _ refl c.word-count.ensures) c.if-count-gt-FACES.false c.if-file-asked.true

pub returns-then-file-asked-2 : goal.returns-then-file-asked-2
returns-then-file-asked-2 c =
    length_above _ c.if-file-lt-FRONT_BYTES.false _ (count_is _ _ _ refl c.word-count.ensures) c.if-count-gt-FACES.false c.if-file-asked.false
    c.if-file-asked-2.true

pub returns : goal.returns
returns c =
    length_right _ c.if-file-lt-FRONT_BYTES.false _ (count_is _ _ _ refl c.word-count.ensures) c.if-count-gt-FACES.false c.if-file-asked.false
    c.if-file-asked-2.false
