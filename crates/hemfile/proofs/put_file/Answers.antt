-- `put_file` meets its contract: its four ways out (`Splitting`). Assumes nothing.
use mathlib.Core.Path.{refl}
use Rattle.hemtext.proofs.Texts.{sheeted_as}
use Rattle.hemfile.proofs.Splitting.{long_text, short_text, under_text, split_text}
use Rattle.hemfile.proofs.put_file.Goals as goal

pub returns-then-file-gt-FILE : goal.returns-then-file-gt-FILE
returns-then-file-gt-FILE c = sheeted_as (long_text _ c.if-file-gt-FILE.true) c.put_refusal.ensures

pub returns-then-file-lt-COUNT_BYTES : goal.returns-then-file-lt-COUNT_BYTES
returns-then-file-lt-COUNT_BYTES c = sheeted_as (short_text _ c.if-file-gt-FILE.false c.if-file-lt-COUNT_BYTES.true) c.put_refusal-then-file-lt-COUNT_BYTES.ensures

pub returns-then-file-end : goal.returns-then-file-end
returns-then-file-end c =
    sheeted_as (under_text _ c.if-file-gt-FILE.false c.if-file-lt-COUNT_BYTES.false _ _ _ c.word.ensures refl refl c.if-file-end.true)
    c.put_refusal-then-file-end.ensures

pub returns : goal.returns
returns c =
    sheeted_as
    (split_text _ c.if-file-gt-FILE.false c.if-file-lt-COUNT_BYTES.false _ _ _ c.word.ensures refl refl c.if-file-end.false)
    c.put_panel.ensures
