-- By the mark of the face: it is listed, or it is listed and pushed now. Assumes nothing.
use Rattle.std.proofs.Common.{refl}
use Rattle.connected.proofs.Walking.{fits_at, pushes_at}
use Rattle.searching.proofs.search.visit.Goals as goal

pub bounds-stack-top : goal.bounds-stack-top
bounds-stack-top c =
    (fits_at _ _ _ _ _ _ _ c.requires.listing c.requires.face _ refl c.if-seen-i-ne0.false).1

pub bounds-flat-n : goal.bounds-flat-n
bounds-flat-n c =
    (fits_at _ _ _ _ _ _ _ c.requires.listing c.requires.face _ refl c.if-seen-i-ne0.false).0

pub returns : goal.returns
returns c =
    pushes_at _ _ _ _ _ _ _ c.requires.listing c.requires.face _ refl c.if-seen-i-ne0.false
