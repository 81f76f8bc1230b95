-- `scanfile::read_points` meets its contract: every point is tested, then the points are numbered. Assumes nothing.
use mathlib.Core.Path.{refl}
use mathlib.Core.Path.{sym, ◌∙◌}
use Rattle.scanfile.proofs.Reading.{points_of, rows_ready, some_endless, row_long, numbers_room, points_done}
use Rattle.scanfile.proofs.read_points.Goals as goal

pub some_not_finite-requires : goal.some_not_finite-requires
some_not_finite-requires c =
    rows_ready _ _ _ _ c.requires _ (points_of _ _ _ refl c.word.ensures)

pub returns-then-some_not_finite : goal.returns-then-some_not_finite
returns-then-some_not_finite c =
    some_endless _ _ _ _ c.requires _ (points_of _ _ _ refl c.word.ensures)
    (sym c.some_not_finite.ensures ∙ c.if-some_not_finite.true) _ c.refused.ensures

pub slice_bounds-numbers-end : goal.slice_bounds-numbers-end
slice_bounds-numbers-end c =
    (rows_ready _ _ _ _ c.requires _ (points_of _ _ _ refl c.word.ensures)).few

pub slice_bounds-read_numbered-end : goal.slice_bounds-read_numbered-end
slice_bounds-read_numbered-end c =
    sym (row_long _ _ _ _ c.requires _ (points_of _ _ _ refl c.word.ensures))

pub read_numbered-requires : goal.read_numbered-requires
read_numbered-requires c =
    numbers_room _ _ _ _ c.requires _ (points_of _ _ _ refl c.word.ensures)
    (sym c.some_not_finite.ensures ∙ c.if-some_not_finite.false)

pub returns : goal.returns
returns c =
    points_done _ _ _ _ c.requires _ (points_of _ _ _ refl c.word.ensures) _ _ _ _
    c.read_numbered.ensures
