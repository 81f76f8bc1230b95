-- What the rules of scaling and cells come to. Proved in proofs/. Assumes nothing.
use Rattle.std.specs.Prelude.{◌≡◌, false, List, map, ℕ, ◌<◌, T, length, get_or, Float}
use Rattle.std.specs.Float.{nan, binary64}
use Rattle.std.specs.Float.Ieee.{fits}
use Rattle.lists.specs.Lists.{some}
use Rattle.floating.specs.Limits.{unfit, boundless, distant}
use Rattle.floating.specs.Scaling.{scaled_list}
use Rattle.floating.specs.Cells.{cell, compared, place, besides}

-- two points are compared exactly where their cells, as places that are not negative, differ by at most 2 on every axis
abbrev pub ComparedByPlaces : Type 0
ComparedByPlaces =
    (t : Float) (ps qs : List Float) → some (distant t) ps ≡ false → some (distant t) qs ≡ false
    → besides (map (λ (p : Float). place (cell t p)) ps) (map (λ (p : Float). place (cell t p)) qs) ≡ compared t ps qs

-- numbers that an f64 can be
abbrev pub Doubles : List Float → Type 0
Doubles s = (k : ℕ) → k < length s → T (fits binary64 (get_or s k nan))

-- no position that rows 6 and 7 let through reaches 2^53 when it is scaled and divided by the tolerance
abbrev pub ScaledNear : Type 0
ScaledNear =
    (s : List Float)
    → Doubles s
    → some boundless s ≡ false
    → (t : Float)
    → T (fits binary64 t)
    → unfit t ≡ false
    → some (distant t) (scaled_list s) ≡ false
