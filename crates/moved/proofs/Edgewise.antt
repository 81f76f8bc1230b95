-- The share of an edge and the position on it, case by case. Assumes nothing.
use Rattle.std.proofs.Common.{◌≡◌, ℕ, List, get_or, eq-eqb, ne_eqb, Float}
use lib.Ieee.{binary64, of_bits, sub}
use Rattle.lists.proofs.Others.{eqb_flip}
use Rattle.mesh.specs.Mesh.{missing}
use Rattle.floating.specs.Points.{coordinates}
use Rattle.floating.specs.Scaling.{axes2}
use Rattle.floating.specs.declared.Point.{Point}
use Rattle.smoothed.specs.Positions.{axes, cosine, spread, quartered, five_eighths}
use Rattle.moved.specs.Axis.{halfway, winged, axes4}
use Rattle.moved.specs.Rows.{share_at, middle_at}
use Rattle.moved.proofs.Literals.{half_is}
use Rattle.moved.proofs.Taking.{here}

module _ (ds second : List ℕ) (ones : List Float) (v w : ℕ) where
  pub share_first :
      (k r : Float) → (get_or second v 0 ≡ missing → ⊥) → k ≡ cosine ones (get_or ds v 0) → r ≡ sub binary64 five_eighths (quartered k)
      → r ≡ share_at ds second ones v w
  unfolding share_at
  share_first k r h i j = rw (j, i, ne_eqb (get_or second v 0) missing h)

  pub share_second :
      (k r : Float) → get_or second v 0 ≡ missing → (get_or second w 0 ≡ missing → ⊥) → k ≡ cosine ones (get_or ds w 0) → r ≡ spread k
      → r ≡ share_at ds second ones v w
  unfolding share_at
  share_second k r h g i j = rw (j, i, eq-eqb (get_or second v 0) missing h, ne_eqb (get_or second w 0) missing g)

  pub share_inner :
      get_or second v 0 ≡ missing → get_or second w 0 ≡ missing → of_bits binary64 0x3fe0_0000_0000_0000 ≡ share_at ds second ones v w
  unfolding share_at
  share_inner h g = rw (eq-eqb (get_or second v 0) missing h, eq-eqb (get_or second w 0) missing g) half_is

module _ (ps : List Float) (lowers highers firsts seconds wings ds second : List ℕ) (ones : List Float) (e : ℕ) where
  abbrev result : List Float
  result = axes (λ a. middle_at ps lowers highers firsts seconds wings ds second ones a e)

  pub middle_single :
      (p q r : Point) → get_or wings e 0 ≡ 1 → p ≡ here ps (get_or lowers e 0) → q ≡ here ps (get_or highers e 0) → r ≡ axes2 halfway p q
      → coordinates r ≡ result
  unfolding middle_at
  middle_single p q r h i j k = rw (k, i, j, eqb_flip 1 (get_or wings e 0), eq-eqb (get_or wings e 0) 1 h)

  pub middle_winged :
      (p q f s r : Point) (d : Float) → (get_or wings e 0 ≡ 1 → ⊥) → p ≡ here ps (get_or lowers e 0) → q ≡ here ps (get_or highers e 0)
      → f ≡ here ps (get_or firsts e 0) → s ≡ here ps (get_or seconds e 0) → d ≡ share_at ds second ones (get_or lowers e 0) (get_or highers e 0)
      → r ≡ axes4 (winged d) p q f s → coordinates r ≡ result
  unfolding middle_at
  middle_winged p q f s r d h i j k l m n = rw (n, i, j, k, l, m, eqb_flip 1 (get_or wings e 0), ne_eqb (get_or wings e 0) 1 h)
