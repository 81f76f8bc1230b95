-- The steps of the code, and no rules: an edge changes the entries of its two ends, each by the other. Assumes nothing.
use Rattle.std.specs.Prelude.{cond, List, [], ◌∷◌, ℕ, ◌+◌, ◌<◌, eqb, length, get_or, set}
use Rattle.mesh.specs.Limits.{largest}
use Rattle.mesh.specs.Mesh.{missing}
use Rattle.verdicts.specs.Edges.{Edge}
use Rattle.around.specs.Rows.{edge_at}

module _ {A : Type 0} (d : A) (step : ℕ → ℕ → A → A) where
  -- the entry of v is changed by w; those of both ends of an edge; and so for each edge of a list
  abbrev pub one : ℕ → ℕ → List A → List A
  one v w l = set l v (step v w (get_or l v d))

  abbrev pub both : Edge → List A → List A
  both k l = one k.1 k.0 (one k.0 k.1 l)

  abbrev pub passed : List Edge → List A → List A
  passed [] l = l
  passed (k ∷ ks) l = passed ks (both k l)

-- ---- how many neighbours

-- whoever it is, there is one more
abbrev pub one_more : ℕ → ℕ → ℕ → ℕ
one_more v w n = n + 1

-- entries for a and b, to which 1 can be added
pub record CountAt (a b : ℕ) (l : List ℕ) : Type 0 where
  pub ordered : a < b
  pub below : b < length l
  pub lower_fits : get_or l a 0 < largest
  pub higher_fits : get_or l b 0 < largest

-- ---- neighbours along a hem

-- what stands at an entry, or w where it was missing; and the same of a second entry, where the first was there already
unfoldable pub filled : ℕ → ℕ → ℕ
filled x w = cond (eqb x missing) w x

unfoldable pub second_filled : ℕ → ℕ → ℕ → ℕ
second_filled x y w = cond (eqb x missing) y (filled y w)

-- a list of first neighbours and one of second; v gets w; and each end of an edge gets the other
abbrev pub Hems : Type 0
Hems = List ℕ × List ℕ

abbrev pub given : ℕ → ℕ → Hems → Hems
given v w h = (
  set h.0 v (filled (get_or h.0 v 0) w),
  set h.1 v (second_filled (get_or h.0 v 0) (get_or h.1 v 0) w),
)

abbrev pub given_both : Edge → Hems → Hems
given_both k h = given k.1 k.0 (given k.0 k.1 h)

-- edge e, where it has one wing
unfoldable pub given_at : List ℕ → List ℕ → List ℕ → ℕ → Hems → Hems
given_at ls hs ws e h = cond (eqb 1 (get_or ws e 0)) (given_both (edge_at ls hs e) h) h

-- entries for v
pub record Entries (v : ℕ) (first second : List ℕ) : Type 0 where
  pub first_below : v < length first
  pub second_below : v < length second

-- entries for both ends of edge e
pub record HemAt (ls hs ws : List ℕ) (e : ℕ) (first second : List ℕ) : Type 0 where
  pub lower_below : e < length ls
  pub higher_below : e < length hs
  pub wings_below : e < length ws
  pub at_lower : Entries (get_or ls e 0) first second
  pub at_higher : Entries (get_or hs e 0) first second
