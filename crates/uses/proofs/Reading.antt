-- The columns read at a use: the use itself, and whether the use behind it in the order is one of the same edge. Assumes nothing.
use mathlib.Core.Path.{◌≡◌, sym, ap, ap₂, ◌∙◌}
use mathlib.Core.Bool.{false}
use mathlib.Core.List.{List, map}
use Prim.Native.Nat.{ℕ, ◌+◌, ◌≤◌, ◌<◌}
use lib.ListN.{length, get_or, drop, drop_of_length-le, get_or-map}
use lib.Seq.{drop-cons}
use Rattle.mesh.specs.Edges.{Edge, same, key}
use Rattle.uses.specs.Uses.{lower_of, higher_of, down_of, key_at, goes_on}

-- ---- the columns of a list of edges

module _ (es : List Edge) where
  -- use u
  abbrev pub use_at : ℕ → Edge
  use_at u = get_or es u (0, 0)

  abbrev pub lowers : List ℕ
  lowers = map lower_of es

  abbrev pub highers : List ℕ
  highers = map higher_of es

  abbrev pub downs : List ℕ
  downs = map down_of es

  pub lower_at : (u : ℕ) → get_or lowers u 0 ≡ (key (use_at u)).0
  unfolding key
  lower_at u = get_or-map lower_of es u (0, 0)

  pub higher_at : (u : ℕ) → get_or highers u 0 ≡ (key (use_at u)).1
  unfolding key
  higher_at u = get_or-map higher_of es u (0, 0)

  pub down_at : (u : ℕ) → get_or downs u 0 ≡ down_of (use_at u)
  down_at u = get_or-map down_of es u (0, 0)

  pub key_at_lem : (u : ℕ) → key_at lowers highers u ≡ key (use_at u)
  key_at_lem u = λ i. (lower_at u i, higher_at u i)

-- ---- the use behind a use

module _ (lowers highers order : List ℕ) (i : ℕ) where
  pub next_there :
      (u v : ℕ) → i + 1 < length order → u ≡ get_or order i 0 → v ≡ get_or order (i + 1) 0
      → same (key_at lowers highers u) (key_at lowers highers v) ≡ goes_on lowers highers (get_or order i 0) (drop (i + 1) order)
  unfolding goes_on
  next_there u v h p q =
      ap₂ (λ (a b : ℕ). same (key_at lowers highers a) (key_at lowers highers b)) p q
      ∙ ap (goes_on lowers highers (get_or order i 0)) (sym (drop-cons order (i + 1) 0 h))

  pub next_none : length order ≤ i + 1 → false ≡ goes_on lowers highers (get_or order i 0) (drop (i + 1) order)
  unfolding goes_on
  next_none h = ap (goes_on lowers highers (get_or order i 0)) (sym (drop_of_length-le order h))
