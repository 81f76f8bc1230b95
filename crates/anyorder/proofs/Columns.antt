-- A column of which only some entries are left, renumbered by first use in the whole: its uses are the renumbered uses of what is left, so
-- that a renumbering by its own uses gives what that gives without the first one, and fetches the same entries. Where all is left, this is
-- compaction's law of a second time. Assumes nothing.
use mathlib.Core.Path.{◌≡◌, sym, ap, ◌∙◌}
use mathlib.Core.Bool.{true, false, not, ◌&&◌}
use mathlib.Core.List.{List, map}
use Prim.Native.Nat.{ℕ, ◌*◌, ◌≤◌}
use lib.ListN.{length, get_or}
use lib.Dec.{eqb}
use lib.Ieee.{Float}
use borrow.Author.Tests.{not-true}
use Rattle.lists.specs.Lists.{has, some}
use Rattle.lists.specs.FirstUses.{place}
use Rattle.lists.proofs.Bools.{by_cases, and_left, and_right}
use Rattle.lists.proofs.Mapping.{map_same}
use Rattle.lists.proofs.Places.{has_get_d, place_map}
use Rattle.mesh.specs.Mesh.{missing}
use Rattle.mesh.specs.Table.{beyond_unless_missing}
use Rattle.unused.specs.Compaction.{uses_of, renumber, entries}
use Rattle.unused.proofs.Uses.{has_uses, uses_below}
use Rattle.unused.proofs.Entries.{entries_again}
use Rattle.unused.proofs.Renumbering.{renumber_missing, renumber_present, used, missing_stays, renumber_same, uses_map}

-- what is used stands in the column and is not missing
module _ (l : List ℕ) (i : ℕ) (h : has i (uses_of l) ≡ true) where
  both : (not (eqb i missing) && has i l) ≡ true
  both = sym (has_uses i l) ∙ h

  used_there : eqb i missing ≡ false
  used_there = not-true (eqb i missing) (and_left (not (eqb i missing)) (has i l) both)

  used_in_lem : has i l ≡ true
  used_in_lem = and_right (not (eqb i missing)) (has i l) both

-- the whole column and what is left of it
module _ (whole left : List ℕ) (few : length (uses_of whole) ≤ missing) (within : (i : ℕ) → has i left ≡ true → has i whole ≡ true) where
  abbrev new : ℕ → ℕ
  new i = renumber (uses_of whole) i

  still_missing : (i : ℕ) → has i left ≡ true → eqb (new i) missing ≡ eqb i missing
  still_missing i h = missing_stays whole few i (within i h)

  still_same : (i j : ℕ) → has i left ≡ true → has j left ≡ true → eqb (new i) (new j) ≡ eqb i j
  still_same i j h g = renumber_same whole few i j (within i h) (within j g)

  uses_left : uses_of (map (renumber (uses_of whole)) left) ≡ map (renumber (uses_of whole)) (uses_of left)
  uses_left = uses_map (renumber (uses_of whole)) left still_missing still_same

  -- two renumberings are one
  pub number_left :
      (i : ℕ) → has i left ≡ true
      → renumber (uses_of (map (renumber (uses_of whole)) left)) (renumber (uses_of whole) i) ≡ renumber (uses_of left) i
  number_left i h =
      ap (λ (us : List ℕ). renumber us (new i)) uses_left
      ∙ by_cases
      (eqb i missing)
      (λ m. renumber_missing (map (renumber (uses_of whole)) (uses_of left)) (new i) (still_missing i h ∙ m) ∙ sym (renumber_missing (uses_of left) i m))
      (λ m.
      renumber_present (map (renumber (uses_of whole)) (uses_of left)) (new i) (still_missing i h ∙ m)
      ∙ place_map (renumber (uses_of whole)) (uses_of left) i (λ j g. still_same i j h (used_in_lem left j g))
      ∙ sym (renumber_present (uses_of left) i m))

  -- the numbers of what is used are its places
  numbers_are_places : map (renumber (uses_of whole)) (uses_of left) ≡ map (place (uses_of whole)) (uses_of left)
  numbers_are_places =
      map_same (renumber (uses_of whole)) (place (uses_of whole)) 0 (uses_of left)
      (λ k h.
      renumber_present (uses_of whole) (get_or (uses_of left) k 0) (used_there left (get_or (uses_of left) k 0) (has_get_d (uses_of left) k h)))

  -- two fetchings are one
  pub entries_left :
      (attrs : List Float) (w count : ℕ) → count * w ≡ length attrs → some (beyond_unless_missing count) whole ≡ false
      → entries w (entries w attrs (uses_of whole)) (uses_of (map (renumber (uses_of whole)) left)) ≡ entries w attrs (uses_of left)
  entries_left attrs w count e b =
      ap (entries w (entries w attrs (uses_of whole))) (uses_left ∙ numbers_are_places)
      ∙ entries_again attrs w count (uses_of whole) e (uses_below count whole b) (uses_of left)
      (λ i h. used whole i (within i (used_in_lem left i h)) (used_there left i h))
