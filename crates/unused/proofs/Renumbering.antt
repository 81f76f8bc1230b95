-- Renumbering one column: it is one-to-one, its numbers are below the count of uses, and the uses of a column whose numbers are
-- changed one-to-one are the changed uses. Assumes nothing.
use mathlib.Core.Path.{◌≡◌, sym, ap, ◌∙◌}
use mathlib.Core.Bool.{true, false, not, ◌&&◌}
use mathlib.Core.List.{List, map}
use Prim.Native.Nat.{ℕ, ◌≤◌, ◌<◌}
use native.Mathlib.Omega.{arith}
use lib.ListN.{length, get_or}
use lib.Dec.{eqb, leb}
use borrow.Author.Tests.{eqb-true, eqb-false, eq-eqb, ne_eqb, lt-leb, not-true}
use Rattle.lists.specs.Lists.{has, only}
use Rattle.lists.specs.FirstUses.{first_uses, place}
use Rattle.lists.proofs.Bools.{by_cases, and_left, and_right, and_false_right}
use Rattle.lists.proofs.Only.{some_only}
use Rattle.lists.proofs.Mapping.{map_same, only_map}
use Rattle.lists.proofs.Changing.{only_same}
use Rattle.lists.proofs.FirstUses.{has_map, first_uses-map}
use Rattle.lists.proofs.Places.{place_below, place_one, has_get_d, place-get_or, place_map}
use Rattle.mesh.specs.Mesh.{missing}
use Rattle.mesh.specs.Table.{beyond_unless_missing}
use Rattle.unused.specs.Compaction.{present, uses_of, renumber}
use Rattle.unused.proofs.Uses.{has_uses, uses_once}

-- ---- the number of one index

module _ (us : List ℕ) (i : ℕ) where
  pub renumber_missing : eqb i missing ≡ true → renumber us i ≡ missing
  unfolding renumber
  renumber_missing m = rw m

  pub renumber_present : eqb i missing ≡ false → renumber us i ≡ place us i
  unfolding renumber
  renumber_present m = rw m

-- an index of a column is missing or used
pub used : (l : List ℕ) (i : ℕ) → has i l ≡ true → eqb i missing ≡ false → has i (uses_of l) ≡ true
used l i h m = has_uses i l ∙ rw (m, h)

module _ (l : List ℕ) (few : length (uses_of l) ≤ missing) where
  -- so its new number is below their count, or missing as it was
  pub renumber_below : (i : ℕ) → has i l ≡ true → eqb i missing ≡ false → renumber (uses_of l) i < length (uses_of l)
  renumber_below i h m = rw (renumber_present (uses_of l) i m) (place_below (uses_of l) i (used l i h m))

  pub renumber_within : (i : ℕ) → has i l ≡ true → beyond_unless_missing (length (uses_of l)) (renumber (uses_of l) i) ≡ false
  renumber_within i h =
      by_cases
      (eqb i missing)
      (λ m. rw (renumber_missing (uses_of l) i m))
      (λ m.
      and_false_right (not (eqb (renumber (uses_of l) i) missing)) (leb (length (uses_of l)) (renumber (uses_of l) i))
      (lt-leb (length (uses_of l)) (renumber (uses_of l) i) (renumber_below i h m)))

  pub missing_stays : (i : ℕ) → has i l ≡ true → eqb (renumber (uses_of l) i) missing ≡ eqb i missing
  missing_stays i h =
      by_cases
      (eqb i missing)
      (λ m. rw (renumber_missing (uses_of l) i m, m))
      (λ m.
      let b : renumber (uses_of l) i < length (uses_of l) = renumber_below i h m in
      ne_eqb (renumber (uses_of l) i) missing (λ e. omega arith) ∙ sym m)

  -- equal numbers stay equal and different ones different
  pub renumber_one : (i j : ℕ) → has i l ≡ true → has j l ≡ true → renumber (uses_of l) i ≡ renumber (uses_of l) j → i ≡ j
  renumber_one i j h k e =
      let s : eqb i missing ≡ eqb j missing = sym (missing_stays i h) ∙ ap (λ (n : ℕ). eqb n missing) e ∙ missing_stays j k in
      by_cases
      (eqb i missing)
      (λ m. eqb-true i missing m ∙ sym (eqb-true j missing (sym s ∙ m)))
      (λ m.
      let n : eqb j missing ≡ false = sym s ∙ m in
      place_one (uses_of l) i j (used l i h m) (used l j k n)
      (sym (renumber_present (uses_of l) i m) ∙ e ∙ renumber_present (uses_of l) j n))

  pub renumber_same :
      (i j : ℕ) → has i l ≡ true → has j l ≡ true → eqb (renumber (uses_of l) i) (renumber (uses_of l) j) ≡ eqb i j
  renumber_same i j h k =
      by_cases
      (eqb i j)
      (λ e. eq-eqb (renumber (uses_of l) i) (renumber (uses_of l) j) (ap (renumber (uses_of l)) (eqb-true i j e)) ∙ sym e)
      (λ e. ne_eqb (renumber (uses_of l) i) (renumber (uses_of l) j) (λ q. eqb-false i j e (renumber_one i j h k q)) ∙ sym e)

-- ---- numbers that are changed one-to-one, and the missing mark only to itself

-- the uses of the changed are the changed uses
pub uses_map :
    (f : ℕ → ℕ) (l : List ℕ) → ((i : ℕ) → has i l ≡ true → eqb (f i) missing ≡ eqb i missing)
    → ((i j : ℕ) → has i l ≡ true → has j l ≡ true → eqb (f i) (f j) ≡ eqb i j) → uses_of (map f l) ≡ map f (uses_of l)
uses_map f l m s =
    ap first_uses (only_map f present l ∙ ap (map f) (only_same (λ i. present (f i)) present l (λ i h. ap not (m i h))))
    ∙ first_uses-map f (only present l) (λ i j h k. s i j (some_only present (eqb i) l h) (some_only present (eqb j) l k))

-- ---- a second time

module _ (l : List ℕ) (few : length (uses_of l) ≤ missing) where
  -- the uses of the renumbered column
  pub uses_again : uses_of (map (renumber (uses_of l)) l) ≡ map (renumber (uses_of l)) (uses_of l)
  uses_again = uses_map (renumber (uses_of l)) l (missing_stays l few) (renumber_same l few)

  -- a second renumbering changes nothing
  pub renumber_again :
      (i : ℕ) → has i l ≡ true
      → renumber (uses_of (map (renumber (uses_of l)) l)) (renumber (uses_of l) i) ≡ renumber (uses_of l) i
  renumber_again i h =
      let f = renumber (uses_of l) in
      ap (λ (us : List ℕ). renumber us (f i)) uses_again
      ∙ by_cases
      (eqb i missing)
      (λ m.
      let e : f i ≡ missing = renumber_missing (uses_of l) i m in
      renumber_missing (map f (uses_of l)) (f i) (missing_stays l few i h ∙ m) ∙ sym e)
      (λ m.
      renumber_present (map f (uses_of l)) (f i) (missing_stays l few i h ∙ m)
      ∙ place_map f (uses_of l) i
      (λ j g. renumber_same l few i j h (and_right (not (eqb j missing)) (has j l) (sym (has_uses j l) ∙ g)))
      ∙ sym (renumber_present (uses_of l) i m))

-- ---- the new numbers

-- every number below the count of uses is a new number
pub every_number : (l : List ℕ) (n : ℕ) → n < length (uses_of l) → has n (map (renumber (uses_of l)) l) ≡ true
every_number l n h =
    let us = uses_of l in
    let u = get_or us n 0 in
    let i : has u us ≡ true = has_get_d us n h in
    let j : (not (eqb u missing) && has u l) ≡ true = sym (has_uses u l) ∙ i in
    let e : renumber us u ≡ n =
    renumber_present us u (not-true (eqb u missing) (and_left (not (eqb u missing)) (has u l) j))
    ∙ place-get_or us n (uses_once l) h in
    ap (λ (k : ℕ). has k (map (renumber us) l)) (sym e)
    ∙ has_map (renumber us) u l (and_right (not (eqb u missing)) (has u l) j)

-- what is used is not missing, so its number is its place
pub renumber_uses : (l : List ℕ) → map (renumber (uses_of l)) (uses_of l) ≡ map (place (uses_of l)) (uses_of l)
renumber_uses l =
    let us = uses_of l in
    map_same (renumber us) (place us) 0 us
    (λ k h.
    let u = get_or us k 0 in
    let j : (not (eqb u missing) && has u l) ≡ true = sym (has_uses u l) ∙ has_get_d us k h in
    renumber_present us u (not-true (eqb u missing) (and_left (not (eqb u missing)) (has u l) j)))
