-- The steps of the functions: the rows by which a hem turns one after the other, the places that are kept, and the wires from them.
-- Assumes nothing.
use mathlib.Core.Path.{◌≡◌, sym, ap, ap₂, ◌∙◌, subst}
use mathlib.Core.List.{List}
use Prim.Native.Nat.{ℕ, ◌≤◌}
use native.Mathlib.Omega.{arith}
use lib.ListN.{length, take}
use lib.Seq.{sets, length-sets, length-take-le}
use Rattle.lists.proofs.Copies.{sets_whole, take_written}
use Rattle.lists.proofs.Only.{only_length}
use Rattle.sorting.specs.Sorting.{sorted_by}
use Rattle.sorting.proofs.Laws.{sorted_length}
use Rattle.tracing.specs.Hems.{Written}
use Rattle.crossing.specs.Crossing.{after_row, alone, FollowRoom}
use Rattle.trailing.specs.Trailing.{wires_by, AllLeft}
use Rattle.hemming.specs.Rows.{twins_of, Turnable, hem_places, Kept, by_start, wires_from, Beginning, wires_in, Traceable}

-- ---- how a hem turns

module _
    {s l h d order after twins after' twins' : List ℕ} (p : Turnable s l h d order after twins) (a : after' ≡ after_row s)
    (t : twins' ≡ twins_of l h order twins) where
  pub follow_room : FollowRoom after' twins' d
  follow_room = rw (a, t) (record { rows = p.crossable; room = p.follow_room })

-- ---- the order by start, and the wires from the places in it

module _
    {n : ℕ} {starts kept sorted follows left flat lengths sorted' : List ℕ} (p : Beginning n starts kept sorted follows left flat lengths)
    (b : sorted' ≡ sets sorted 0 (sorted_by n starts kept)) where
  sorted_are : sorted' ≡ by_start n starts kept
  unfolding by_start
  sorted_are =
      b ∙ sets_whole sorted (sorted_by n starts kept) (sorted_length n starts kept p.sortable.keyed.below ∙ sym p.whole)

  pub rows_left : AllLeft starts follows left sorted' flat lengths
  rows_left = rw sorted_are p.all_left

  pub rows_written :
      {flat' lengths' : List ℕ} {numbers wires : ℕ} → Written (wires_by starts follows sorted' left) flat lengths flat' lengths' numbers wires
      → Written (wires_from n starts kept follows left) flat lengths flat' lengths' numbers wires
  unfolding wires_from
  rows_written {flat'} {lengths'} {numbers} {wires} w =
      subst (λ (ws : List (List ℕ)). Written ws flat lengths flat' lengths' numbers wires) (ap (λ (l : List ℕ). wires_by starts follows l left) sorted_are) w

-- ---- the hem places, and the wires from them

module _
    {cs : List ℕ} {n : ℕ} {order starts sorted kept follows left flat lengths starts' kept' : List ℕ} {m : ℕ}
    (p : Traceable cs n order starts sorted kept follows left flat lengths) (k : Kept cs (hem_places left order) starts kept 0 starts' kept' m) where
  few : length (hem_places left order) ≤ length order
  unfolding hem_places
  few = only_length (alone left) order

  -- there are no more of them than the rows have room for
  pub hems_fit : m ≤ length kept'
  hems_fit =
      let a : length kept' ≡ length kept = ap length k.places_are ∙ length-sets kept 0 (hem_places left order) in
      omega (arith, few, k.count_is, p.keeping.room)

  pub hems_sort : m ≤ length sorted
  hems_sort = omega (arith, few, k.count_is, p.room)

  places_are : take m kept' ≡ hem_places left order
  places_are =
      ap (take m) k.places_are
      ∙ take_written kept (hem_places left order) m (omega (arith, k.count_is)) (omega (arith, few, k.count_is, p.keeping.room))

  pub rows_begin : Beginning n starts' (take m kept') (take m sorted) follows left flat lengths
  rows_begin =
      rw (places_are, k.starts_are)
      (p.beginning (take m sorted) (let a : length (take m sorted) ≡ m = length-take-le m sorted hems_sort in omega (arith, k.count_is)))

  pub rows_traced :
      {flat' lengths' : List ℕ} {numbers wires : ℕ} → Written (wires_from n starts' (take m kept') follows left) flat lengths flat' lengths' numbers wires
      → Written (wires_in cs n order starts follows left) flat lengths flat' lengths' numbers wires
  rows_traced {flat'} {lengths'} {numbers} {wires} w =
      subst (λ (ws : List (List ℕ)). Written ws flat lengths flat' lengths' numbers wires)
      (ap₂ (λ (a b : List ℕ). wires_from n a b follows left) k.starts_are places_are) w
