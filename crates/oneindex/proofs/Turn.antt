-- One column of one corner: what the code finds in its map, and what it leaves, in each of the three cases. Assumes nothing.
use mathlib.Core.Path.{◌≡◌, refl, sym, ap, ◌∙◌}
use mathlib.Core.Bool.{true, false, cond, ◌||◌}
use mathlib.Core.List.{List, [], ◌∷◌, ◌++◌}
use Prim.Native.Nat.{ℕ, zero, suc, ◌+◌, ◌*◌, ◌/◌, ◌≤◌, ◌<◌}
use native.Mathlib.Nat.{zero-add}
use native.Mathlib.Numerals.{add-one}
use native.Mathlib.Omega.{arith}
use lib.ListN.{length, get_or, take, drop, set, length-append, length-set, length-map, get_or-map, take-append-drop, replicate, length-replicate, get_or-replicate}
use lib.Seq.{sets, take-suc, get_or-set_same, get_or-set_other}
use lib.Dec.{eqb}
use lib.Ieee.{Float}
use borrow.Author.Tests.{eqb-true, eqb-false, eq-eqb, ne_eqb, leb-false}
use Rattle.lists.specs.Lists.{some, has}
use Rattle.lists.specs.FirstUses.{place}
use Rattle.lists.proofs.Bools.{by_cases}
use Rattle.lists.proofs.Parts.{some_take, some_false_at}
use Rattle.lists.proofs.Writing.{sets_append}
use Rattle.lists.proofs.Members.{has_snoc}
use Rattle.lists.proofs.Others.{eqb_self}
use Rattle.lists.proofs.Places.{place_below, place_append, place_new}
use Rattle.mesh.specs.Limits.{width, entry_limit}
use Rattle.mesh.specs.Mesh.{Corner, missing, corners_in, corner_at}
use Rattle.mesh.specs.Table.{beyond_unless_missing}
use Rattle.mesh.proofs.Corners.{length-corners_in, get_or-corners_in}
use Rattle.unused.specs.Compaction.{uses_of, renumber, entry_at, entries}
use Rattle.unused.specs.Working.{column, Pointed}
use Rattle.oneindex.specs.Working.{index_at, uses_to, Tables, Before, Taken}
use Rattle.unused.proofs.Uses.{uses_append, uses_more_missing, uses_more_old, uses_more_new, uses_below, uses_few}
use Rattle.unused.proofs.Entries.{entry_within, length_entries, entries_more}

-- ---- the column, index by index

pub length_column : (q : ℕ) (cs : List ℕ) → length (column q cs) ≡ length cs / width
length_column q cs = length-map (corners_in cs) (λ (c : Corner). get_or c q 0) ∙ length-corners_in cs

at_corner : (q : ℕ) (cs : List ℕ) (k : ℕ) → q < width → get_or (corner_at cs k) q 0 ≡ index_at cs k q
at_corner zero cs k h = ap (λ (i : ℕ). get_or cs i 0) (omega arith)
at_corner (suc zero) cs k h = refl
at_corner (suc (suc zero)) cs k h = refl
at_corner (suc (suc (suc zero))) cs k h = refl
at_corner (suc (suc (suc (suc q)))) cs k h = absurd (omega arith)

pub get_or-column : (q : ℕ) (cs : List ℕ) (k : ℕ) → q < width → k < length cs / width → get_or (column q cs) k 0 ≡ index_at cs k q
get_or-column q cs k h l =
    get_or-map (λ (c : Corner). get_or c q 0) (corners_in cs) k []
    ∙ ap (λ (c : Corner). get_or c q 0) (get_or-corners_in cs k l)
    ∙ at_corner q cs k h

-- one index more is read
pub column_more :
    (q : ℕ) (cs : List ℕ) (k : ℕ) → q < width → k < length cs / width
    → take (k + 1) (column q cs) ≡ take k (column q cs) ++ (index_at cs k q ∷ [])
column_more q cs k h l =
    let n : k < length (column q cs) = rw (length_column q cs) l in
    rw (add-one k, take-suc (column q cs) k 0 n, get_or-column q cs k h l)

-- what the whole column uses begins with what its first k use
uses_rest : (l : List ℕ) (k : ℕ) → (v : List ℕ) × (uses_of l ≡ uses_of (take k l) ++ v)
uses_rest l k = (_, ap uses_of (sym (take-append-drop k l)) ∙ uses_append (take k l) (drop k l))

-- so an index that they use has its number already
pub number_early :
    (l : List ℕ) (k i : ℕ) → has i (uses_of (take k l)) ≡ true → place (uses_of l) i ≡ place (uses_of (take k l)) i
number_early l k i h =
    let r = uses_rest l k in
    ap (λ (us : List ℕ). place us i) r.1 ∙ place_append (uses_of (take k l)) r.0 i h

-- ---- the entries that the first corners use

module _ {attrs : List Float} {w : ℕ} {cs : List ℕ} {q : ℕ} (p : Pointed attrs w cs q) where
  early : (n : ℕ) → some (beyond_unless_missing p.count) (take n (column q cs)) ≡ false
  early n = some_take (beyond_unless_missing p.count) n (column q cs) p.within

  -- no more are used than there are
  pub uses_within : (n : ℕ) → length (uses_to q cs n) ≤ p.count
  uses_within n = uses_few p.count (take n (column q cs)) (early n)

  -- and each is w numbers
  length_used : (n : ℕ) → length (entries w attrs (uses_to q cs n)) ≡ length (uses_to q cs n) * w
  length_used n =
      length_entries attrs w p.count (uses_to q cs n) p.whole (uses_below p.count (take n (column q cs)) (early n))

  -- an index that is not missing is below the count
  index_below : (k : ℕ) → k < length cs / width → eqb (index_at cs k q) missing ≡ false → index_at cs k q < p.count
  index_below k h m =
      let i = index_at cs k q in
      let l : k < length (column q cs) = rw (length_column q cs) h in
      let e : beyond_unless_missing p.count i ≡ false =
      ap (beyond_unless_missing p.count) (sym (get_or-column q cs k p.is_column h))
      ∙ some_false_at (beyond_unless_missing p.count) 0 (column q cs) k p.within l in
      leb-false p.count i (rw m at e)

-- ---- a turn

module _
    {attrs : List Float} {w : ℕ} {cs : List ℕ} {k q : ℕ} {old2new : List ℕ} {used : ℕ} {fresh : List Float} {out : List ℕ}
    (b : Before attrs w cs k q old2new used fresh out) where
  there : k < length cs / width
  there = omega (arith, b.corner)

  uses_are : uses_to q cs (k + 1) ≡ uses_of (take k (column q cs) ++ (index_at cs k q ∷ []))
  uses_are = ap uses_of (column_more q cs k b.pointed.is_column there)

  -- nothing changes but the corner
  unchanged :
      (n : ℕ) → uses_to q cs (k + 1) ≡ uses_to q cs k → n ≡ renumber (uses_of (column q cs)) (index_at cs k q)
      → Taken attrs w cs k q old2new used fresh fresh out (set out (width * k + q) n)
  unchanged n u e = record {
    tables = rw u b.tables;
    grown = λ l f. f ∙ ap (λ (us : List ℕ). sets l 0 (entries w attrs us)) (sym u);
    numbered = ap (set out (width * k + q)) e;
  }

  -- a missing index stays missing
  pub turn_missing :
      index_at cs k q ≡ missing → Taken attrs w cs k q old2new used fresh fresh out (set out (width * k + q) (index_at cs k q))
  unfolding renumber
  turn_missing e =
      let m : eqb (index_at cs k q) missing ≡ true = eq-eqb (index_at cs k q) missing e in
      unchanged (index_at cs k q)
      (uses_are ∙ uses_more_missing (take k (column q cs)) (index_at cs k q) m)
      (rw m e)

  module _ (pr : index_at cs k q ≡ missing → ⊥) where
    present : eqb (index_at cs k q) missing ≡ false
    present = ne_eqb (index_at cs k q) missing pr

    pub index_few : index_at cs k q < entry_limit
    index_few = omega (arith, index_below b.pointed k there present, b.pointed.few)

    found :
        get_or old2new (index_at cs k q) 0 ≡ cond (has (index_at cs k q) (uses_to q cs k)) (place (uses_to q cs k) (index_at cs k q)) missing
    found = b.tables.mapped (index_at cs k q) index_few

    -- one that was used before has the number that the map says
    pub turn_old :
        (get_or old2new (index_at cs k q) 0 ≡ missing → ⊥)
        → Taken attrs w cs k q old2new used fresh fresh out (set out (width * k + q) (get_or old2new (index_at cs k q) 0))
    unfolding renumber
    turn_old f =
        by_cases (has (index_at cs k q) (uses_to q cs k))
        (λ o.
        unchanged (get_or old2new (index_at cs k q) 0)
        (uses_are ∙ uses_more_old (take k (column q cs)) (index_at cs k q) present o)
        (found ∙ rw (o, present) (sym (number_early (column q cs) k (index_at cs k q) o))))
        (λ o. absurd (f (found ∙ rw o)))

    -- one whose number is not in the map is used for the first time
    module _ (f : get_or old2new (index_at cs k q) 0 ≡ missing) where
      is_new : has (index_at cs k q) (uses_to q cs k) ≡ false
      is_new =
          by_cases (has (index_at cs k q) (uses_to q cs k))
          (λ o.
          let e : missing ≡ place (uses_to q cs k) (index_at cs k q) = sym f ∙ found ∙ rw o in
          let l : place (uses_to q cs k) (index_at cs k q) < length (uses_to q cs k) =
          place_below (uses_to q cs k) (index_at cs k q) o in
          let n : length (uses_to q cs k) ≤ b.pointed.count = uses_within b.pointed k in
          absurd (omega (arith, b.pointed.few)))
          (λ o. o)

      grows : uses_to q cs (k + 1) ≡ uses_to q cs k ++ (index_at cs k q ∷ [])
      grows = uses_are ∙ uses_more_new (take k (column q cs)) (index_at cs k q) present is_new

      one_more : length (uses_to q cs (k + 1)) ≡ used + 1
      one_more = omega (arith, ap length grows, length-append (uses_to q cs k) (index_at cs k q ∷ []), b.tables.counted)

      -- there is room for its entry, in the old list and in the new
      pub used_few : used < b.pointed.count
      used_few = omega (arith, one_more, uses_within b.pointed (k + 1))

      pub entry_old : index_at cs k q * w + w ≤ length attrs
      entry_old =
          entry_within attrs w b.pointed.count (index_at cs k q) (index_below b.pointed k there present) b.pointed.whole

      pub entry_new : used * w + w ≤ length fresh
      entry_new = omega (arith, entry_within attrs w b.pointed.count used used_few b.pointed.whole, b.room)

      -- the map with the new number in it
      remapped :
          (y : ℕ) → y < entry_limit
          → get_or (set old2new (index_at cs k q) used) y 0 ≡ cond (has y (uses_to q cs (k + 1))) (place (uses_to q cs (k + 1)) y) missing
      remapped y l =
          let us = uses_to q cs k in
          let i = index_at cs k q in
          let t : has y (us ++ (i ∷ [])) ≡ (eqb y i || has y us) = has_snoc y i us in
          let g : (i < length old2new) = omega (arith, index_few, b.tables.wide) in
          by_cases (eqb y i)
          (λ e.
          let j : y ≡ i = eqb-true y i e in
          ap (λ (n : ℕ). get_or (set old2new i used) n 0) j ∙ get_or-set_same old2new i used 0 g
          ∙ b.tables.counted ∙ sym (place_new us i is_new)
          ∙ rw (grows, t, e) (ap (place (us ++ (i ∷ []))) (sym j)))
          (λ e.
          get_or-set_other old2new i y used 0 (eqb-false y i e) ∙ b.tables.mapped y l
          ∙ by_cases (has y us)
          (λ o. rw (grows, t, e, o) (sym (place_append us (i ∷ []) y o)))
          (λ o. rw (grows, t, e, o)))

      pub turn_new :
          Taken attrs w cs k q (set old2new (index_at cs k q) used) (used + 1)
          fresh (sets fresh (used * w) (entry_at w attrs (index_at cs k q)))
          out (set out (width * k + q) used)
      unfolding renumber
      turn_new =
          let us = uses_to q cs k in
          let i = index_at cs k q in
          let n : length (entries w attrs us) ≡ used * w =
          length_used b.pointed k ∙ ap (λ (j : ℕ). j * w) (sym b.tables.counted) in
          record {
            tables = record { counted = sym one_more; wide = length-set old2new i used ∙ b.tables.wide; mapped = remapped };
            grown = λ l e.
                ap (λ (t : List Float). sets t (used * w) (entry_at w attrs i)) e
                ∙ ap (λ (j : ℕ). sets (sets l 0 (entries w attrs us)) j (entry_at w attrs i))
                (sym (zero-add (length (entries w attrs us)) ∙ n))
                ∙ sym (sets_append l 0 (entries w attrs us) (entry_at w attrs i))
                ∙ ap (sets l 0) (sym (entries_more attrs w us i))
                ∙ ap (λ (t : List ℕ). sets l 0 (entries w attrs t)) (sym grows);
            numbered =
                let o : has i (uses_to q cs (k + 1)) ≡ true = ap (has i) grows ∙ has_snoc i i us ∙ rw (eqb_self i) in
                ap (set out (width * k + q))
                (b.tables.counted ∙ sym (place_new us i is_new) ∙ ap (λ (t : List ℕ). place t i) (sym grows)
                ∙ sym (number_early (column q cs) (k + 1) i o) ∙ rw present);
          }

-- ---- before the first turn: nothing is used, and the map says missing of all

pub tables_begin : Tables [] (replicate entry_limit missing) 0
tables_begin = record { counted = refl; wide = length-replicate entry_limit missing; mapped = λ y l. get_or-replicate entry_limit y missing 0 l }
