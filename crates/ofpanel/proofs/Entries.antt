-- The columns of uses and hems: how they are put, that they can be sorted, and what the marks of the sort come to. Assumes nothing.
use mathlib.Core.Path.{◌≡◌, refl, sym, ap, ap₂, ◌∙◌, subst}
use mathlib.Core.Logic.{⊎_elim}
use mathlib.Core.Bool.{Bool, true, false, cond, ◌&&◌}
use mathlib.Core.List.{List, [], ◌++◌, map, append-nil}
use Prim.Native.Nat.{ℕ, ◌+◌, ◌-◌, ◌/◌, ◌≤◌, ◌<◌}
use native.Mathlib.Nat.{le_of_eq}
use native.Mathlib.Omega.{arith}
use lib.Dec.{ltb, eqb}
use lib.ListN.{length, get_or, take, drop, set, replicate, length-map, length-append, length-drop, drop_of_length-le, get_or-append, get_or-replicate}
use lib.Seq.{get_or-append-add, get_or-take, length-take-le, take_at}
use borrow.Author.Tests.{lt-ltb, le-ltb, eqb-true, eq-eqb, ne_eqb}
use Rattle.lists.specs.Lists.{sum}
use Rattle.lists.specs.Numbers.{next_of}
use Rattle.lists.specs.Cutting.{parts}
use Rattle.lists.proofs.Bools.{and_left, and_right}
use Rattle.lists.proofs.Buckets.{lt_or_ge, length_front}
use Rattle.lists.proofs.Changing.{map_at}
use Rattle.lists.proofs.Copies.{front_turns, sets_whole, length_part}
use Rattle.lists.proofs.Counting.{clash}
use Rattle.lists.proofs.Cutting.{length_parts, parts_at}
use Rattle.lists.proofs.Parts.{sum_step, sum_at}
use Rattle.lists.proofs.Writing.{Copying, copy_begins, copy_ends}
use Rattle.mesh.specs.Limits.{width, entry_limit, corner_numbers}
use Rattle.mesh.specs.Mesh.{Ring, rings}
use Rattle.edges.specs.Edges.{Edge}
use Rattle.tracing.specs.Answers.{corner_count}
use Rattle.sorting.specs.Sorting.{key_limit, number_limit}
use Rattle.columns.proofs.Using.{ring_at}
use Rattle.keys.specs.Keys.{Use, uses_from}
use Rattle.keys.specs.Columns.{normal_digit, entry_of, column, Keyable, ColumnRoom}
use Rattle.keys.specs.Firsts as keys
use Rattle.keys.proofs.Valid.{uses_good, faces_good, key_columns, uses_corners}
use Rattle.hemlist.specs.HemList.{first_edge_lem}
use Rattle.ofpanel.specs.Steps.{entry_room, picked, end_of, hem_end, entries, Wire, HemRoom, EntryRoom, FindRoom, FindRows, Found}

-- ---- one end of the first edge of a wire

pub picked_lower : (which lower higher : ℕ) → which ≡ 0 → lower ≡ picked which lower higher
picked_lower which lower higher e = rw (eq-eqb which 0 e)

pub picked_higher : (which lower higher : ℕ) → (which ≡ 0 → ⊥) → higher ≡ picked which lower higher
picked_higher which lower higher e = rw (ne_eqb which 0 e)

module _ (which : ℕ) (wire : List ℕ) (w : Wire wire) (b r : ℕ) (e : b ≡ next_of 0 (length wire)) where
  first_edge : first_edge_lem wire ≡ (get_or wire 0 0, get_or wire b 0)
  first_edge = ring_at 0 wire 0 w.some ∙ ap (λ (i : ℕ). (get_or wire 0 0, get_or wire i 0)) (sym e)

  pub end_up : get_or wire 0 0 < get_or wire b 0 → r ≡ picked which (get_or wire 0 0) (get_or wire b 0) → r ≡ hem_end which wire
  unfolding end_of
  end_up h p =
      p
      ∙ ap (λ (t : Bool). cond t (picked which (get_or wire 0 0) (get_or wire b 0)) (picked which (get_or wire b 0) (get_or wire 0 0))) (sym (lt-ltb (get_or wire 0 0) (get_or wire b 0) h))
      ∙ ap (end_of which) (sym first_edge)

  pub end_down : get_or wire b 0 ≤ get_or wire 0 0 → r ≡ picked which (get_or wire b 0) (get_or wire 0 0) → r ≡ hem_end which wire
  unfolding end_of
  end_down h p =
      p
      ∙ ap (λ (t : Bool). cond t (picked which (get_or wire 0 0) (get_or wire b 0)) (picked which (get_or wire b 0) (get_or wire 0 0))) (sym (le-ltb (get_or wire 0 0) (get_or wire b 0) h))
      ∙ ap (end_of which) (sym first_edge)

-- ---- of each hem

-- the first k hems are written, and hem k starts at `from`
pub record Ending (flat edges : List ℕ) (which : ℕ) (out₀ out : List ℕ) (from k : ℕ) : Type 0 where
  pub copying : Copying (map (hem_end which) (parts edges flat)) out₀ out 0 k
  pub offset : from ≡ sum (take k edges)

module _ (flat edges : List ℕ) (which : ℕ) (out₀ : List ℕ) (room : HemRoom flat edges out₀) where
  abbrev all : List ℕ
  all = map (hem_end which) (parts edges flat)

  all_long : length all ≡ length edges
  all_long = length-map (parts edges flat) (hem_end which) ∙ length_parts edges flat

  pub ending_begins : Ending flat edges which out₀ out₀ 0 0
  ending_begins = record { copying = copy_begins 0 all out₀ 0; offset = refl }

  module _ (out : List ℕ) (from k : ℕ) (h : k < length edges) (n : Ending flat edges which out₀ out from k) where
    pub ending_within : from + get_or edges k 0 ≤ length flat
    ending_within = omega (arith, room.within, n.offset, sum_at edges k h)

    pub ending_place : k < length out
    ending_place = omega (arith, n.copying.long, room.room)

    abbrev here : List ℕ
    here = take (from + get_or edges k 0 - from) (drop from flat)

    size : from + get_or edges k 0 - from ≡ get_or edges k 0
    size = omega arith

    pub ending_wire : Wire here
    ending_wire =
        let l : length here ≡ from + get_or edges k 0 - from = length_part flat from (from + get_or edges k 0 - from) (omega (arith, size, ending_within)) in
        record { some = omega (arith, size, room.some k h) }

    is_part : here ≡ get_or (parts edges flat) k []
    is_part = rw size (ap (λ (i : ℕ). take (get_or edges k 0) (drop i flat)) n.offset ∙ sym (parts_at edges flat k h))

    pub ending_turns : (end v : ℕ) → end ≡ from + get_or edges k 0 → v ≡ hem_end which here → Ending flat edges which out₀ (set out k v) end (k + 1)
    ending_turns end v e p =
        let l : k < length (parts edges flat) = rw (length_parts edges flat) h in
        let q : v ≡ get_or all k 0 = p ∙ ap (hem_end which) is_part ∙ sym (map_at (hem_end which) [] 0 (parts edges flat) k l) in
        record {
          copying =
              subst (λ (x : ℕ). Copying all out₀ (set out k x) 0 (k + 1)) (sym q)
              (front_turns 0 all out₀ out k (let a : length all ≡ length edges = all_long in omega arith) n.copying);
          offset = omega (arith, e, n.offset, sum_step edges k h);
        }

  pub ending_ends : (out : List ℕ) (from k : ℕ) → length edges ≤ k → Ending flat edges which out₀ out from k → out ≡ all
  ending_ends out from k h n =
      let a : length all ≡ length edges = all_long in
      copy_ends 0 all out₀ out 0 k (omega arith) n.copying ∙ sets_whole out₀ all (a ∙ sym room.room)

-- ---- the entries

module _ (which : ℕ) (cs s flat edges : List ℕ) (k : Keyable cs s) where
  abbrev fs : List Ring
  fs = rings s cs

  abbrev us : List Use
  us = uses_from false 0 fs

  abbrev ws : List (List ℕ)
  ws = parts edges flat

  column_long : length (column false which fs) ≡ corner_count cs
  unfolding column
  column_long = length-map us (entry_of which) ∙ uses_corners false s cs k.sound.adds

  pub entries_long : length (entries which fs ws) ≡ corner_count cs + length edges
  unfolding entries
  entries_long =
      length-append (column false which fs) (map (hem_end which) ws)
      ∙ ap₂ ◌+◌ column_long (length-map ws (hem_end which) ∙ length_parts edges flat)

  pub entry_use : (x : ℕ) → x < corner_count cs → get_or (entries which fs ws) x 0 ≡ get_or (column false which fs) x 0
  unfolding entries
  entry_use x h = get_or-append (column false which fs) (map (hem_end which) ws) 0 x (omega (arith, column_long))

  pub entry_hem : (j : ℕ) → j < length edges → get_or (entries which fs ws) (corner_count cs + j) 0 ≡ hem_end which (get_or ws j [])
  unfolding entries
  entry_hem j h =
      ap (λ (n : ℕ). get_or (entries which fs ws) (n + j) 0) (sym column_long)
      ∙ get_or-append-add (column false which fs) (map (hem_end which) ws) j 0
      ∙ map_at (hem_end which) [] 0 ws j (rw (length_parts edges flat) h)

-- the uses' column goes to the front of a list, then that of the hems behind it
module _ (which : ℕ) (cs s flat edges out : List ℕ) (r : EntryRoom cs s flat edges out) where
  pub prefix_within : length cs / width ≤ length out
  prefix_within = omega (arith, r.room)

  pub prefix_long : length (take (length cs / width) out) ≡ length cs / width
  prefix_long = length-take-le (length cs / width) out prefix_within

  pub column_room : ColumnRoom cs s (take (length cs / width) out)
  column_room = record { sound = r.keyable.sound; room = prefix_long }

  module _ (front : List ℕ) (c : front ≡ column false which (rings s cs)) where
    abbrev grown : List ℕ
    grown = front ++ drop (length cs / width) out

    front_is : length front ≡ length cs / width
    front_is = ap length c ∙ column_long which cs s flat edges r.keyable

    pub grown_long : length grown ≡ length cs / width + length edges
    grown_long =
        let a : length grown ≡ length front + length (drop (length cs / width) out) = length-append front (drop (length cs / width) out) in
        let b : length (drop (length cs / width) out) ≡ length out - length cs / width = length-drop (length cs / width) out in
        omega (arith, front_is, r.room)

    pub hem_room : HemRoom flat edges (take (length grown - length cs / width) (drop (length cs / width) grown))
    hem_room = record {
      within = r.within;
      some = r.some;
      few = r.few;
      room =
          let a : _ = length_part grown (length cs / width) (length grown - length cs / width) (omega (arith, grown_long)) in
          omega (arith, grown_long);
    }

    pub entries_done :
        (hems : List ℕ) → hems ≡ map (hem_end which) (parts edges flat)
        → take (length cs / width) grown ++ (hems ++ drop (length grown - length cs / width) (drop (length cs / width) grown))
        ≡ entries which (rings s cs) (parts edges flat)
    unfolding entries
    entries_done hems e =
        let n : length (drop (length cs / width) grown) ≤ length grown - length cs / width = le_of_eq (length-drop (length cs / width) grown) in
        ap₂ (λ (a b : List ℕ). a ++ (hems ++ b))
        (take_at front (drop (length cs / width) out) (length cs / width) front_is)
        (drop_of_length-le (drop (length cs / width) grown) n)
        ∙ ap (λ (b : List ℕ). front ++ b) (append-nil hems)
        ∙ ap₂ ◌++◌ c e

-- ends of positions are positions
end_below : (which : ℕ) (d : Edge) → d.0 < entry_limit → d.1 < entry_limit → end_of which d < entry_limit
unfolding end_of
end_below which d p q = go (ltb d.0 d.1) (eqb which 0)
  where
    go : (b c : Bool) → cond b (cond c d.0 d.1) (cond c d.1 d.0) < entry_limit
    go true true = p
    go true false = q
    go false true = q
    go false false = p

module _ (cs s flat edges firsts : List ℕ) (r : FindRoom cs s flat edges firsts) where
  abbrev uses : List Use
  uses = uses_from false 0 (rings s cs)

  kc : keys.KeyColumns (map (entry_of 0) uses) (map (entry_of 1) uses) (map (entry_of 2) uses) (map (entry_of 3) uses) (length uses)
  kc =
      key_columns uses
      (uses_good false 0 (rings s cs) (faces_good cs s r.entry.keyable))
      (let a : length (uses_from false 0 (rings s cs)) ≡ length cs / width = uses_corners false s cs r.entry.keyable.sound.adds in
      let b : length cs ≤ corner_numbers = r.entry.keyable.sound.fits in
      omega arith)

  few : corner_count cs + length edges ≤ number_limit
  few = let b : length cs ≤ corner_numbers = r.entry.keyable.sound.fits in omega (arith, r.entry.few)

  hem_below : (which x : ℕ) → x < corner_count cs + length edges → corner_count cs ≤ x → get_or (entries which (rings s cs) (parts edges flat)) x 0 < key_limit
  hem_below which x h l =
      let j : ℕ = x - corner_count cs in
      let e : x ≡ corner_count cs + j = omega arith in
      let v : get_or (entries which (rings s cs) (parts edges flat)) (corner_count cs + j) 0 ≡ hem_end which (get_or (parts edges flat) j []) =
      entry_hem which cs s flat edges r.entry.keyable j (omega arith) in
      let b : hem_end which (get_or (parts edges flat) j []) < entry_limit =
      end_below which (first_edge_lem (get_or (parts edges flat) j [])) (r.starts j (omega arith)) (r.ends j (omega arith)) in
      let w : get_or (entries which (rings s cs) (parts edges flat)) x 0 ≡ get_or (entries which (rings s cs) (parts edges flat)) (corner_count cs + j) 0 =
      ap (get_at which) e in
      omega arith
    where
      get_at : ℕ → ℕ → ℕ
      get_at which x = get_or (entries which (rings s cs) (parts edges flat)) x 0

  uses_are : length (uses_from false 0 (rings s cs)) ≡ corner_count cs
  uses_are = uses_corners false s cs r.entry.keyable.sound.adds

  lower_below : (x : ℕ) → x < corner_count cs + length edges → get_or (entries 0 (rings s cs) (parts edges flat)) x 0 < key_limit
  unfolding column
  lower_below x h =
      ⊎_elim
      (λ l.
      let v : get_or (entries 0 (rings s cs) (parts edges flat)) x 0 ≡ get_or (column false 0 (rings s cs)) x 0 =
      entry_use 0 cs s flat edges r.entry.keyable x l in
      subst (λ (n : ℕ). n < key_limit) (sym v) (kc.of_lower.below x (omega (arith, uses_are))))
      (hem_below 0 x h)
      (lt_or_ge x (corner_count cs))

  higher_below : (x : ℕ) → x < corner_count cs + length edges → get_or (entries 1 (rings s cs) (parts edges flat)) x 0 < key_limit
  unfolding column
  higher_below x h =
      ⊎_elim
      (λ l.
      let v : get_or (entries 1 (rings s cs) (parts edges flat)) x 0 ≡ get_or (column false 1 (rings s cs)) x 0 =
      entry_use 1 cs s flat edges r.entry.keyable x l in
      subst (λ (n : ℕ). n < key_limit) (sym v) (kc.of_higher.below x (omega (arith, uses_are))))
      (hem_below 1 x h)
      (lt_or_ge x (corner_count cs))

-- ---- the sort

digit_one : normal_digit 0 ≡ 1
unfolding normal_digit
digit_one = refl

-- of four digits: the first two are the same; and all are, where the last two are alike
both_ends : (a b c d : ℕ) (t u : Bool) → (eqb a b && eqb c d && t && u) ≡ true → (a ≡ b) × (c ≡ d)
both_ends a b c d t u h =
    let p : (eqb a b && eqb c d) ≡ true = and_left (eqb a b && eqb c d) t (and_left (eqb a b && eqb c d && t) u h) in
    (eqb-true a b (and_left (eqb a b) (eqb c d) p), eqb-true c d (and_right (eqb a b) (eqb c d) p))

all_same : (a b c d e f : ℕ) → a ≡ b → c ≡ d → e ≡ f → (eqb a b && eqb c d && eqb e f && eqb e f) ≡ true
all_same a b c d e f p q r = rw (eq-eqb a b p, eq-eqb c d q, eq-eqb e f r)

module _ (cs s flat edges lower higher alike order firsts : List ℕ) (r : FindRows cs s flat edges lower higher alike order firsts) where
  abbrev lowers : List ℕ
  lowers = entries 0 (rings s cs) (parts edges flat)

  abbrev highers : List ℕ
  highers = entries 1 (rings s cs) (parts edges flat)

  pub lower_room : EntryRoom cs s flat edges lower
  lower_room =
      let e : EntryRoom cs s flat edges firsts = r.find.entry in
      record { keyable = e.keyable; within = e.within; some = e.some; few = e.few; room = r.lower_long }

  pub higher_room : EntryRoom cs s flat edges higher
  higher_room =
      let e : EntryRoom cs s flat edges firsts = r.find.entry in
      record { keyable = e.keyable; within = e.within; some = e.some; few = e.few; room = r.higher_long }

  module _ (lower' higher' : List ℕ) (l : lower' ≡ lowers) (m : higher' ≡ highers) where
    pub rows_ready : keys.TwoRows false lower' higher' alike alike order firsts
    rows_ready =
        let k : Keyable cs s = r.find.entry.keyable in
        let o : length order ≡ corner_count cs + length edges = r.order_long in
        let a : length alike ≡ corner_count cs + length edges = r.alike_long in
        let below : (x : ℕ) → x < length order → get_or alike x 0 < key_limit =
        λ x h. (let e : get_or alike x 0 ≡ 1 = r.alike_is x (omega arith) ∙ digit_one in omega arith) in
        record {
          columns = record {
            few = omega (arith, few cs s flat edges firsts r.find);
            of_lower = record {
              long = ap length l ∙ entries_long 0 cs s flat edges k ∙ sym o;
              below = λ x h.
                  subst (λ (c : List ℕ). get_or c x 0 < key_limit) (sym l) (lower_below cs s flat edges firsts r.find x (omega arith));
            };
            of_higher = record {
              long = ap length m ∙ entries_long 1 cs s flat edges k ∙ sym o;
              below = λ x h.
                  subst (λ (c : List ℕ). get_or c x 0 < key_limit) (sym m) (higher_below cs s flat edges firsts r.find x (omega arith));
            };
            of_n = record { long = a ∙ sym o; below = below };
            of_m = record { long = a ∙ sym o; below = below };
          };
          plain = λ e x h. (r.alike_is x (omega arith), r.alike_is x (omega arith));
          spare_long = r.find.entry.room ∙ sym o;
        }

    module _ (firsts' : List ℕ) (z : keys.Marked lower' higher' alike alike (length order) firsts') where
      marked : keys.Marked lowers highers alike alike (length order) firsts'
      marked =
          subst (λ (c : List ℕ). keys.Marked lowers c alike alike (length order) firsts') m
          (subst (λ (c : List ℕ). keys.Marked c higher' alike alike (length order) firsts') l z)

      ends_same :
          (x : ℕ) → x < length order
          → (get_or lowers x 0 ≡ get_or lowers (get_or firsts' x 0) 0) × (get_or highers x 0 ≡ get_or highers (get_or firsts' x 0) 0)
      ends_same x h =
          let f : ℕ = get_or firsts' x 0 in
          both_ends (get_or lowers x 0) (get_or lowers f 0) (get_or highers x 0) (get_or highers f 0) (eqb (get_or alike x 0) (get_or alike f 0))
          (eqb (get_or alike x 0) (get_or alike f 0)) (marked.first x h).same

      pub found_done : Found (rings s cs) (parts edges flat) (length firsts) firsts'
      found_done =
          let o : length order ≡ length firsts = r.order_long ∙ sym r.find.entry.room in
          let a : length alike ≡ length firsts = r.alike_long ∙ sym r.find.entry.room in
          record {
            long = marked.long ∙ o;
            upto = λ x h. (marked.first x (omega arith)).upto;
            lower_same = λ x h. sym (ends_same x (omega arith)).0;
            higher_same = λ x h. sym (ends_same x (omega arith)).1;
            none = λ x y h i p q.
                let u : get_or firsts' x 0 ≤ x = (marked.first x (omega arith)).upto in
                let e : get_or alike x 0 ≡ get_or alike y 0 = r.alike_is x (omega arith) ∙ sym (r.alike_is y (omega arith)) in
                clash
                (all_same (get_or lowers x 0) (get_or lowers y 0) (get_or highers x 0) (get_or highers y 0) (get_or alike x 0) (get_or alike y 0) (sym p) (sym q) e)
                ((marked.first x (omega arith)).none y i);
          }

-- ---- the fronts of rows of fixed length

module _ (cs s flat edges firsts : List ℕ) (r : FindRoom cs s flat edges firsts) where
  pub short : length firsts ≤ entry_room
  short = omega (arith, few cs s flat edges firsts r, r.entry.room)

  pub front_long : (b : ℕ) → length (take (length firsts) (replicate entry_room b)) ≡ length firsts
  front_long b = length_front b (length firsts) entry_room short

  pub front_rows :
      FindRows cs s flat edges (take (length firsts) (replicate entry_room 0)) (take (length firsts) (replicate entry_room 0))
      (take (length firsts) (replicate entry_room 1)) (take (length firsts) (replicate entry_room 0)) firsts
  front_rows = record {
    find = r;
    lower_long = front_long 0 ∙ r.entry.room;
    higher_long = front_long 0 ∙ r.entry.room;
    alike_long = front_long 1 ∙ r.entry.room;
    alike_is = λ x h.
        let l : _ = front_long 1 in
        let w : length firsts ≤ entry_room = short in
        get_or-take (length firsts) (replicate entry_room 1) x 0 (omega arith) ∙ get_or-replicate entry_room x 1 0 (omega arith) ∙ sym digit_one;
    order_long = front_long 0 ∙ r.entry.room;
  }
