-- The loop over the corners for one column: what it keeps, where it begins, its turn and its end; and the three columns together. Assumes
-- nothing.
use mathlib.Core.Path.{◌≡◌, refl, sym, ap, ◌∙◌}
use mathlib.Core.List.{List, [], ◌∷◌, ◌++◌, map, map-append}
use Prim.Native.Nat.{ℕ, zero, suc, ◌+◌, ◌*◌, ◌/◌, ◌%◌, ◌≤◌, ◌<◌}
use native.Mathlib.Nat.{add-zero}
use native.Mathlib.Numerals.{add-one}
use native.Mathlib.Omega.{arith}
use lib.ListN.{length, get_or, take, drop, set, replicate, length-set, get_or-append}
use lib.Seq.{sets, length-sets, set_comm, set-get_or, get_or-set_other, get_or-append-add, get_or-drop, drop_at, take-suc, take_all, length-take-le}
use lib.Ieee.{Float}
use Rattle.lists.specs.Lists.{joined}
use Rattle.lists.specs.FirstUses.{first_uses}
use Rattle.lists.proofs.Parts.{joined_append}
use Rattle.lists.proofs.Stores.{three_stores}
use Rattle.lists.proofs.Writing.{sets_append, sets_snoc, sets_front}
use Rattle.mesh.specs.Limits.{point_width, texel_width, width, entry_limit}
use Rattle.mesh.specs.Mesh.{Corner, Ring, missing, corners_in, corner_at}
use Rattle.mesh.proofs.Corners.{length-corners_in, get_or-corners_in}
use Rattle.unused.specs.Compaction.{uses_of, renumber, entries, Result}
use Rattle.unused.specs.Working.{column, new_corner, Pointed, Ready, Done}
use Rattle.oneindex.specs.Working.{index_at, uses_to, Tables, Before, Taken}
use Rattle.oneindex.proofs.Turn.{tables_begin, length_column, uses_within}
use Rattle.compaction.specs.Columns.{column_put, ColumnReady, ColumnDone}

-- ---- one column, k corners of which are read

pub record Column
    (attrs : List Float) (w : ℕ) (cs : List ℕ) (q k : ℕ) (fresh₀ fresh : List Float) (old2new : List ℕ) (used : ℕ) : Type 0 where
  pub tables : Tables (uses_to q cs k) old2new used
  pub grown : fresh ≡ sets fresh₀ 0 (entries w attrs (uses_to q cs k))

column_begins :
    (attrs : List Float) (w : ℕ) (cs : List ℕ) (q : ℕ) (fresh : List Float)
    → Column attrs w cs q 0 fresh fresh (replicate entry_limit missing) 0
unfolding first_uses entries
column_begins attrs w cs q fresh = record { tables = tables_begin; grown = refl }

module _
    {attrs : List Float} {w : ℕ} {cs : List ℕ} {q k : ℕ} {fresh₀ fresh : List Float} {old2new : List ℕ} {used : ℕ}
    (c : Column attrs w cs q k fresh₀ fresh old2new used) where
  pub column_long : length fresh ≡ length fresh₀
  column_long = ap length c.grown ∙ length-sets fresh₀ 0 (entries w attrs (uses_to q cs k))

  pub column_before :
      (out₀ out : List ℕ) → Pointed attrs w cs q → k < length cs / width → length attrs ≤ length fresh₀ → length cs ≤ length out₀
      → length out ≡ length out₀
      → Before attrs w cs k q old2new used fresh out
  column_before out₀ out p h r s e = record {
    pointed = p;
    corner = omega arith;
    tables = c.tables;
    room = omega (arith, column_long);
    corners_room = omega arith;
  }

  column_turns :
      (fresh' : List Float) (old2new' : List ℕ) (used' : ℕ) (out out' : List ℕ)
      → Taken attrs w cs k q old2new' used' fresh fresh' out out' → Column attrs w cs q (k + 1) fresh₀ fresh' old2new' used'
  column_turns fresh' old2new' used' out out' t = record { tables = t.tables; grown = t.grown fresh₀ c.grown }

  -- few enough for the type of a count
  pub column_few : Pointed attrs w cs q → used ≤ entry_limit
  column_few p = omega (arith, c.tables.counted, uses_within p k, p.few)

  -- where all are read
  all_read : length cs / width ≤ k → uses_to q cs k ≡ uses_of (column q cs)
  all_read h = ap uses_of (take_all k (column q cs) (rw (length_column q cs) h))

  column_ends : length cs / width ≤ k → fresh ≡ sets fresh₀ 0 (entries w attrs (uses_of (column q cs)))
  column_ends h = c.grown ∙ ap (λ (us : List ℕ). sets fresh₀ 0 (entries w attrs us)) (all_read h)

  column_counts : length cs / width ≤ k → used ≡ length (uses_of (column q cs))
  column_counts h = c.tables.counted ∙ ap length (all_read h)

-- ---- the new corners

-- three stores before a mark that stands there already
from_first :
    (l : List ℕ) (a x y z m : ℕ) → get_or l (a + 3) 0 ≡ m → set (set (set l (a + 0) x) (a + 1) y) (a + 2) z ≡ sets l a (x ∷ y ∷ z ∷ m ∷ [])
from_first l a x y z m e =
    let stored = set (set (set l (a + 0) x) (a + 1) y) (a + 2) z in
    let stands : get_or stored (a + 3) 0 ≡ m =
    get_or-set_other (set (set l (a + 0) x) (a + 1) y) (a + 2) (a + 3) z 0 (λ i. omega (arith, i))
    ∙ get_or-set_other (set l (a + 0) x) (a + 1) (a + 3) y 0 (λ i. omega (arith, i))
    ∙ get_or-set_other l (a + 0) (a + 3) x 0 (λ i. omega (arith, i)) ∙ e in
    let three : stored ≡ sets l a (x ∷ y ∷ z ∷ []) = rw (add-zero a) (three_stores l a x y z) in
    sym (set-get_or stored (a + 3) 0) ∙ ap (set stored (a + 3)) stands
    ∙ ap (λ (r : List ℕ). set r (a + 3) m) three
    ∙ sym (sets_snoc l a (x ∷ y ∷ z ∷ []) m)

-- what stands behind the part that is written is as it was
behind : (l done : List ℕ) (n : ℕ) → length done ≤ length l → get_or (sets l 0 done) (length done + n) 0 ≡ get_or l (length done + n) 0
behind l done n h =
    ap (λ (r : List ℕ). get_or r (length done + n) 0) (sets_front l done h)
    ∙ get_or-append-add done (drop (length done) l) n 0
    ∙ get_or-drop (length done) l n 0

-- a part that is written over another of its length
written_over :
    (l old new : List ℕ) → length new ≡ length old → length old ≤ length l → sets (sets l 0 old) 0 new ≡ sets l 0 new
written_over l old new e h =
    sets_front (sets l 0 old) new (omega (arith, e, h, length-sets l 0 old))
    ∙ ap (λ (r : List ℕ). new ++ drop (length new) r) (sets_front l old h)
    ∙ ap (λ (r : List ℕ). new ++ r) (drop_at old (drop (length old) l) (length new) (sym e) ∙ ap (λ (n : ℕ). drop n l) (sym e))
    ∙ sym (sets_front l new (omega (arith, e, h)))

module _ (cs : List ℕ) where
  length_new : (l : Ring) → length (joined (map (new_corner cs) l)) ≡ width * length l
  length_new [] = refl
  length_new (c ∷ l) = let e : length (joined (map (new_corner cs) l)) ≡ width * length l = length_new l in omega arith

  -- corner k with its new numbers
  corner_is : (k : ℕ) → k < length cs / width → new_corner cs (get_or (corners_in cs) k []) ≡ new_corner cs (corner_at cs k)
  corner_is k h = ap (new_corner cs) (get_or-corners_in cs k h)

  more_corners :
      (k : ℕ) → k < length cs / width
      → joined (map (new_corner cs) (take (k + 1) (corners_in cs))) ≡ joined (map (new_corner cs) (take k (corners_in cs))) ++ new_corner cs
      (corner_at cs k)
  more_corners k h =
      let l : k < length (corners_in cs) = rw (length-corners_in cs) h in
      let done = take k (corners_in cs) in
      ap (λ (r : Ring). joined (map (new_corner cs) r))
      (ap (λ (n : ℕ). take n (corners_in cs)) (add-one k) ∙ take-suc (corners_in cs) k [] l)
      ∙ ap joined (map-append (new_corner cs) done (get_or (corners_in cs) k [] ∷ []))
      ∙ joined_append (map (new_corner cs) done) (new_corner cs (get_or (corners_in cs) k []) ∷ [])
      ∙ ap (λ (c : Corner). joined (map (new_corner cs) done) ++ c) (corner_is k h)

  -- three stores behind the corners that are written; the mark stands there
  corners_turn :
      (o : List ℕ) (k : ℕ) → k < length cs / width → length cs ≤ length o
      → get_or o (width * k + 3) 0 ≡ get_or cs (width * k + 3) 0 → (c0 c1 c2 c3 : List ℕ)
      → c0 ≡ sets o 0 (joined (map (new_corner cs) (take k (corners_in cs))))
      → c1 ≡ set c0 (width * k + 0) (renumber (uses_of (column 0 cs)) (get_or cs (width * k + 0) 0))
      → c2 ≡ set c1 (width * k + 1) (renumber (uses_of (column 1 cs)) (get_or cs (width * k + 1) 0))
      → c3 ≡ set c2 (width * k + 2) (renumber (uses_of (column 2 cs)) (get_or cs (width * k + 2) 0))
      → c3 ≡ sets o 0 (joined (map (new_corner cs) (take (k + 1) (corners_in cs))))
  corners_turn o k h fits m c0 c1 c2 c3 e0 e1 e2 e3 =
      let done = joined (map (new_corner cs) (take k (corners_in cs))) in
      let long : 0 + length done ≡ width * k =
      let a : length done ≡ width * length (take k (corners_in cs)) = length_new (take k (corners_in cs)) in
      let b : length (take k (corners_in cs)) ≡ k = length-take-le k (corners_in cs) (rw (length-corners_in cs) (omega arith)) in
      omega arith in
      let stands : get_or c0 (width * k + 3) 0 ≡ get_or cs (width * k + 3) 0 =
      let n : length done ≡ width * k = omega (arith, long) in
      rw (e0, sym n) (behind o done 3 (omega (arith, n, fits))) ∙ ap (λ (i : ℕ). get_or o (i + 3) 0) n ∙ m in
      e3 ∙ rw (e2, e1) (from_first c0 (width * k) _ _ _ _ stands)
      ∙ ap (λ (i : ℕ). sets c0 (width * k)
      (renumber (uses_of (column 0 cs)) (get_or cs i 0) ∷ renumber (uses_of (column 1 cs)) (get_or cs (width * k + 1) 0) ∷ renumber
      (uses_of (column 2 cs)) (get_or cs (width * k + 2) 0) ∷ get_or cs (width * k + 3) 0 ∷ [])) (add-zero (width * k))
      ∙ ap (λ (l : List ℕ). sets l (width * k) (new_corner cs (corner_at cs k))) e0
      ∙ ap (λ (n : ℕ). sets (sets o 0 done) n (new_corner cs (corner_at cs k))) (sym long)
      ∙ sym (sets_append o 0 done (new_corner cs (corner_at cs k)))
      ∙ ap (sets o 0) (sym (more_corners k h))

-- ---- one column: k corners are read

pub column_more :
    (q : ℕ) (cs : List ℕ) (k : ℕ) (o : List ℕ)
    → column_put q cs (k + 1) o ≡ set (column_put q cs k o) (width * k + q) (renumber (uses_of (column q cs)) (index_at cs k q))
unfolding column_put
column_more q cs k o = rw (add-one k)

pub length_put : (q : ℕ) (cs : List ℕ) (k : ℕ) (o : List ℕ) → length (column_put q cs k o) ≡ length o
unfolding column_put
length_put q cs zero o = refl
length_put q cs (suc k) o = length-set (column_put q cs k o) (width * k + q) _ ∙ length_put q cs k o

pub record Going
    (attrs : List Float) (w : ℕ) (cs : List ℕ) (q : ℕ) (fresh₀ fresh : List Float) (out₀ out old2new : List ℕ) (used k : ℕ) : Type 0 where
  pub within : k ≤ length cs / width
  pub one : Column attrs w cs q k fresh₀ fresh old2new used
  pub corners : out ≡ column_put q cs k out₀

pub going_begins :
    (attrs : List Float) (w : ℕ) (cs : List ℕ) (q : ℕ) (fresh : List Float) (out : List ℕ)
    → Going attrs w cs q fresh fresh out out (replicate entry_limit missing) 0 0
unfolding column_put
going_begins attrs w cs q fresh out = record { within = omega arith; one = column_begins attrs w cs q fresh; corners = refl }

module _
    {attrs : List Float} {w : ℕ} {cs : List ℕ} {q : ℕ} {fresh₀ fresh : List Float} {out₀ out old2new : List ℕ} {used k : ℕ}
    (g : Going attrs w cs q fresh₀ fresh out₀ out old2new used k) where
  pub going_long : length out ≡ length out₀
  going_long = ap length g.corners ∙ length_put q cs k out₀

  pub going_before : ColumnReady attrs w cs q fresh₀ out₀ → k < length cs / width → Before attrs w cs k q old2new used fresh out
  going_before r h = column_before g.one out₀ out r.pointed h r.room r.corner_room going_long

  pub going_turns :
      (fresh' : List Float) (out' old2new' : List ℕ) (used' : ℕ) → k < length cs / width
      → Taken attrs w cs k q old2new' used' fresh fresh' out out'
      → Going attrs w cs q fresh₀ fresh' out₀ out' old2new' used' (k + 1)
  going_turns fresh' out' old2new' used' h t = record {
    within = omega arith;
    one = column_turns g.one fresh' old2new' used' out out' t;
    corners =
        t.numbered ∙ ap (λ (l : List ℕ). set l (width * k + q) (renumber (uses_of (column q cs)) (index_at cs k q))) g.corners
        ∙ sym (column_more q cs k out₀);
  }

  pub going_ends : length cs / width ≤ k → ColumnDone attrs w cs q fresh₀ fresh out₀ out used
  going_ends h =
      let all : k ≡ length cs / width = omega (arith, h, g.within) in
      record {
        count = column_counts g.one h;
        entries = column_ends g.one h;
        corners = g.corners ∙ ap (λ (n : ℕ). column_put q cs n out₀) all;
      }

-- ---- all three

-- what stands behind the corners that are read comes through
put_past :
    (q : ℕ) (cs : List ℕ) → q < width → (k : ℕ) (o : List ℕ) (i x : ℕ) → width * k ≤ i → column_put q cs k (set o i x) ≡ set (column_put q cs k o) i x
unfolding column_put
put_past q cs h zero o i x l = refl
put_past q cs h (suc k) o i x l =
    let v = renumber (uses_of (column q cs)) (index_at cs k q) in
    ap (λ (r : List ℕ). set r (width * k + q) v) (put_past q cs h k o i x (omega (arith, l)))
    ∙ set_comm (column_put q cs k o) i (width * k + q) x v (λ e. omega (arith, e, h, l))

module _ (cs lent : List ℕ) (room : length cs ≤ length lent) where
  -- the corners as they were, with their marks, are written first
  abbrev o : List ℕ
  o = sets lent 0 cs

  mark_there : (k : ℕ) → k < length cs / width → get_or o (width * k + 3) 0 ≡ get_or cs (width * k + 3) 0
  mark_there k h =
      ap (λ (l : List ℕ). get_or l (width * k + 3) 0) (sets_front lent cs room)
      ∙ get_or-append cs (drop (length cs) lent) 0 (width * k + 3) (omega arith)

  abbrev three : ℕ → List ℕ
  three k = column_put 2 cs k (column_put 1 cs k (column_put 0 cs k o))

  abbrev new : ℕ → ℕ → ℕ
  new q k = renumber (uses_of (column q cs)) (index_at cs k q)

  -- corner k gets its three numbers behind the corners before it
  three_more : (k : ℕ) → three (suc k) ≡ set (set (set (three k) (width * k + 0) (new 0 k)) (width * k + 1) (new 1 k)) (width * k + 2) (new 2 k)
  unfolding column_put
  three_more k =
      let put0 = column_put 0 cs k o in
      let put1 = column_put 1 cs k put0 in
      let a : column_put 1 cs k (set put0 (width * k + 0) (new 0 k)) ≡ set put1 (width * k + 0) (new 0 k) =
      put_past 1 cs (omega arith) k put0 (width * k + 0) (new 0 k) (omega arith) in
      let b : column_put 2 cs k (set (set put1 (width * k + 0) (new 0 k)) (width * k + 1) (new 1 k))
      ≡ set (column_put 2 cs k (set put1 (width * k + 0) (new 0 k))) (width * k + 1) (new 1 k) =
      put_past 2 cs (omega arith) k (set put1 (width * k + 0) (new 0 k)) (width * k + 1) (new 1 k) (omega arith) in
      let d : column_put 2 cs k (set put1 (width * k + 0) (new 0 k)) ≡ set (three k) (width * k + 0) (new 0 k) =
      put_past 2 cs (omega arith) k put1 (width * k + 0) (new 0 k) (omega arith) in
      ap (λ (l : List ℕ). set (column_put 2 cs k (set l (width * k + 1) (new 1 k))) (width * k + 2) (new 2 k)) a
      ∙ ap (λ (l : List ℕ). set l (width * k + 2) (new 2 k)) b
      ∙ ap (λ (l : List ℕ). set (set l (width * k + 1) (new 1 k)) (width * k + 2) (new 2 k)) d

  three_are : (k : ℕ) → k ≤ length cs / width → three k ≡ sets o 0 (joined (map (new_corner cs) (take k (corners_in cs))))
  unfolding column_put
  three_are zero h = refl
  three_are (suc k) h =
      corners_turn cs o k (omega arith) (omega (arith, room, length-sets lent 0 cs)) (mark_there k (omega arith))
      (three k) _ _ (three (suc k)) (three_are k (omega arith)) refl refl (three_more k)
      ∙ ap (λ (n : ℕ). sets o 0 (joined (map (new_corner cs) (take n (corners_in cs))))) (add-one k)

  -- the three columns, one after the other, are the new corners
  pub columns_are : length cs % width ≡ 0 → three (length cs / width) ≡ sets lent 0 (joined (map (new_corner cs) (corners_in cs)))
  columns_are whole =
      three_are (length cs / width) (omega arith)
      ∙ ap (λ (l : Ring). sets o 0 (joined (map (new_corner cs) l))) (take_all (length cs / width) (corners_in cs) (rw (length-corners_in cs) (omega arith)))
      ∙ written_over lent cs (joined (map (new_corner cs) (corners_in cs))) (omega (arith, whole, length_new cs (corners_in cs), length-corners_in cs)) room

pub columns_done :
    {p t n : List Float} {cs c0 c1 c2 : List ℕ} {before afterwards : Result} {i j k : ℕ}
    → Ready p t n cs before
    → c0 ≡ sets before.corners 0 cs
    → ColumnDone p point_width cs 0 before.positions afterwards.positions c0 c1 i
    → ColumnDone t texel_width cs 1 before.textures afterwards.textures c1 c2 j
    → ColumnDone n point_width cs 2 before.normals afterwards.normals c2 afterwards.corners k
    → Done p t n cs before afterwards (record { number = 0; positions = i; textures = j; normals = k })
columns_done {cs = cs} {before = before} r e a b c = record {
  number = refl;
  position_count_is = a.count;
  texture_count_is = b.count;
  normal_count_is = c.count;
  corners =
      c.corners ∙ ap (column_put 2 cs (length cs / width)) (b.corners ∙ ap (column_put 1 cs (length cs / width)) a.corners)
      ∙ ap (λ (l : List ℕ). column_put 2 cs (length cs / width) (column_put 1 cs (length cs / width) (column_put 0 cs (length cs / width) l))) e
      ∙ columns_are cs before.corners r.corner_room r.whole;
  positions = a.entries;
  textures = b.entries;
  normals = c.entries;
}
