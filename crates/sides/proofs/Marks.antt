-- The columns of triangles can be sorted, and the marks of the sort are the first uses of edges. Assumes nothing.
use Rattle.std.proofs.Common.{◌≡◌, refl, sym, ap, ◌∙◌, subst, Bool, true, false, ◌&&◌, List, ℕ, zero, suc, ◌+◌, ◌*◌, ◌/◌, ◌≤◌, ◌<◌, arith, length, get_or, take, replicate, get_or-take, eqb}
use Rattle.std.proofs.Common.{eq-eqb}
use lib.ListN.{length-map, get_or-map, get_or-replicate}
use Rattle.lists.specs.Lists.{each, span}
use Rattle.lists.proofs.Buckets.{length_front}
use Rattle.mesh.specs.Limits.{width, least_ring, entry_limit, corner_limit}
use Rattle.mesh.proofs.Edges.{key_below}
use Rattle.sorting.specs.Sorting.{key_limit}
use Rattle.columns.specs.Columns.{normal_digit}
use Rattle.keys.specs.Firsts as keys
use Rattle.verdicts.specs.Edges.{same}
use Rattle.smoothed.specs.Around.{Use, uses_of}
use Rattle.smoothed.specs.Columns.{Triangular, triangles}
use Rattle.smoothed.proofs.All.{All, none, more, all_each}
use Rattle.sides.specs.Sides.{lower_of, higher_of, edge_at, Sides, EdgeColumns, Marked}
use Rattle.sides.specs.Steps.{position_at_lem, uses_at}
use Rattle.sides.proofs.Triangles.{triangle_count, triangle_uses, length_uses}

-- ---- lower and higher positions are positions

module _ {A : Type 0} {P : A → Type 0} where
  pub all_index : {l : List A} → All P l → (d : A) (i : ℕ) → i < length l → P (get_or l i d)
  all_index none d i h = absurd (omega arith)
  all_index (more p r) d zero h = p
  all_index (more {l = l} p r) d (suc i) h = all_index r d i (let e : suc i < suc (length l) = h in omega arith)

all_span : {P : ℕ → Type 0} (a n : ℕ) → ((k : ℕ) → k < a + n → P k) → All P (span a n)
all_span a zero f = none
all_span a (suc n) f = more (f a (omega arith)) (all_span (suc a) n (λ k h. f k (let e : k < suc a + n = h in omega arith)))

module _ (cs : List ℕ) (t : Triangular cs entry_limit) where
  face_below : (k : ℕ) → k < triangle_count cs → All (λ (u : Use). (lower_of u < entry_limit) × (higher_of u < entry_limit)) (uses_at cs k)
  unfolding uses_at
  face_below k h =
      let a : position_at_lem cs (least_ring * k) < entry_limit = t.below (least_ring * k) (omega arith) in
      let b : position_at_lem cs (least_ring * k + 1) < entry_limit = t.below (least_ring * k + 1) (omega arith) in
      let c : position_at_lem cs (least_ring * k + 2) < entry_limit = t.below (least_ring * k + 2) (omega arith) in
      more (key_below entry_limit _ b c) (more (key_below entry_limit _ c a) (more (key_below entry_limit _ a b) none))

  uses_below : All (λ (u : Use). (lower_of u < entry_limit) × (higher_of u < entry_limit)) (each uses_of (triangles cs))
  uses_below =
      subst (All (λ (u : Use). (lower_of u < entry_limit) × (higher_of u < entry_limit))) (sym (triangle_uses cs))
      (all_each (uses_at cs) (all_span 0 (triangle_count cs) (λ k h. face_below k (let e : k < 0 + triangle_count cs = h in omega arith))))

  uses_long : length (each uses_of (triangles cs)) ≡ length cs / width
  uses_long =
      let e : length (each uses_of (triangles cs)) ≡ least_ring * triangle_count cs =
      ap length (triangle_uses cs) ∙ length_uses cs (triangle_count cs) in
      omega (arith, t.whole)

  -- so the columns can be sorted
  pub columns_ready :
      (lower higher wing firsts : List ℕ) → Sides (triangles cs) lower higher wing → length firsts ≡ length cs / width
      → EdgeColumns lower higher firsts
  columns_ready lower higher wing firsts s l =
      let us : List Use = each uses_of (triangles cs) in
      let n : length lower ≡ length cs / width = ap length s.lower_is ∙ length-map us lower_of ∙ uses_long in
      let m : length higher ≡ length cs / width = ap length s.higher_is ∙ length-map us higher_of ∙ uses_long in
      record {
        few = omega (arith, t.few);
        higher_long = m ∙ sym n;
        firsts_long = l ∙ sym n;
        lower_below = λ x h.
            subst (λ (v : ℕ). v < entry_limit) (sym (ap (λ (c : List ℕ). get_or c x 0) s.lower_is ∙ get_or-map lower_of us x ((0, 0), 0)))
            (all_index uses_below ((0, 0), 0) x (omega (arith, uses_long))).0;
        higher_below = λ x h.
            subst (λ (v : ℕ). v < entry_limit) (sym (ap (λ (c : List ℕ). get_or c x 0) s.higher_is ∙ get_or-map higher_of us x ((0, 0), 0)))
            (all_index uses_below ((0, 0), 0) x (omega (arith, uses_long))).1;
      }

-- ---- the sort

-- a row that is alike all along, and a row to work in
pub record MarkRoom (lower higher alike order firsts : List ℕ) : Type 0 where
  pub columns : EdgeColumns lower higher firsts
  pub alike_long : length alike ≡ length lower
  pub alike_is : (x : ℕ) → x < length lower → get_or alike x 0 ≡ normal_digit 0
  pub order_long : length order ≡ length lower

digit_one : normal_digit 0 ≡ 1
unfolding normal_digit
digit_one = refl

-- the front of a row of fixed length that is alike all along
pub alike_at : (n m x : ℕ) → n ≤ m → x < n → get_or (take n (replicate m 1)) x 0 ≡ normal_digit 0
alike_at n m x l h = get_or-take n (replicate m 1) x 0 h ∙ get_or-replicate m x 1 0 (omega arith) ∙ sym digit_one

module _ (lower higher alike order firsts : List ℕ) (r : MarkRoom lower higher alike order firsts) where
  pub rows_ready : keys.TwoRows false lower higher alike alike order firsts
  rows_ready =
      let o : length order ≡ length lower = r.order_long in
      let below : (x : ℕ) → x < length order → get_or alike x 0 < key_limit =
      λ x h. (let e : get_or alike x 0 ≡ 1 = r.alike_is x (omega arith) ∙ digit_one in omega arith) in
      record {
        columns = record {
          few = omega (arith, r.columns.few);
          of_lower = record { long = sym o; below = λ x h. (let b : _ = r.columns.lower_below x (omega arith) in omega arith) };
          of_higher = record { long = r.columns.higher_long ∙ sym o; below = λ x h. (let b : _ = r.columns.higher_below x (omega arith) in omega arith) };
          of_n = record { long = r.alike_long ∙ sym o; below = below };
          of_m = record { long = r.alike_long ∙ sym o; below = below };
        };
        plain = λ e x h. (r.alike_is x (omega arith), r.alike_is x (omega arith));
        spare_long = r.columns.firsts_long ∙ sym o;
      }

  -- where the other digits are alike, uses of one key are uses of one edge
  same_edge :
      (x y : ℕ) → x < length lower → y < length lower
      → keys.same_use lower higher alike alike x y ≡ same (edge_at lower higher x) (edge_at lower higher y)
  same_edge x y h i =
      let e : eqb (get_or alike x 0) (get_or alike y 0) ≡ true = eq-eqb _ _ (r.alike_is x h ∙ sym (r.alike_is y i)) in
      rw e (strip (eqb (get_or lower x 0) (get_or lower y 0)) (eqb (get_or higher x 0) (get_or higher y 0)))
    where
      strip : (a b : Bool) → (a && b && true && true) ≡ (a && b)
      strip true true = refl
      strip true false = refl
      strip false b = refl

  pub marks_done : (firsts' : List ℕ) → keys.Marked lower higher alike alike (length order) firsts' → Marked lower higher firsts'
  marks_done firsts' m =
      let o : length order ≡ length lower = r.order_long in
      record {
        long = m.long ∙ o;
        first = λ x h.
            let f : keys.FirstUse lower higher alike alike x (get_or firsts' x 0) = m.first x (omega arith) in
            let u : get_or firsts' x 0 ≤ x = f.upto in
            record {
              upto = u;
              again = sym (same_edge x (get_or firsts' x 0) h (omega arith)) ∙ f.same;
              none = λ y l. sym (same_edge x y h (omega arith)) ∙ f.none y l;
            };
      }

-- ---- the fronts of rows of fixed length

module _ (lower higher firsts : List ℕ) (e : EdgeColumns lower higher firsts) where
  pub front_ready :
      MarkRoom lower higher (take (length lower) (replicate corner_limit 1)) (take (length lower) (replicate corner_limit 0)) firsts
  front_ready = record {
    columns = e;
    alike_long = length_front 1 (length lower) corner_limit e.few;
    alike_is = λ x h. alike_at (length lower) corner_limit x e.few h;
    order_long = length_front 0 (length lower) corner_limit e.few;
  }
