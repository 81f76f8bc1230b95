-- The rows of the search: entries of joins are sorted by face, and then all is ready for the panels. Assumes nothing.
use mathlib.Core.Path.{◌≡◌, refl, sym, ap, ap₂, ◌∙◌, subst}
use mathlib.Core.List.{List, ◌∷◌}
use Prim.Native.Nat.{ℕ, zero, suc, ◌+◌, ◌≤◌, ◌<◌}
use native.Mathlib.Omega.{arith}
use lib.ListN.{length, get_or, take, replicate}
use lib.Seq.{sets}
use Rattle.lists.specs.Lists.{span}
use Rattle.lists.proofs.Copies.{sets_whole}
use Rattle.lists.proofs.Buckets.{length_front, length_span, span_at}
use Rattle.mesh.specs.Limits.{face_limit}
use Rattle.sorting.specs.Sorting.{sorted_by, ends_by, All, Sortable, Sorted}
use Rattle.sorting.proofs.Laws.{sorted_length}
use Rattle.connected.specs.Joins.{join_numbers}
use Rattle.connected.specs.Walk.{Partable}
use Rattle.connected.specs.Rows.{Divisible}

-- ---- the entries by face

module _ (joins : List ℕ) (f : ℕ) (flat lengths : List ℕ) (p : Divisible joins f flat lengths) where
  -- entries 0, 1, .. of the joins, which are faces, can be sorted by face
  pub entries_ready :
      (entries entries' order : List ℕ) → length entries ≡ length joins → entries' ≡ span 0 (length entries) → length order ≡ length joins
      → Sortable f joins entries' order
  entries_ready entries entries' order l e o =
      let q : entries' ≡ span 0 (length joins) = e ∙ ap (span 0) l in
      subst (λ (t : List ℕ). Sortable f joins t order) (sym q)
      (let n : length (span 0 (length joins)) ≡ length joins = length_span 0 (length joins) in
      record {
        few = let a : f ≤ face_limit = p.small in omega arith;
        keyed = record {
          fits = let a : length joins ≤ join_numbers = p.fits in omega arith;
          named = λ t h. let a : get_or (span 0 (length joins)) t 0 ≡ 0 + t = span_at 0 (length joins) t 0 (omega arith) in omega arith;
          below = λ t h. let a : get_or (span 0 (length joins)) t 0 ≡ 0 + t = span_at 0 (length joins) t 0 (omega arith) in p.below (get_or (span 0 (length joins)) t 0) (omega arith);
        };
        room = omega arith;
      })

  entries_sorted : All (λ i. get_or joins i 0 < f) (span 0 (length joins))
  entries_sorted t h =
      let n : length (span 0 (length joins)) ≡ length joins = length_span 0 (length joins) in
      let a : get_or (span 0 (length joins)) t 0 ≡ 0 + t = span_at 0 (length joins) t 0 (omega arith) in
      p.below (get_or (span 0 (length joins)) t 0) (omega arith)

  -- once they are sorted all is ready for the panels
  pub panels_ready :
      (entries entries' order order' ends' seen stack : List ℕ)
      → length entries ≡ length joins → entries' ≡ span 0 (length entries) → length order ≡ length joins
      → Sorted f joins entries' order order' ends' → length ends' ≡ f → seen ≡ replicate f 0 → length stack ≡ f
      → Partable joins order' ends' seen stack flat lengths
  panels_ready entries entries' order order' ends' seen stack l e o s g z w =
      let q : entries' ≡ span 0 (length joins) = e ∙ ap (span 0) l in
      let t : order' ≡ sorted_by f joins (span 0 (length joins)) =
      s.sorted
      ∙ ap (λ (x : List ℕ). sets order 0 (sorted_by f joins x)) q
      ∙ sets_whole order (sorted_by f joins (span 0 (length joins))) (sorted_length f joins (span 0 (length joins)) entries_sorted ∙ length_span 0 (length joins) ∙ sym o) in
      record {
        adjacent = record {
          whole = p.whole;
          fits = p.fits;
          below = λ i h. let b : get_or joins i 0 < f = p.below i h in omega arith;
          ordered = t ∙ ap (λ (n : ℕ). sorted_by n joins (span 0 (length joins))) (sym g);
          ended = s.ended ∙ ap₂ (λ (n : ℕ) (x : List ℕ). ends_by n joins x) (sym g) q;
        };
        small = let b : f ≤ face_limit = p.small in omega arith;
        unseen = z ∙ ap (λ (n : ℕ). replicate n 0) (sym g);
        stack_long = w ∙ sym g;
        faces_room = let b : f ≤ length flat = p.faces_room in omega arith;
        panels_room = let b : f ≤ length lengths = p.panels_room in omega arith;
      }

-- the front of a row that is one number all along is such a row
pub front_row : (n m : ℕ) → n ≤ m → take {A = ℕ} n (replicate m 0) ≡ replicate n 0
front_row zero m h = refl
front_row (suc n) zero h = absurd (omega arith)
front_row (suc n) (suc m) h = ap (λ (l : List ℕ). 0 ∷ l) (front_row n m (omega arith))

pub divisible_at : (joins : List ℕ) (f g : ℕ) (flat lengths : List ℕ) → g ≡ f → Divisible joins f flat lengths → Divisible joins g flat lengths
divisible_at joins f g flat lengths e p = subst (λ (h : ℕ). Divisible joins h flat lengths) (sym e) p

-- ---- the fronts of rows of fixed length

module _ (joins : List ℕ) (f : ℕ) (flat lengths : List ℕ) (p : Divisible joins f flat lengths) where
  pub entry_row : length (take {A = ℕ} (length joins) (replicate join_numbers 0)) ≡ length joins
  entry_row = length_front 0 (length joins) join_numbers p.fits

  pub face_row : length (take {A = ℕ} f (replicate face_limit 0)) ≡ f
  face_row = length_front 0 f face_limit p.small

  pub clear_row : take {A = ℕ} f (replicate face_limit 0) ≡ replicate (length (take {A = ℕ} f (replicate face_limit 0))) 0
  clear_row = front_row f face_limit p.small ∙ ap (λ (n : ℕ). replicate n 0) (sym face_row)
