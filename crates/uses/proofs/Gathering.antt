-- The columns are those of the mesh's edges, so they can be sorted; what is gathered can be scanned, and its order is known by the edges
-- alone. Assumes nothing.
use mathlib.Core.Path.{◌≡◌, sym, ap, ap₂, ◌∙◌, subst}
use mathlib.Core.Bool.{true}
use mathlib.Core.List.{List, [], ◌∷◌, map}
use Prim.Native.Nat.{ℕ, ◌/◌, ◌≤◌, ◌<◌}
use native.Mathlib.Omega.{arith}
use lib.ListN.{length, length-map}
use lib.Seq.{sets}
use lib.Dec.{ltb}
use borrow.Author.Tests.{ltb-true}
use Rattle.lists.specs.Lists.{span}
use Rattle.lists.proofs.Bools.{and_left, and_right}
use Rattle.lists.proofs.Parts.{every_at}
use Rattle.lists.proofs.Copies.{sets_whole}
use Rattle.sorting.specs.Sorting.{All}
use Rattle.sorting.specs.Digits.{digit, passed, Column, TwoDigits}
use Rattle.sorting.proofs.Rows.{Row, row_span}
use Rattle.sorting.proofs.Digits.{passed_row}
use Rattle.mesh.specs.Limits.{width, corner_limit}
use Rattle.mesh.specs.Mesh.{rings}
use Rattle.mesh.specs.Edges.{Edge, key, edges_of, Edged}
use Rattle.mesh.proofs.Edges.{key_below}
use Rattle.uses.specs.Uses.{lower_of, higher_of, down_of, Columns, Written, Rooms, in_order, Gathered, Ready}
use Rattle.uses.proofs.Sides.{inside, length_uses, uses_inside}
use Rattle.uses.proofs.Reading.{use_at, lowers, highers, lower_at, higher_at}

module _ (cs s : List ℕ) (n : ℕ) (e : Edged cs s n) where
  abbrev es : List Edge
  es = edges_of (rings s cs)

  long : length es ≡ length cs / width
  long = length_uses cs s e.sound

  fits : length cs / width ≤ corner_limit
  fits = omega (arith, e.sound.fits)

  -- both positions of each use lie below n
  use_below : (u : ℕ) → u < length es → ((key (use_at es u)).0 < n) × ((key (use_at es u)).1 < n)
  use_below u h =
      let i : inside n (use_at es u) ≡ true = every_at (inside n) (0, 0) es u (uses_inside cs s n e) h in
      key_below n (use_at es u)
      (ltb-true (use_at es u).0 n (and_left (ltb (use_at es u).0 n) (ltb (use_at es u).1 n) i))
      (ltb-true (use_at es u).1 n (and_right (ltb (use_at es u).0 n) (ltb (use_at es u).1 n) i))

  pub lower_column : Column (length es) (digit n (lowers es))
  lower_column = record { long = length-map es lower_of; below = λ u h. rw (lower_at es u) (use_below u h).0 }

  pub higher_column : Column (length es) (digit n (highers es))
  higher_column = record { long = length-map es higher_of; below = λ u h. rw (higher_at es u) (use_below u h).1 }

  -- ---- from the columns to the order

  -- one column, written whole
  whole : (f : Edge → ℕ) (l l' : List ℕ) → length l ≡ length cs / width → l' ≡ sets l 0 (map f es) → l' ≡ map f es
  whole f l l' h w = w ∙ sets_whole l (map f es) (length-map es f ∙ long ∙ sym h)

  module _ (l h d first order l' h' d' : List ℕ) (r : Rooms (length cs / width) l h d first order) (w : Written es 0 l h d l' h' d') where
    columns : Columns es l' h' d'
    columns = record {
      lower = whole lower_of l l' r.lower w.lower;
      higher = whole higher_of h h' r.higher w.higher;
      down = whole down_of d d' r.down w.down;
    }

    module _ (o : List ℕ) (is : o ≡ span 0 (length order)) where
      row : Row (length es) o
      row = subst (Row (length es)) (sym (is ∙ ap (span 0) (r.later ∙ sym long))) (row_span (length es))

      pub uses_digits : TwoDigits (digit n l') (digit n h') o first
      uses_digits =
          let u : length o ≡ length es = row.long in
          record {
            fits = omega (arith, u, long, fits);
            named = subst (λ (k : ℕ). All (λ x. x < k) o) (sym u) row.below;
            first_few = omega (arith, e.few);
            first_column = subst (λ (k : ℕ). Column k (digit n l')) (sym u) (subst (λ (t : List ℕ). Column (length es) (digit n t)) (sym columns.lower) lower_column);
            second_few = omega (arith, e.few);
            second_column = subst (λ (k : ℕ). Column k (digit n h')) (sym u) (subst (λ (t : List ℕ). Column (length es) (digit n t)) (sym columns.higher) higher_column);
            room = r.earlier ∙ sym long ∙ sym u;
          }

      pub uses_gathered : (order' : List ℕ) → order' ≡ passed (digit n l' ∷ digit n h' ∷ []) o → Gathered n es l' h' d' order'
      unfolding in_order
      uses_gathered order' p = record {
        columns = columns;
        sorted =
            p
            ∙ ap (passed (digit n l' ∷ digit n h' ∷ [])) (is ∙ ap (span 0) (r.later ∙ sym long ∙ sym (length-map es lower_of) ∙ ap length (sym columns.lower)));
      }

  -- ---- what is gathered

  module _ (l h d order : List ℕ) (g : Gathered n es l h d order) where
    lower_long : length l ≡ length es
    lower_long = ap length g.columns.lower ∙ length-map es lower_of

    pub uses_order : order ≡ passed (digit n (lowers es) ∷ digit n (highers es) ∷ []) (span 0 (length es))
    unfolding in_order
    uses_order =
        g.sorted
        ∙ ap (λ (k : ℕ). passed (digit n l ∷ digit n h ∷ []) (span 0 k)) lower_long
        ∙ ap₂ (λ (a b : List ℕ). passed (digit n a ∷ digit n b ∷ []) (span 0 (length es))) g.columns.lower g.columns.higher

    pub order_row : Row (length es) order
    order_row =
        subst (Row (length es)) (sym uses_order)
        (passed_row (length es) (digit n (lowers es) ∷ digit n (highers es) ∷ []) (span 0 (length es)) (lower_column, (higher_column, tt)) (row_span (length es)))

    -- one place for each use, and the columns have each
    pub uses_room : length order ≡ length cs / width
    uses_room = order_row.long ∙ long

    pub uses_ready : Ready l h d order
    uses_ready = record {
      few = omega (arith, uses_room, fits);
      higher = ap length g.columns.higher ∙ length-map es higher_of ∙ sym lower_long;
      down = ap length g.columns.down ∙ length-map es down_of ∙ sym lower_long;
      known = subst (λ (k : ℕ). All (λ u. u < k) order) (sym lower_long) order_row.below;
    }
