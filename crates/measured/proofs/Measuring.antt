-- The hems of a flat list, measured one after the other: `Measuring` is the loop's invariant, with what begins, turns and ends it.
-- Assumes nothing.
use mathlib.Core.Path.{◌≡◌, sym, ap, ◌∙◌, subst}
use mathlib.Core.List.{List, [], map}
use Prim.Native.Nat.{ℕ, ◌+◌, ◌-◌, ◌≤◌, ◌<◌}
use native.Mathlib.Nat.{zero-add}
use native.Mathlib.Omega.{arith}
use lib.ListN.{length, get_or, take, drop, set, length-map, length-drop}
use lib.Seq.{sets, length-take-le, get_or-take, get_or-drop}
use lib.IntN.{ℤ}
use Rattle.lists.specs.Lists.{sum}
use Rattle.lists.specs.Cutting.{parts}
use Rattle.lists.proofs.Parts.{sum_step, sum_at}
use Rattle.lists.proofs.Cutting.{length_parts, parts_at}
use Rattle.lists.proofs.Changing.{map_at}
use Rattle.lists.proofs.Writing.{Copying, copy_turns, copy_ends}
use Rattle.hemlist.specs.HemList.{point_of, hem_length}
use Rattle.measured.specs.Measured.{Measurable, Walkable}

-- the lengths of the first k hems are put, and hem k starts at `from`
pub record Measuring (flat edges : List ℕ) (cs : List ℤ) (o o' : List ℕ) (from k : ℕ) : Type 0 where
  pub copying : Copying (map (hem_length (point_of cs)) (parts edges flat)) o o' 0 k
  pub offset : from ≡ sum (take k edges)

module _ (flat edges : List ℕ) (cs : List ℤ) (o : List ℕ) where
  abbrev lengths : List ℕ
  lengths = map (hem_length (point_of cs)) (parts edges flat)

  lengths_long : length lengths ≡ length edges
  lengths_long = length-map (parts edges flat) (hem_length (point_of cs)) ∙ length_parts edges flat

  module _ (w : Measurable flat edges cs o) (o' : List ℕ) (from k : ℕ) (h : k < length edges) (m : Measuring flat edges cs o o' from k) where
    -- hem k lies within the flat list
    pub hem_within : from + get_or edges k 0 ≤ length flat
    hem_within = omega (arith, w.within, m.offset, sum_at edges k h)

    -- its positions have their points
    pub hem_walkable : Walkable (take (from + get_or edges k 0 - from) (drop from flat)) cs
    hem_walkable =
        let n : ℕ = from + get_or edges k 0 - from in
        let s : length (take n (drop from flat)) ≡ n = length-take-le n (drop from flat) (omega (arith, hem_within, length-drop from flat)) in
        record {
          few = omega (arith, s, hem_within, w.few);
          placed = λ i l.
              let b : i < n = omega (arith, s, l) in
              rw (get_or-take n (drop from flat) i 0 b, get_or-drop from flat i 0) (w.placed (from + i) (omega (arith, hem_within, b)));
        }

    here : take (from + get_or edges k 0 - from) (drop from flat) ≡ get_or (parts edges flat) k []
    here =
        let e : from + get_or edges k 0 - from ≡ get_or edges k 0 = omega arith in
        rw e (ap (λ (i : ℕ). take (get_or edges k 0) (drop i flat)) m.offset ∙ sym (parts_at edges flat k h))

    pub measure_turns :
        (end r : ℕ) → end ≡ from + get_or edges k 0 → r ≡ hem_length (point_of cs) (take (from + get_or edges k 0 - from) (drop from flat))
        → Measuring flat edges cs o (set o' k r) end (k + 1)
    measure_turns end r e f =
        let t : r ≡ get_or lengths k 0 =
        f ∙ ap (hem_length (point_of cs)) here
        ∙ sym (map_at (hem_length (point_of cs)) [] 0 (parts edges flat) k (omega (arith, length_parts edges flat))) in
        record {
          copying =
              subst (λ (x : ℕ). Copying lengths o (set o' k x) 0 (k + 1)) (sym t)
              (subst (λ (i : ℕ). Copying lengths o (set o' i (get_or lengths k 0)) 0 (k + 1)) (zero-add k)
              (copy_turns 0 lengths o o' 0 k (omega (arith, lengths_long)) m.copying));
          offset = omega (arith, e, m.offset, sum_step edges k h);
        }

  pub measure_ends : (o' : List ℕ) (from k : ℕ) → length edges ≤ k → Measuring flat edges cs o o' from k → o' ≡ sets o 0 lengths
  measure_ends o' from k h m = copy_ends 0 lengths o o' 0 k (omega (arith, lengths_long)) m.copying
