-- The wires of a flat list, and their lines one behind the other. Assumes nothing.
use mathlib.Core.Path.{◌≡◌, refl, sym, ap, ◌∙◌}
use mathlib.Core.Option.{none, some}
use mathlib.Core.List.{List, []}
use Prim.Native.Nat.{ℕ, zero, suc, ◌+◌, ◌-◌, ◌≤◌, ◌<◌}
use native.Mathlib.Omega.{arith}
use lib.ListN.{length, get_or, take, drop}
use Rattle.lists.specs.Lists.{sum}
use Rattle.lists.specs.Cutting.{parts}
use Rattle.lists.proofs.Cutting.{length_parts, parts_at}
use Rattle.lists.proofs.Parts.{sum_step, sum_at}
use Rattle.lists.specs.Putting.{Room, Written}
use Rattle.lists.proofs.Listing.{Listing, listing_room, listing_turns, listing_ends}
use Rattle.lines.specs.Lines.{hem_line, hem_lines}
use Rattle.lines.specs.Working.{wires_by, Wired}

-- the lines of the first k wires are written, and wire k starts at `from`
pub record Hemming (flat lengths o o' : List ℕ) (at to from k : ℕ) : Type 0 where
  pub listing : Listing hem_line (parts lengths flat) o o' at to k
  pub offset : from ≡ sum (take k lengths)

module _ (flat lengths o : List ℕ) (at : ℕ) where
  -- wire k lies within the flat list
  pub hemming_within : (o' : List ℕ) (to from k : ℕ) → k < length lengths → Wired 0 flat lengths o at → Hemming flat lengths o o' at to from k → from + get_or lengths k 0 ≤ length flat
  hemming_within o' to from k h w n = omega (arith, w.within, n.offset, sum_at lengths k h)

  here : (o' : List ℕ) (to from k : ℕ) → k < length lengths → Hemming flat lengths o o' at to from k
      → take (from + get_or lengths k 0 - from) (drop from flat) ≡ get_or (parts lengths flat) k []
  here o' to from k h n =
      let e : from + get_or lengths k 0 - from ≡ get_or lengths k 0 = omega arith in
      rw e (ap (λ (i : ℕ). take (get_or lengths k 0) (drop i flat)) n.offset ∙ sym (parts_at lengths flat k h))

  pub hemming_room : (o' : List ℕ) (to from k : ℕ) → k < length lengths → Wired 0 flat lengths o at → Hemming flat lengths o o' at to from k
      → Room (hem_line (take (from + get_or lengths k 0 - from) (drop from flat))) o' to
  unfolding hem_lines wires_by
  hemming_room o' to from k h w n =
      rw (here o' to from k h n)
      (listing_room [] hem_line (parts lengths flat) o at o' to k (rw (length_parts lengths flat) h) w.room n.listing)

  pub hemming_turns : (o' o'' : List ℕ) (to next from end k : ℕ) → k < length lengths → end ≡ from + get_or lengths k 0
      → Hemming flat lengths o o' at to from k → Written (hem_line (take (from + get_or lengths k 0 - from) (drop from flat))) o' o'' to next
      → Hemming flat lengths o o'' at next end (k + 1)
  hemming_turns o' o'' to next from end k h e n w = record {
    listing =
        listing_turns [] hem_line (parts lengths flat) o at o' o'' to next k (rw (length_parts lengths flat) h) n.listing (rw (here o' to from k h n) at w);
    offset = omega (arith, e, n.offset, sum_step lengths k h);
  }

  pub hemming_ends : (o' : List ℕ) (to from k : ℕ) → length lengths ≤ k → Hemming flat lengths o o' at to from k
      → Written (hem_lines (some (parts lengths flat))) o o' at to
  unfolding hem_lines
  hemming_ends o' to from k h n =
      listing_ends [] hem_line (parts lengths flat) o at o' to k (rw (length_parts lengths flat) h) n.listing

-- with 0 there is a line for each wire; with another number there is the one line that says so
pub hem_lines_lem : (n : ℕ) (flat lengths : List ℕ) → n ≡ 0 → hem_lines (wires_by n flat lengths) ≡ hem_lines (some (parts lengths flat))
unfolding wires_by
hem_lines_lem zero flat lengths h = refl
hem_lines_lem (suc n) flat lengths h = absurd (omega arith)

pub refused_lines : (n : ℕ) (flat lengths : List ℕ) → (n ≡ 0 → ⊥) → hem_lines (wires_by n flat lengths) ≡ hem_lines none
unfolding wires_by
refused_lines zero flat lengths h = absurd (h refl)
refused_lines (suc n) flat lengths h = refl
