-- The lines of all hems, one behind the other. Assumes nothing.
use mathlib.Core.Path.{◌≡◌, ap, ◌∙◌}
use mathlib.Core.List.{List}
use Prim.Native.Nat.{ℕ, ◌+◌, ◌≤◌, ◌<◌}
use native.Mathlib.Nat.{zero-add}
use native.Mathlib.Omega.{arith}
use lib.ListN.{length, get_or}
use Rattle.lists.specs.Lists.{span}
use Rattle.lists.specs.Putting.{Room, Written}
use Rattle.lists.proofs.Buckets.{length_span, span_at}
use Rattle.lists.proofs.Listing.{Listing, listing_room, listing_turns, listing_ends}
use Rattle.hemlines.specs.HemLines.{hem_line, line_at, hem_lines}
use Rattle.hemlines.specs.Working.{Beside}

-- the lines of the first k hems are put
pub record Hemming (ps es ls o o' : List ℕ) (at to k : ℕ) : Type 0 where
  pub listing : Listing (line_at ps es ls) (span 0 (length ps)) o o' at to k

module _ (ps es ls o : List ℕ) (at : ℕ) where
  module _ (o' : List ℕ) (to k p e : ℕ) (h : k < length ps) (ep : p ≡ get_or ps k 0) (ee : e ≡ get_or es k 0) (n : Hemming ps es ls o o' at to k) where
    inside : k < length (span 0 (length ps))
    inside = omega (arith, length_span 0 (length ps))

    this : line_at ps es ls (get_or (span 0 (length ps)) k 0) ≡ hem_line p e (get_or ls k 0)
    this = ap (line_at ps es ls) (span_at 0 (length ps) k 0 h ∙ zero-add k) ∙ rw (ep, ee)

    pub hemming_room : Beside ps es ls o at → Room (hem_line p e (get_or ls k 0)) o' to
    unfolding hem_lines
    hemming_room b = rw this at (listing_room 0 (line_at ps es ls) (span 0 (length ps)) o at o' to k inside b.room n.listing)

    pub hemming_turns : (o'' : List ℕ) (next : ℕ) → Written (hem_line p e (get_or ls k 0)) o' o'' to next → Hemming ps es ls o o'' at next (k + 1)
    hemming_turns o'' next w = record {
      listing = listing_turns 0 (line_at ps es ls) (span 0 (length ps)) o at o' o'' to next k inside n.listing (rw this w);
    }

  pub hemming_ends : (o' : List ℕ) (to k : ℕ) → length ps ≤ k → Hemming ps es ls o o' at to k → Written (hem_lines ps es ls) o o' at to
  unfolding hem_lines
  hemming_ends o' to k h n =
      listing_ends 0 (line_at ps es ls) (span 0 (length ps)) o at o' to k (omega (arith, length_span 0 (length ps))) n.listing
