-- One wire in a loop: what is written, and behind it what is still to come, is the whole wire. Assumes nothing.
use mathlib.Core.Path.{◌≡◌, refl, sym, ap, ◌∙◌, subst}
use mathlib.Core.Bool.{true, false}
use mathlib.Core.List.{List, [], ◌∷◌, map, append-nil}
use Prim.Native.Nat.{ℕ, suc, ◌+◌, ◌-◌, ◌≤◌, ◌<◌}
use native.Mathlib.Nat.{add-zero}
use native.Mathlib.Omega.{arith}
use lib.ListN.{length, get_or, set, length-set}
use lib.Seq.{sets}
use Rattle.lists.specs.Lists.{joined}
use Rattle.lists.proofs.Growing.{Growing, grow_turns, grow_ends, grow_room}
use Rattle.mesh.specs.Limits.{corner_limit}
use Rattle.tracing.specs.Tables.{nobody}
use Rattle.trailing.specs.Trailing.{is_left, used, left_count, Wire, longer, wire_from, new_wire, Walkable, Walked, Addable, Added}
use Rattle.trailing.proofs.Walks.{left_fewer, wire_used, wire_closed, wire_short, new_one, new_none}

pub record Walking (starts follows left₀ flat₀ : List ℕ) (first at : ℕ) (left flat : List ℕ) (m u : ℕ) : Type 0 where
  pub inside : u < length left
  pub long : length left ≡ length left₀
  pub row : (wire_from starts follows u left).1 ≡ (wire_from starts follows first left₀).1
  pub growing : Growing flat₀ flat at m (wire_from starts follows first left₀).0 (wire_from starts follows u left).0

module _
    {starts follows left₀ flat₀ : List ℕ} {first at : ℕ} {left flat : List ℕ} {m u : ℕ}
    (pre : Walkable starts follows left₀ first flat₀ at) (w : Walking starts follows left₀ flat₀ first at left flat m u) where
  few : length left ≤ corner_limit
  few = omega (arith, w.long, pre.rows.few)

  -- its edge is left
  module _ (is : is_left left u ≡ true) where
    on : wire_from starts follows u left ≡ longer (get_or starts u 0) (wire_from starts follows (get_or follows u 0) (used left u))
    on = wire_used starts follows u left few w.inside is

    growing_on : Growing flat₀ flat at m (wire_from starts follows first left₀).0 (get_or starts u 0 ∷ (wire_from starts follows (get_or follows u 0) (used left u)).0)
    growing_on = subst (λ (v : Wire). Growing flat₀ flat at m (wire_from starts follows first left₀).0 v.0) on w.growing

    pub walk_room : m < length flat
    walk_room =
        let a : m + suc (length (wire_from starts follows (get_or follows u 0) (used left u)).0) ≤ length flat =
        grow_room flat₀ flat at m (wire_from starts follows first left₀).0 (get_or starts u 0 ∷ (wire_from starts follows (get_or follows u 0) (used left u)).0) pre.room growing_on in
        omega arith

    pub walk_turns :
        (v : ℕ) → v ≡ get_or follows u 0 → Walking starts follows left₀ flat₀ first at (used left u) (set flat m (get_or starts u 0)) (m + 1) v
    walk_turns v e =
        let l : length (used left u) ≡ length left = length-set left u nobody in
        rw e
        (record {
          inside = let a : get_or follows u 0 < length left₀ = pre.rows.inside u (omega (arith, w.inside, w.long)) in omega (arith, l, w.long);
          long = l ∙ w.long;
          row = sym (ap (λ (x : Wire). x.1) on) ∙ w.row;
          growing = grow_turns flat₀ flat at m (wire_from starts follows first left₀).0 (get_or starts u 0) (wire_from starts follows (get_or follows u 0) (used left u)).0 growing_on;
        })

    pub walk_less : left_count (used left u) < left_count left
    walk_less = omega (arith, left_fewer left u few w.inside is)

  -- it is used
  pub walk_ends : is_left left u ≡ false → Walked (wire_from starts follows first left₀) flat₀ at left flat m
  walk_ends is =
      let c : wire_from starts follows u left ≡ ([], left) = wire_closed starts follows u left is in
      let g : Growing flat₀ flat at m (wire_from starts follows first left₀).0 [] =
      subst (λ (v : Wire). Growing flat₀ flat at m (wire_from starts follows first left₀).0 v.0) c w.growing in
      record {
        left_is = sym (ap (λ (v : Wire). v.1) c) ∙ w.row;
        flat_is = grow_ends flat₀ flat at m (wire_from starts follows first left₀).0 g;
        end_is = let p : m + 0 ≡ at + length (wire_from starts follows first left₀).0 = g.place in omega arith;
      }

-- ---- one wire more, or none

module _ {starts follows left : List ℕ} {u : ℕ} {flat lengths : List ℕ} {numbers wires : ℕ} (pre : Addable starts follows left u flat lengths numbers wires) where
  abbrev w : Wire
  w = wire_from starts follows u left

  pub add_none : is_left left u ≡ false → Added (new_wire starts follows u left) w.1 flat lengths numbers wires left flat lengths numbers wires
  add_none is =
      rw (new_none starts follows u left is, wire_closed starts follows u left is)
      (record { left_is = refl; flat_is = refl; lengths_is = refl; numbers_is = sym (add-zero numbers); wires_is = sym (add-zero wires) })

  module _ (is : is_left left u ≡ true) where
    one : new_wire starts follows u left ≡ w.0 ∷ []
    one = new_one starts follows u left is

    one_joined : joined (new_wire starts follows u left) ≡ w.0
    one_joined = ap joined one ∙ append-nil w.0

    pub add_walkable : Walkable starts follows left u flat numbers
    add_walkable = record {
      rows = pre.rows;
      inside = pre.inside;
      room = let r : _ = pre.room in let e : _ = ap length one_joined in omega arith;
    }

    pub add_slot : wires < length lengths
    add_slot = let r : _ = pre.slots in let e : _ = ap length one in omega arith

    pub add_small : length w.0 ≤ corner_limit
    add_small = omega (arith, wire_short starts follows u left, pre.rows.few)

    pub add_one_more :
        {left' flat' : List ℕ} {end : ℕ} → Walked w flat numbers left' flat' end
        → Added (new_wire starts follows u left) w.1 flat lengths numbers wires left' flat' (set lengths wires (end - numbers)) end (wires + 1)
    add_one_more {left'} {flat'} {end} d =
        let z : end - numbers ≡ length w.0 = omega (arith, d.end_is) in
        record {
          left_is = d.left_is;
          flat_is = d.flat_is ∙ ap (sets flat numbers) (sym one_joined);
          lengths_is = ap (set lengths wires) z ∙ ap (λ (ws : List (List ℕ)). sets lengths wires (map length ws)) (sym one);
          numbers_is = d.end_is ∙ ap (λ (l : List ℕ). numbers + length l) (sym one_joined);
          wires_is = ap (λ (ws : List (List ℕ)). wires + length ws) (sym one);
        }
