-- All wires in a loop: those that are written, and behind them those that are still to come, are the whole. Assumes nothing.
use mathlib.Core.Path.{◌≡◌, sym, ap, ◌∙◌, subst}
use mathlib.Core.List.{List, [], ◌++◌, map, map-append}
use Prim.Native.Nat.{ℕ, suc, ◌+◌, ◌≤◌, ◌<◌}
use native.Mathlib.Numerals.{add-one}
use native.Mathlib.Omega.{arith}
use lib.ListN.{length, get_or, drop, length-map, length-append}
use lib.Seq.{drop-cons, drop-length}
use Rattle.lists.specs.Lists.{joined}
use Rattle.lists.proofs.Parts.{joined_append}
use Rattle.lists.proofs.Growing.{Growing, grow_part, grow_ends, grow_room}
use Rattle.tracing.specs.Hems.{Written}
use Rattle.trailing.specs.Trailing.{Wire, wire_from, new_wire, wires_by, Addable, Added, AllLeft}
use Rattle.trailing.proofs.Walks.{wire_row, wires_none, wires_on}

-- wires that are being written, as a flat list and a list of lengths
pub record Growth (flat₀ lengths₀ flat lengths : List ℕ) (m k : ℕ) (all left : List (List ℕ)) : Type 0 where
  pub flat_on : Growing flat₀ flat 0 m (joined all) (joined left)
  pub lengths_on : Growing lengths₀ lengths 0 k (map length all) (map length left)

pub record Scanning (starts follows order left₀ flat₀ lengths₀ left flat lengths : List ℕ) (m k i : ℕ) : Type 0 where
  pub within : i ≤ length order
  pub long : length left ≡ length left₀
  pub growth : Growth flat₀ lengths₀ flat lengths m k (wires_by starts follows order left₀) (wires_by starts follows (drop i order) left)

module _
    {starts follows order left₀ flat₀ lengths₀ left flat lengths : List ℕ} {m k i : ℕ}
    (pre : AllLeft starts follows left₀ order flat₀ lengths₀) (s : Scanning starts follows order left₀ flat₀ lengths₀ left flat lengths m k i) where
  abbrev ws : List (List ℕ)
  ws = wires_by starts follows order left₀

  pub flat_long : length flat ≡ length flat₀
  flat_long = s.growth.flat_on.long

  pub lengths_long : length lengths ≡ length lengths₀
  lengths_long = s.growth.lengths_on.long

  module _ (h : i < length order) where
    abbrev u : ℕ
    u = get_or order i 0

    abbrev new : List (List ℕ)
    new = new_wire starts follows u left

    abbrev w : Wire
    w = wire_from starts follows u left

    opened : wires_by starts follows (drop i order) left ≡ new ++ wires_by starts follows (drop (i + 1) order) w.1
    opened =
        ap (λ (l : List ℕ). wires_by starts follows l left) (drop-cons order i 0 h)
        ∙ wires_on starts follows u (drop (suc i) order) left
        ∙ ap (λ (j : ℕ). new ++ wires_by starts follows (drop j order) w.1) (sym (add-one i))

    abbrev rest : List (List ℕ)
    rest = wires_by starts follows (drop (i + 1) order) w.1

    flat_open : Growing flat₀ flat 0 m (joined ws) (joined new ++ joined rest)
    flat_open =
        subst (λ (l : List ℕ). Growing flat₀ flat 0 m (joined ws) l) (ap joined opened ∙ joined_append new rest) s.growth.flat_on

    lengths_open : Growing lengths₀ lengths 0 k (map length ws) (map length new ++ map length rest)
    lengths_open =
        subst (λ (l : List ℕ). Growing lengths₀ lengths 0 k (map length ws) l) (ap (map length) opened ∙ map-append length new rest) s.growth.lengths_on

    pub scan_ready : (v : ℕ) → v ≡ get_or order i 0 → Addable starts follows left v flat lengths m k
    scan_ready v e =
        let a : m + length (joined new ++ joined rest) ≤ length flat =
        grow_room flat₀ flat 0 m (joined ws) (joined new ++ joined rest) (omega (arith, pre.room.numbers)) flat_open in
        let b : length (joined new ++ joined rest) ≡ length (joined new) + length (joined rest) = length-append (joined new) (joined rest) in
        let c : k + length (map length new ++ map length rest) ≤ length lengths =
        grow_room lengths₀ lengths 0 k (map length ws) (map length new ++ map length rest) (let n : _ = length-map ws length in omega (arith, pre.room.wires)) lengths_open in
        let d : length (map length new ++ map length rest) ≡ length (map length new) + length (map length rest) = length-append (map length new) (map length rest) in
        let n : length (map length new) ≡ length new = length-map new length in
        rw e
        (record {
          rows = record {
            few = rw s.long pre.rows.few;
            started = pre.rows.started ∙ sym s.long;
            followed = pre.rows.followed ∙ sym s.long;
            inside = rw s.long pre.rows.inside;
          };
          inside = rw s.long (pre.known i h);
          room = omega arith;
          slots = omega arith;
        })

    pub scan_turns :
        {left' flat' lengths' : List ℕ} {m' k' : ℕ} (v : ℕ) → v ≡ get_or order i 0
        → Added (new_wire starts follows v left) (wire_from starts follows v left).1 flat lengths m k left' flat' lengths' m' k'
        → Scanning starts follows order left₀ flat₀ lengths₀ left' flat' lengths' m' k' (i + 1)
    scan_turns {left'} {flat'} {lengths'} {m'} {k'} v e a =
        go (subst (λ (x : ℕ). Added (new_wire starts follows x left) (wire_from starts follows x left).1 flat lengths m k left' flat' lengths' m' k') e a)
      where
        go :
            Added (new_wire starts follows (get_or order i 0) left) (wire_from starts follows (get_or order i 0) left).1 flat lengths m k left' flat' lengths' m' k'
            → Scanning starts follows order left₀ flat₀ lengths₀ left' flat' lengths' m' k' (i + 1)
        go d =
            let n : k' ≡ k + length (map length new) = d.wires_is ∙ ap (λ (x : ℕ). k + x) (sym (length-map new length)) in
            rw (d.left_is, d.flat_is, d.lengths_is, d.numbers_is, n)
            (record {
              within = omega arith;
              long = wire_row starts follows u left ∙ s.long;
              growth = record {
                flat_on = grow_part flat₀ flat 0 m (joined ws) (joined new) (joined rest) flat_open;
                lengths_on = grow_part lengths₀ lengths 0 k (map length ws) (map length new) (map length rest) lengths_open;
              };
            })

  pub scan_ends : length order ≤ i → Written ws flat₀ lengths₀ flat lengths m k
  scan_ends h =
      let z : i ≡ length order = omega (arith, s.within) in
      let e : wires_by starts follows (drop i order) left ≡ [] =
      ap (λ (l : List ℕ). wires_by starts follows l left) (ap (λ (j : ℕ). drop j order) z ∙ drop-length order) ∙ wires_none starts follows left in
      let f : Growing flat₀ flat 0 m (joined ws) [] = subst (λ (l : List (List ℕ)). Growing flat₀ flat 0 m (joined ws) (joined l)) e s.growth.flat_on in
      let g : Growing lengths₀ lengths 0 k (map length ws) [] =
      subst (λ (l : List (List ℕ)). Growing lengths₀ lengths 0 k (map length ws) (map length l)) e s.growth.lengths_on in
      let n : length (map length ws) ≡ length ws = length-map ws length in
      record {
        flat_is = grow_ends flat₀ flat 0 m (joined ws) f;
        lengths_is = grow_ends lengths₀ lengths 0 k (map length ws) g;
        numbers_is = let p : m + 0 ≡ 0 + length (joined ws) = f.place in omega arith;
        wires_is = let p : k + 0 ≡ 0 + length (map length ws) = g.place in omega arith;
      }
