-- The list of an accepted mesh: what the wires, the lengths and the panels are given, and what is answered: 10, or the list.
-- Assumes nothing.
use mathlib.Core.Path.{◌≡◌, refl, sym, ap, ap₂, ◌∙◌, subst}
use mathlib.Core.Bool.{true, not}
use mathlib.Core.List.{List, [], ◌∷◌, map}
use Prim.Native.Nat.{ℕ, ◌/◌, ◌≤◌, ◌<◌}
use native.Mathlib.Omega.{arith}
use lib.IntN.{ℤ}
use lib.ListN.{length, take, get_or, length-map}
use lib.Seq.{sets}
use borrow.Author.Tests.{not-false}
use Rattle.lists.specs.Lists.{joined, sum}
use Rattle.lists.specs.Cutting.{parts}
use Rattle.lists.specs.Putting.{Front}
use Rattle.lists.proofs.Cutting.{parts_back}
use Rattle.lists.proofs.Fronts.{front}
use Rattle.lists.proofs.Parts.{length_joined}
use Rattle.mesh.specs.Limits.{width, corner_limit}
use Rattle.mesh.specs.Mesh.{Ring, rings}
use Rattle.mesh.specs.Listed.{listed_of}
use Rattle.mesh.specs.Table.{when}
use Rattle.mesh.proofs.After.{after_done, after_refused}
use Rattle.mesh.proofs.Edges.{length_ring}
use Rattle.mesh.proofs.Numbers.{when_not}
use Rattle.edges.specs.Edges.{Edge, ring_edges, edges_of, hems, verdict}
use Rattle.edges.proofs.OfHems.{hems_within}
use Rattle.tracing.specs.Answers.{Answered}
use Rattle.turning.specs.Turning.{house_wires_of}
use Rattle.house.specs.Answers.{wired, HouseOf, HouseDone}
use Rattle.house.specs.declared.Housed.{Housed}
use Rattle.house.proofs.Given.{fit_of, house_turns}
use Rattle.hemlist.specs.HemList.{point_of, hem_length, hem_panels, hem_edges, hem_lengths}
use Rattle.hemlist.specs.Answer.{hem_lists_of}
use Rattle.hemlist.specs.declared.Listed.{Listed}
use Rattle.measured.specs.Measured.{Measurable}
use Rattle.ofpanel.specs.OfPanel.{Panelled}
use Rattle.listing.specs.Listing.{ListRow, ListDone, refused_by}
use Rattle.listing.proofs.Placing.{wire_below, placed}

-- as many edges as positions, wire by wire
edges_counted : (ws : List (List ℕ)) → map length ws ≡ map (λ (w : List ℕ). length (ring_edges w)) ws
edges_counted [] = refl
edges_counted (w ∷ ws) = ap₂ (λ (a : ℕ) (l : List ℕ). a ∷ l) (sym (length_ring w)) (edges_counted ws)

module _
    {c s : List ℕ} {n : ℕ} {cs : List ℤ} {flat panels edges lengths : List ℕ} (row : ListRow c s n cs flat panels edges lengths) where
  abbrev fs : List Ring
  fs = rings s c

  abbrev es : List Edge
  es = edges_of fs

  abbrev ws : List (List ℕ)
  ws = house_wires_of fs

  few_corners : length c / width ≤ corner_limit
  few_corners = omega (arith, row.listable.edged.sound.fits)

  few_hems : length (hems es) ≤ length c / width
  few_hems = hems_within c s n row.listable.edged

  pub house_room : HouseOf c s n flat edges
  house_room = record {
    edged = row.listable.edged;
    numbers = omega (arith, few_corners, row.flat_long);
    wires = row.listable.edge_room;
  }

  module _ {flat₁ edges₁ : List ℕ} {r : Housed} (housed : HouseDone fs (listed_of flat edges) (listed_of flat₁ edges₁) r) where
    -- 10 where the verdict does not allow wires
    abbrev refusal : ℕ
    refusal = when (not (wired (verdict es))) 10

    wired_by : Answered refusal ws (listed_of flat edges) (listed_of flat₁ edges₁) r.wires
    wired_by = housed.answered

    -- ---- refused: nothing is written

    pub list_refused :
        {answer : Listed} → (r.wires.number ≡ 0 → ⊥) → answer ≡ refused_by r.wires.number
        → ListDone cs fs (hem_lists_of panels edges lengths) (hem_lists_of panels edges₁ lengths) answer
    list_refused {answer} h e =
        let number : answer.number ≡ refusal = ap (λ (a : Listed). a.number) e ∙ wired_by.number_is in
        let not_done : refusal ≡ 0 → ⊥ = λ z. h (wired_by.number_is ∙ z) in
        let not-0 : answer.number ≡ 0 → ⊥ = λ z. not_done (sym number ∙ z) in
        record {
          number = number;
          hem_count_is = ap (λ (a : Listed). a.hems) e ∙ sym (after_refused answer.number _ _ not-0);
          panels = sym (after_refused answer.number _ _ not-0);
          edges = wired_by.lengths_is ∙ after_refused refusal _ _ not_done ∙ sym (after_refused answer.number _ _ not-0);
          lengths = sym (after_refused answer.number _ _ not-0);
        }

    -- ---- done: the wires stand at the front of the lists

    module _ (zero : r.wires.number ≡ 0) where
      abbrev numbers : ℕ
      numbers = r.wires.flat

      abbrev wires : ℕ
      wires = r.wires.wires

      done : refusal ≡ 0
      done = sym wired_by.number_is ∙ zero

      fit : wired (verdict es) ≡ true
      fit = not-false (wired (verdict es)) (when_not (not (wired (verdict es))) 9 done)

      count_flat : numbers ≡ length (joined ws)
      count_flat = wired_by.flat_count ∙ after_done _ _ _ done

      count_wires : wires ≡ length ws
      count_wires = wired_by.wire_count ∙ after_done _ _ _ done

      numbers_few : numbers ≤ length c / width
      numbers_few = omega (arith, count_flat, (house_turns fs fit).edges_add_up, few_hems)

      wires_few : wires ≤ length c / width
      wires_few = omega (arith, count_wires, (house_turns fs fit).wires_few, few_hems)

      front_flat : Front flat₁ (joined ws) numbers
      front_flat =
          front flat (wired_by.flat_is ∙ after_done _ _ _ done) (sym count_flat) (omega (arith, numbers_few, few_corners, row.flat_long))

      front_edges : Front edges₁ (map length ws) wires
      front_edges =
          front edges (wired_by.lengths_is ∙ after_done _ _ _ done) (length-map ws length ∙ sym count_wires)
          (omega (arith, wires_few, row.listable.edge_room))

      pub flat_fits : numbers ≤ length flat₁
      flat_fits = front_flat.within

      pub flat_counted : numbers ≡ length (take numbers flat₁)
      flat_counted = front_flat.long

      pub edges_fit : wires ≤ length edges₁
      edges_fit = front_edges.within

      pub edges_long : wires ≡ length (take wires edges₁)
      edges_long = front_edges.long

      wires_are : parts (take wires edges₁) (take numbers flat₁) ≡ ws
      wires_are = rw (front_flat.is, front_edges.is) (parts_back ws)

      added : sum (take wires edges₁) ≤ length (take numbers flat₁)
      added = omega (arith, ap sum front_edges.is, ap length front_flat.is, length_joined ws)

      position_placed : (i : ℕ) → i < length (take numbers flat₁) → get_or (take numbers flat₁) i 0 < n
      position_placed =
          subst (λ (l : List ℕ). (i : ℕ) → i < length l → get_or l i 0 < n) (sym front_flat.is) (wire_below c s n row.listable.edged fit)

      pub measurable : Measurable (take numbers flat₁) (take wires edges₁) cs lengths
      measurable = record {
        within = added;
        few = omega (arith, flat_counted, numbers_few, few_corners);
        few_hems = omega (arith, edges_long, wires_few, few_corners);
        placed = λ i h. placed row.listable.located _ (position_placed i h);
        room = omega (arith, edges_long, wires_few, row.listable.length_room);
      }

      pub panelled : Panelled c s n (take numbers flat₁) (take wires edges₁) panels
      panelled = record {
        edged = row.listable.edged;
        keyable = row.listable.keyable;
        fit = fit_of (verdict es) fit;
        wires = wires_are;
        within = added;
        few = omega (arith, flat_counted, numbers_few);
        few_hems = omega (arith, edges_long, wires_few);
        room = omega (arith, edges_long, wires_few, row.listable.panel_room);
      }

      edges_are : edges₁ ≡ sets edges 0 (hem_edges fs)
      unfolding hem_edges
      edges_are = wired_by.lengths_is ∙ after_done _ _ _ done ∙ ap (sets edges 0) (edges_counted ws)

      lengths_are :
          {lengths₁ : List ℕ} → lengths₁ ≡ sets lengths 0 (map (hem_length (point_of cs)) (parts (take wires edges₁) (take numbers flat₁)))
          → lengths₁ ≡ sets lengths 0 (hem_lengths (point_of cs) fs)
      unfolding hem_lengths
      lengths_are e = e ∙ ap (λ (l : List (List ℕ)). sets lengths 0 (map (hem_length (point_of cs)) l)) wires_are

      pub list_done :
          {panels₁ lengths₁ : List ℕ} → lengths₁ ≡ sets lengths 0 (map (hem_length (point_of cs)) (parts (take wires edges₁) (take numbers flat₁)))
          → panels₁ ≡ sets panels 0 (hem_panels fs)
          → ListDone cs fs (hem_lists_of panels edges lengths) (hem_lists_of panels₁ edges₁ lengths₁) (record { number = 0; hems = wires })
      list_done l p = record { number = sym done; hem_count_is = count_wires; panels = p; edges = edges_are; lengths = lengths_are l }
