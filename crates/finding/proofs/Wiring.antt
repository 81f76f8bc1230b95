-- What is found in an accepted mesh: how many panels it has, its verdict, and its house wires at the front of the two lists, as the
-- sheet's lines take them. Assumes nothing.
use mathlib.Core.Path.{◌≡◌, ◌∙◌, sym, ap}
use mathlib.Core.List.{List, [], map}
use mathlib.Core.Bool.{true, false, cond, not}
use mathlib.Core.Option.{none, some}
use Prim.Native.Nat.{◌/◌, ◌≤◌, ℕ}
use native.Mathlib.Omega.{arith}
use lib.ListN.{length, take, length-map}
use lib.Seq.{length-sets, length-take-le}
use Rattle.lists.specs.Lists.{joined, sum}
use Rattle.lists.specs.Putting.{Front}
use Rattle.lists.proofs.Bools.{by_cases}
use Rattle.lists.proofs.Cutting.{parts_back}
use Rattle.lists.proofs.Fronts.{front}
use Rattle.lists.proofs.Parts.{length_joined}
use Rattle.mesh.specs.Limits.{width, corner_limit, face_limit}
use Rattle.mesh.specs.Mesh.{Ring, rings}
use Rattle.mesh.specs.Listed.{listed_of}
use Rattle.mesh.specs.Table.{when}
use Rattle.mesh.proofs.After.{after_done, after_refused, after_length}
use Rattle.mesh.proofs.Faces.{length_rings}
use Rattle.edges.specs.Edges.{Edge, edges_of, hems, verdict}
use Rattle.edges.proofs.OfHems.{hems_within}
use Rattle.tracing.specs.Answers.{Answered}
use Rattle.turning.specs.Turning.{house_wires_of}
use Rattle.house.specs.Answers.{wired, HouseDone}
use Rattle.house.specs.declared.Housed.{Housed}
use Rattle.house.proofs.Given.{house_turns}
use Rattle.panels.specs.Panels.{joins, panels}
use Rattle.searching.specs.Walk.{Parted}
use Rattle.searching.proofs.Parting.{panels_few}
use Rattle.lines.specs.Lines.{sheet_text}
use Rattle.lines.specs.Working.{wires_by, found_by, Ready, Sheeted}
use Rattle.finding.specs.Found.{found_of}
use Rattle.finding.specs.Working.{WireRoom}

-- a text that is written is written under its other name
pub sheeted_as : {a b out out' : List ℕ} {n : ℕ} → a ≡ b → Sheeted a out out' n → Sheeted b out out' n
sheeted_as e w = rw (sym e) w

module _ {p t n : ℕ} {c s flat lengths out : List ℕ} (room : WireRoom p t n c s flat lengths out) where
  abbrev fs : List Ring
  fs = rings s c

  abbrev es : List Edge
  es = edges_of fs

  few_corners : length c / width ≤ corner_limit
  few_corners = omega (arith, room.findable.edged.sound.fits)

  few_hems : length (hems es) ≤ length c / width
  few_hems = hems_within c s p room.findable.edged

  -- ---- panels

  module _ {flat₁ lengths₁ : List ℕ} {listed panel : ℕ} (parted : Parted (panels false fs) flat lengths flat₁ lengths₁ listed panel) where
    pub parts_few : panel ≤ face_limit
    unfolding panels
    parts_few =
        omega (arith, parted.count_is, panels_few (length fs) 0 (length fs) (joins false fs) [], length_rings s c, room.findable.keyable.sound.few)

    long_flat : length flat₁ ≡ corner_limit
    long_flat = ap length parted.flat_is ∙ length-sets flat 0 (joined (panels false fs)) ∙ room.flat_long

    long_lengths : length lengths₁ ≡ corner_limit
    long_lengths = ap length parted.lengths_are ∙ length-sets lengths 0 (map length (panels false fs)) ∙ room.lengths_long

    -- ---- house wires

    module _ {flat₂ lengths₂ : List ℕ} {r : Housed} (housed : HouseDone fs (listed_of flat₁ lengths₁) (listed_of flat₂ lengths₂) r) where
      abbrev ws : List (List ℕ)
      ws = house_wires_of fs

      abbrev number : ℕ
      number = r.wires.number

      abbrev numbers : ℕ
      numbers = r.wires.flat

      abbrev wires : ℕ
      wires = r.wires.wires

      -- 10 where the verdict does not allow them
      abbrev refusal : ℕ
      refusal = when (not (wired (verdict es))) 10

      wired_by : Answered refusal ws (listed_of flat₁ lengths₁) (listed_of flat₂ lengths₂) r.wires
      wired_by = housed.answered

      -- where the verdict allows house wires, they stand at the front of the lists, one number for each hem edge
      module _ (yes : wired (verdict es) ≡ true) where
        done : refusal ≡ 0
        done = rw yes

        count_flat : numbers ≡ length (joined ws)
        count_flat = wired_by.flat_count ∙ after_done _ _ _ done

        count_wires : wires ≡ length ws
        count_wires = wired_by.wire_count ∙ after_done _ _ _ done

        front_flat : Front flat₂ (joined ws) numbers
        front_flat =
            front flat₁ (wired_by.flat_is ∙ after_done _ _ _ done) (sym count_flat)
            (omega (arith, count_flat, (house_turns fs yes).edges_add_up, few_hems, few_corners, long_flat))

        front_lengths : Front lengths₂ (map length ws) wires
        front_lengths =
            front lengths₁ (wired_by.lengths_is ∙ after_done _ _ _ done) (length-map ws length ∙ sym count_wires)
            (omega (arith, count_wires, (house_turns fs yes).wires_few, few_hems, few_corners, long_lengths))

        wires_some : wires_by number (take numbers flat₂) (take wires lengths₂) ≡ some ws
        unfolding wires_by
        wires_some = rw (wired_by.number_is, done, front_flat.is, front_lengths.is, parts_back ws)

        within_some : sum (take wires lengths₂) ≤ length (take numbers flat₂)
        within_some = omega (arith, ap sum front_lengths.is, ap length front_flat.is, length_joined ws)

      -- where it does not, there are none
      module _ (no : wired (verdict es) ≡ false) where
        not_done : refusal ≡ 0 → ⊥
        not_done z = let y : ◌≡◌ {A = ℕ} 10 0 = rw no at z in omega arith

        no_numbers : numbers ≡ 0
        no_numbers = wired_by.flat_count ∙ after_refused _ _ _ not_done

        no_wires : wires ≡ 0
        no_wires = wired_by.wire_count ∙ after_refused _ _ _ not_done

        wires_none : wires_by number (take numbers flat₂) (take wires lengths₂) ≡ none
        unfolding wires_by
        wires_none = after_refused number _ _ (λ z. not_done (sym wired_by.number_is ∙ z))

      -- ---- either way

      pub flat_fits : numbers ≤ length flat₂
      flat_fits = by_cases (wired (verdict es)) (λ y. (front_flat y).within) (λ x. omega (arith, no_numbers x))

      pub lengths_fit : wires ≤ length lengths₂
      lengths_fit = by_cases (wired (verdict es)) (λ y. (front_lengths y).within) (λ x. omega (arith, no_wires x))

      pub flat_counted : numbers ≡ length (take numbers flat₂)
      flat_counted = sym (length-take-le numbers flat₂ flat_fits)

      pub lengths_counted : wires ≡ length (take wires lengths₂)
      lengths_counted = sym (length-take-le wires lengths₂ lengths_fit)

      within_either : sum (take wires lengths₂) ≤ length (take numbers flat₂)
      within_either = by_cases (wired (verdict es)) within_some (λ x. rw (no_wires x) (omega arith))

      pub lines_ready : Ready (take numbers flat₂) (take wires lengths₂) out
      lines_ready = record {
        within = within_either;
        few = omega (arith, flat_counted, flat_fits, ap length wired_by.flat_is, after_length refusal flat₁ (joined ws), long_flat);
        few_wires =
            omega (arith, lengths_counted, lengths_fit, ap length wired_by.lengths_is, after_length refusal lengths₁ (map length ws), long_lengths);
        room = room.findable.room;
      }

      wires_are : wires_by number (take numbers flat₂) (take wires lengths₂) ≡ cond (wired (verdict es)) (some ws) none
      wires_are = by_cases (wired (verdict es)) (λ y. rw y (wires_some y)) (λ x. rw x (wires_none x))

      pub found_are :
          sheet_text
          (found_by
          (record {
            positions = p;
            textures = t;
            normals = n;
            faces = length s;
            verdict = r.verdict;
            panels = panel;
            number = number;
          })
          (take numbers flat₂) (take wires lengths₂))
          ≡ sheet_text (found_of p t n (length s) fs)
      unfolding found_by found_of
      found_are = rw (housed.verdict_is, parted.count_is, wires_are)
