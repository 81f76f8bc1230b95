-- The ways out of `put_sheet`: a coordinate is beyond reach, the verdict does not allow the list, or there is one, which stands at the front of
-- the three lists. Assumes nothing.
use mathlib.Core.Path.{◌≡◌, ◌∙◌, refl, sym, ap}
use mathlib.Core.Bool.{Bool, true, false, not}
use mathlib.Core.List.{List, [], ◌∷◌}
use Prim.Native.Nat.{ℕ, ◌≤◌}
use native.Mathlib.Omega.{arith}
use lib.ListN.{length, take, length-map}
use lib.IntN.{ℤ}
use Rattle.lists.specs.Putting.{Front, Room, Written}
use Rattle.lists.proofs.Fronts.{front}
use Rattle.mesh.specs.Limits.{corner_limit}
use Rattle.mesh.specs.Mesh.{Ring, rings}
use Rattle.mesh.specs.Table.{when, first_of}
use Rattle.mesh.proofs.After.{after_done}
use Rattle.edges.specs.Edges.{edges_of, verdict}
use Rattle.turning.specs.Turning.{house_wires_of}
use Rattle.house.specs.Answers.{wired}
use Rattle.lines.specs.Lines.{refusal}
use Rattle.lines.specs.Working.{Sheeted}
use Rattle.lines.proofs.Fitting.{sheeted}
use Rattle.hemlist.specs.HemList.{point_of, hem_panel, hem_length, hem_panels, hem_edges, hem_lengths, beyond_reach}
use Rattle.hemlist.specs.Answer.{hem_lists_of}
use Rattle.hemlist.specs.declared.Listed.{Listed}
use Rattle.listing.specs.Listing.{Listable, ListDone}
use Rattle.hemlines.specs.HemLines.{hem_lines}
use Rattle.hemlines.specs.Working.{Beside}
use Rattle.hemtext.specs.HemText.{hem_text, printed}
use Rattle.hemtext.specs.Working.{Textable, text_by}
use Rattle.hemtext.proofs.Fitting.{few_wires, text_fits}

-- a text that is written is written under its other name
pub sheeted_as : {a b out out' : List ℕ} {n : ℕ} → a ≡ b → Sheeted a out out' n → Sheeted b out out' n
sheeted_as e w = rw (sym e) w

-- ---- refusals

pub far_text : (cs : List ℤ) (fs : List Ring) {b : Bool} → b ≡ beyond_reach cs → b ≡ true → refusal 19 ≡ text_by cs fs
unfolding text_by printed
far_text cs fs e h = rw (sym e ∙ h)

by_verdict : (b : Bool) (n : ℕ) (cs : List ℤ) (fs : List Ring) → n ≡ when (not b) 10 → (n ≡ 0 → ⊥) → refusal n ≡ printed (first_of (when (not b) 10 ∷ [])) cs fs
unfolding printed
by_verdict true n cs fs e h = absurd (h e)
by_verdict false n cs fs e h = ap refusal e

pub unwired_text :
    (n : ℕ) (cs : List ℤ) (fs : List Ring) {b : Bool} → b ≡ beyond_reach cs → b ≡ false → n ≡ when (not (wired (verdict (edges_of fs)))) 10 → (n ≡ 0 → ⊥)
    → refusal n ≡ text_by cs fs
unfolding text_by
unwired_text n cs fs e near d h = rw (sym e ∙ near) (by_verdict (wired (verdict (edges_of fs))) n cs fs d h)

-- ---- the list

-- where the number is 0 the verdict allows it
allowed : (b : Bool) → when (not b) 10 ≡ 0 → b ≡ true
allowed true e = refl
allowed false e = absurd (omega arith)

done : (b : Bool) (cs : List ℤ) (fs : List Ring) → b ≡ true → hem_text cs fs ≡ printed (first_of (when (not b) 10 ∷ [])) cs fs
unfolding printed
done true cs fs e = refl
done false cs fs e = cc

module _ {c s : List ℕ} {n : ℕ} {cs : List ℤ} {out : List ℕ} (t : Textable c s n cs out) {b : Bool} (is : b ≡ beyond_reach cs) (no : b ≡ false) where
  abbrev fs : List Ring
  fs = rings s c

  near : beyond_reach cs ≡ false
  near = sym is ∙ no

  pub listable :
      {p e l : List ℕ} → length p ≡ corner_limit → length e ≡ corner_limit → length l ≡ corner_limit → Listable c s n cs p e l
  listable lp le ll =
      let fits = t.edged.sound.fits in
      record {
        edged = t.edged;
        keyable = t.keyable;
        located = record { long = t.long; within = near };
        panel_room = omega (arith, fits, lp);
        edge_room = omega (arith, fits, le);
        length_room = omega (arith, fits, ll);
      }

  module _
      {p e l p' e' l' : List ℕ} {r : Listed} (lp : length p ≡ corner_limit) (le : length e ≡ corner_limit) (ll : length l ≡ corner_limit)
      (d : ListDone cs fs (hem_lists_of p e l) (hem_lists_of p' e' l') r) (z : r.number ≡ 0) where
    yes : wired (verdict (edges_of fs)) ≡ true
    yes = allowed (wired (verdict (edges_of fs))) (sym d.number ∙ z)

    hems_are : r.hems ≡ length (house_wires_of fs)
    hems_are = d.hem_count_is ∙ after_done _ _ _ z

    few : r.hems ≤ corner_limit
    few = omega (arith, hems_are, few_wires cs t.edged yes near)

    pub panel_front : Front p' (hem_panels fs) r.hems
    unfolding hem_panels
    panel_front = front p (d.panels ∙ after_done _ _ _ z) (length-map (house_wires_of fs) (hem_panel fs) ∙ sym hems_are) (omega (arith, few, lp))

    pub edge_front : Front e' (hem_edges fs) r.hems
    unfolding hem_edges
    edge_front = front e (d.edges ∙ after_done _ _ _ z) (length-map (house_wires_of fs) _ ∙ sym hems_are) (omega (arith, few, le))

    pub length_front : Front l' (hem_lengths (point_of cs) fs) r.hems
    unfolding hem_lengths
    length_front = front l (d.lengths ∙ after_done _ _ _ z) (length-map (house_wires_of fs) (hem_length (point_of cs)) ∙ sym hems_are) (omega (arith, few, ll))

    lines_are : hem_lines (take r.hems p') (take r.hems e') (take r.hems l') ≡ hem_text cs fs
    unfolding hem_text
    lines_are = rw (panel_front.is, edge_front.is, length_front.is)

    room : Room (hem_text cs fs) out 0
    room = record { fits = omega (arith, text_fits cs t.edged yes near, t.room) }

    pub beside : Beside (take r.hems p') (take r.hems e') (take r.hems l') out 0
    beside = record {
      edges_long = sym edge_front.long ∙ panel_front.long;
      lengths_long = sym length_front.long ∙ panel_front.long;
      room = rw lines_are room;
    }

    pub listed_text : {out' : List ℕ} {k : ℕ} → Written (hem_lines (take r.hems p') (take r.hems e') (take r.hems l')) out out' 0 k → Sheeted (text_by cs fs) out out' k
    unfolding text_by
    listed_text w =
        let written : Written (hem_text cs fs) out _ 0 _ = rw lines_are at w in
        sheeted_as (rw near (done (wired (verdict (edges_of fs))) cs fs yes)) (sheeted room written)
