-- The numbers of the call, row by row, and what it answers: a refusal, or what is listed. Assumes nothing.
use mathlib.Core.Path.{◌≡◌, refl, sym, ap, ◌∙◌}
use mathlib.Core.Bool.{Bool, true, false, not}
use mathlib.Core.List.{List, [], ◌∷◌}
use Prim.Native.Nat.{ℕ, ◌*◌, ◌≤◌, ◌<◌}
use native.Mathlib.Omega.{arith}
use lib.IntN.{ℤ}
use lib.ListN.{length}
use borrow.Author.Tests.{lt-ltb, le-ltb, eq-eqb, ne_eqb}
use Rattle.mesh.specs.Limits.{point_width}
use Rattle.mesh.specs.Mesh.{Mesh, faces, position_count}
use Rattle.mesh.specs.Table.{mesh_number, when, first_of, short}
use Rattle.mesh.proofs.Accepted.{even}
use Rattle.mesh.proofs.After.{after_refused}
use Rattle.mesh.proofs.Numbers.{clear, first_is, first_on, row_given, row_passed}
use Rattle.tracing.specs.Answers.{corner_count}
use Rattle.house.specs.Answers.{unwired}
use Rattle.hemlist.specs.HemList.{unmatched, beyond_reach, list_short, hem_list_number}
use Rattle.hemlist.specs.Answer.{HemLists, hem_lists_of, HemsListed}
use Rattle.hemlist.specs.Working.{Located}
use Rattle.hemlist.specs.declared.Listed.{Listed}
use Rattle.listing.specs.Listing.{ListDone, refused_by}

only_row : (b : Bool) → first_of (when b 10 ∷ []) ≡ when b 10
only_row true = refl
only_row false = refl

-- ---- the room of three lists

module _ (m : Mesh) (p e l : ℕ) where
  abbrev corners : ℕ
  corners = corner_count m.corners

  pub roomy : corners ≤ p → corners ≤ e → corners ≤ l → list_short m p e l ≡ false
  unfolding list_short short
  roomy f g h = rw (le-ltb p corners f, le-ltb e corners g, le-ltb l corners h)

  pub panels_short : p < corners → list_short m p e l ≡ true
  unfolding list_short short
  panels_short f = rw (lt-ltb p corners f)

  pub edges_short : corners ≤ p → e < corners → list_short m p e l ≡ true
  unfolding list_short short
  edges_short f g = rw (le-ltb p corners f, lt-ltb e corners g)

  pub lengths_short : corners ≤ p → corners ≤ e → l < corners → list_short m p e l ≡ true
  unfolding list_short short
  lengths_short f g h = rw (le-ltb p corners f, le-ltb e corners g, lt-ltb l corners h)

-- ---- the triples of an accepted mesh: as many numbers as its list of positions

module _ (m : Mesh) (cs : List ℤ) (z : mesh_number m ≡ 0) where
  whole : point_width * position_count m ≡ length m.positions
  whole = omega (arith, (even m (clear m z).shaped.even).positions)

  pub unmatched_is : (length cs ≡ length m.positions → ⊥) → unmatched m cs ≡ true
  unfolding unmatched
  unmatched_is h = ap not (ne_eqb (length cs) (point_width * position_count m) (λ e. h (e ∙ whole)))

  pub matched : length cs ≡ length m.positions → unmatched m cs ≡ false
  unfolding unmatched
  matched h = ap not (eq-eqb (length cs) (point_width * position_count m) (h ∙ sym whole))

  pub located : length cs ≡ length m.positions → beyond_reach cs ≡ false → Located cs (position_count m)
  located h g = record { long = h ∙ sym whole; within = g }

-- ---- the rows

module _ (m : Mesh) (cs : List ℤ) (p e l : ℕ) where
  abbrev number : ℕ
  number = hem_list_number m cs p e l

  abbrev last_row : List ℕ
  last_row = when (unwired m) 10 ∷ []

  abbrev room_rows : List ℕ
  room_rows = when (list_short m p e l) 9 ∷ last_row

  abbrev reach_rows : List ℕ
  reach_rows = when (beyond_reach cs) 19 ∷ room_rows

  abbrev triple_rows : List ℕ
  triple_rows = when (unmatched m cs) 18 ∷ reach_rows

  pub row_mesh : (mesh_number m ≡ 0 → ⊥) → number ≡ mesh_number m
  unfolding hem_list_number
  row_mesh h = first_is (mesh_number m) triple_rows h

  module _ (z : mesh_number m ≡ 0) where
    past_mesh : number ≡ first_of triple_rows
    unfolding hem_list_number
    past_mesh = first_on (mesh_number m) triple_rows z

    pub row_18 : unmatched m cs ≡ true → number ≡ 18
    row_18 q = past_mesh ∙ row_given (unmatched m cs) 17 reach_rows q

    module _ (k : unmatched m cs ≡ false) where
      past_18 : number ≡ first_of reach_rows
      past_18 = past_mesh ∙ row_passed (unmatched m cs) 17 reach_rows k

      pub row_19 : beyond_reach cs ≡ true → number ≡ 19
      row_19 q = past_18 ∙ row_given (beyond_reach cs) 18 room_rows q

      module _ (g : beyond_reach cs ≡ false) where
        past_19 : number ≡ first_of room_rows
        past_19 = past_18 ∙ row_passed (beyond_reach cs) 18 room_rows g

        pub row_9 : list_short m p e l ≡ true → number ≡ 9
        row_9 q = past_19 ∙ row_given (list_short m p e l) 8 last_row q

        pub row_10 : list_short m p e l ≡ false → number ≡ when (unwired m) 10
        row_10 q = past_19 ∙ row_passed (list_short m p e l) 8 last_row q ∙ only_row (unwired m)

-- ---- the answer

pub refusal :
    {m : Mesh} {cs : List ℤ} (p e l : List ℕ) {k : ℕ} {answer : Listed} → hem_list_number m cs (length p) (length e) (length l) ≡ k → (k ≡ 0 → ⊥)
    → answer ≡ refused_by k → HemsListed m cs (hem_lists_of p e l) (hem_lists_of p e l) answer
refusal p e l {k} {answer} q h r =
    let number : answer.number ≡ k = ap (λ (a : Listed). a.number) r in
    let not-0 : answer.number ≡ 0 → ⊥ = λ z. h (sym number ∙ z) in
    record {
      number = number ∙ sym q;
      hem_count_is = ap (λ (a : Listed). a.hems) r ∙ sym (after_refused answer.number _ _ not-0);
      panels = sym (after_refused answer.number _ _ not-0);
      edges = sym (after_refused answer.number _ _ not-0);
      lengths = sym (after_refused answer.number _ _ not-0);
    }

pub listed :
    {m : Mesh} {cs : List ℤ} {before afterwards : HemLists} {answer : Listed}
    → hem_list_number m cs (length before.panels) (length before.edges) (length before.lengths) ≡ when (unwired m) 10
    → ListDone cs (faces m) before afterwards answer → HemsListed m cs before afterwards answer
listed e d = record {
  number = d.number ∙ sym e;
  hem_count_is = d.hem_count_is;
  panels = d.panels;
  edges = d.edges;
  lengths = d.lengths;
}
