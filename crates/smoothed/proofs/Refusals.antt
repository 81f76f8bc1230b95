-- Where smoothing returns 0 all that is promised holds of its result; and the result is over a limit just where there are over 341
-- faces. Assumes nothing.
use mathlib.Core.Path.{◌≡◌, sym, ap, ◌∙◌}
use mathlib.Core.Bool.{Bool, false, not}
use mathlib.Core.List.{List, [], ◌∷◌}
use Prim.Native.Nat.{ℕ, suc, ◌≤◌}
use lib.ListN.{length}
use lib.Dec.{ltb, eqb}
use lib.Ieee.{Float}
use borrow.Author.Tests.{ltb-true, ltb-false, not-false}
use Rattle.lists.specs.Lists.{some}
use Rattle.lists.proofs.Bools.{by_cases, or_false_left, or_false_right}
use Rattle.mesh.specs.Mesh.{Mesh, faces, position_count}
use Rattle.mesh.specs.Table.{when, first_of, over_limits, mesh_number}
use Rattle.mesh.proofs.Numbers.{first_head, first_tail, when_not, clear}
use Rattle.folding.specs.Folding.{folded}
use Rattle.smoothed.specs.Smoothed.{repeated, all_used}
use Rattle.smoothed.specs.Promise.{most_faces, Given, Promised}
use Rattle.smoothed.specs.Refusals.{boundless_position, other_face, folded_or_idle, oriented, unoriented, unfit_cosines, result_of, positions_of, Result, too_short, smoothing_number}
use Rattle.smoothed.proofs.All.{all_map, all_fail, every_back}
use Rattle.smoothed.proofs.Limits.{over_limit}
use Rattle.smoothed.proofs.Positions.{smoothed_with}

-- a row that gives no number, and what is left
row : (b : Bool) (n : ℕ) (ns : List ℕ) → first_of (when b (suc n) ∷ ns) ≡ 0 → (b ≡ false) × (first_of ns ≡ 0)
row b n ns h = (when_not b n (first_head (when b (suc n)) ns h), first_tail (when b (suc n)) ns h)

-- no row gives a number
pub record Passed (m : Mesh) (ones twos : List Float) (r : Result) : Type 0 where
  pub accepted : mesh_number m ≡ 0
  pub bounded : boundless_position m ≡ false
  pub triangles : other_face m ≡ false
  pub unfolded : folded_or_idle m ≡ false
  pub in_order : unoriented m ≡ false
  pub cosines : unfit_cosines m ones twos ≡ false
  pub small : over_limits (result_of m ones twos) ≡ false
  pub room : too_short m r ≡ false

pub passed : (m : Mesh) (ones twos : List Float) (r : Result) → smoothing_number m ones twos r ≡ 0 → Passed m ones twos r
unfolding smoothing_number
passed m ones twos r h =
    let r9 = when (too_short m r) 9 ∷ [] in
    let r1 = when (over_limits (result_of m ones twos)) 1 ∷ r9 in
    let r17 = when (unfit_cosines m ones twos) 17 ∷ r1 in
    let r10 = when (unoriented m) 10 ∷ r17 in
    let r16 = when (folded_or_idle m) 16 ∷ r10 in
    let r15 = when (other_face m) 15 ∷ r16 in
    let r7 = when (boundless_position m) 7 ∷ r15 in
    let a : (boundless_position m ≡ false) × (first_of r15 ≡ 0) = row (boundless_position m) 6 r15 (first_tail (mesh_number m) r7 h) in
    let b : (other_face m ≡ false) × (first_of r16 ≡ 0) = row (other_face m) 14 r16 a.1 in
    let c : (folded_or_idle m ≡ false) × (first_of r10 ≡ 0) = row (folded_or_idle m) 15 r10 b.1 in
    let d : (unoriented m ≡ false) × (first_of r17 ≡ 0) = row (unoriented m) 9 r17 c.1 in
    let e : (unfit_cosines m ones twos ≡ false) × (first_of r1 ≡ 0) = row (unfit_cosines m ones twos) 16 r1 d.1 in
    let f : (over_limits (result_of m ones twos) ≡ false) × (first_of r9 ≡ 0) = row (over_limits (result_of m ones twos)) 0 r9 e.1 in
    let g : (too_short m r ≡ false) × (first_of [] ≡ 0) = row (too_short m r) 8 [] f.1 in
    record {
      accepted = first_head (mesh_number m) r7 h;
      bounded = a.0;
      triangles = b.0;
      unfolded = c.0;
      in_order = d.0;
      cosines = e.0;
      small = f.0;
      room = g.0;
    }

module _ (m : Mesh) (ones twos : List Float) (ok : mesh_number m ≡ 0) (t : other_face m ≡ false) (u : folded_or_idle m ≡ false) where
  given : length m.sizes ≤ most_faces → Given m
  unfolding other_face folded_or_idle
  given h = record {
    accepted = ok;
    triangles =
        every_back (λ k. eqb k 3) (all_map (λ k e. not-false (eqb k 3) e) (all_fail (λ k. not (eqb k 3)) m.sizes t));
    unfolded = or_false_left (some folded (faces m)) (not (all_used (position_count m) (faces m))) u;
    used =
        not-false (all_used (position_count m) (faces m))
        (or_false_right (some folded (faces m)) (not (all_used (position_count m) (faces m))) u);
    few = h;
  }

  -- 1: the result is over a limit just where there are over 341 faces
  pub over_exactly : over_limits (result_of m ones twos) ≡ ltb most_faces (length m.sizes)
  over_exactly =
      by_cases
      (ltb most_faces (length m.sizes))
      (λ e. over_limit m (positions_of m ones twos) (ltb-true most_faces (length m.sizes) e) ∙ sym e)
      (λ e.
      (clear (result_of m ones twos) (smoothed_with m ones twos (given (ltb-false most_faces (length m.sizes) e))).accepted).shaped.within
      ∙ sym e)

-- 0: the mesh is not refused for its faces or for the limit
pub zero_given : (m : Mesh) (ones twos : List Float) (r : Result) → smoothing_number m ones twos r ≡ 0 → Given m
zero_given m ones twos r h =
    let p : Passed m ones twos r = passed m ones twos r h in
    given m ones twos p.accepted p.triangles p.unfolded
    (ltb-false most_faces (length m.sizes) (sym (over_exactly m ones twos p.accepted p.triangles p.unfolded) ∙ p.small))

-- and so what is promised holds
pub zero_promised :
    (m : Mesh) (ones twos : List Float) (r : Result) → smoothing_number m ones twos r ≡ 0 → Promised m (positions_of m ones twos)
zero_promised m ones twos r h = smoothed_with m ones twos (zero_given m ones twos r h)

-- and the result is Oriented or Closed as well, where no two faces have the same positions
pub zero_oriented :
    (m : Mesh) (ones twos : List Float) (r : Result) → smoothing_number m ones twos r ≡ 0 → repeated (faces m) ≡ false
    → unoriented (result_of m ones twos) ≡ false
unfolding unoriented
zero_oriented m ones twos r h n =
    ap (λ v. not (oriented v)) ((zero_promised m ones twos r h).same_verdict n) ∙ (passed m ones twos r h).in_order
