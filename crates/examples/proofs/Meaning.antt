-- Each test of the examples says just what it should, since the test of two lists is equality; and so the one statement over the list
-- gives each value of the twelve. Assumes nothing.
use Prim.Native.Nat.{ℕ, zero, suc, ◌<◌}
use mathlib.Core.Path.{◌≡◌, refl, sym, ap, ◌∙◌, subst}
use mathlib.Core.Bool.{Bool, true, false, not, ◌&&◌, ◌||◌}
use mathlib.Core.List.{List, [], ◌∷◌, ◌++◌, map}
use native.Mathlib.Omega.{arith}
use lib.Dec.{eqb, T}
use lib.ListN.{length, get_or}
use lib.IntN.{pos, negsuc}
use lib.Ieee.{fin, binary64, of_bits, to_bits}
use borrow.Author.Tests.{eqb-true, eq-eqb}
use Rattle.lists.specs.Lists.{some, span}
use Rattle.lists.specs.Same.{same_numbers, Tells}
use Rattle.lists.proofs.Bools.{by_cases, and_both, and_left, and_right, or_left, or_right}
use Rattle.lists.proofs.Counting.{clash}
use Rattle.lists.proofs.Parts.{every_at}
use Rattle.lists.proofs.Same.{numbers_equal, lists_equal}
use Rattle.mesh.specs.Mesh.{position, texture, corners_in}
use Rattle.mesh.specs.Table.{mesh_number}
use Rattle.edges.specs.Edges.{Edge, same, edges_of, Verdict, Irregular, Regular, Oriented, Closed, verdict, hems}
use Rattle.edges.proofs.SameEdge.{same_true, same_refl}
use Rattle.ported.specs.Ported.{ported_wires}
use Rattle.turning.specs.Turning.{house_wires_of}
use Rattle.panels.specs.Panels.{panels}
use Rattle.removal.proofs.Examples.{leaves_is}
use Rattle.unused.specs.Compaction.{compacted}
use Rattle.merging.specs.Merging.{merge_number, texture_pairs, merged_corners}
use Rattle.examples.specs.Twelve.{faces_by, tri, triangle, three_faces, exchanged, touching, six_positions, three_textures}
use Rattle.examples.specs.Twelve.{verdict_number, has_verdict, has_hem, has_ported, has_house, has_panels, compacts, merges, examples, all_hold}
use Rattle.examples.specs.Meaning.{TestsTell, TwelveHold}
use Rattle.examples.proofs.Hold.{they_hold}

-- ---- the tests

verdict_at : ℕ → Verdict
verdict_at zero = Irregular
verdict_at (suc zero) = Regular
verdict_at (suc (suc zero)) = Oriented
verdict_at (suc (suc (suc n))) = Closed

number_known : (v : Verdict) → verdict_at (verdict_number v) ≡ v
unfolding verdict_at
number_known Irregular = refl
number_known Regular = refl
number_known Oriented = refl
number_known Closed = refl

verdict_tells : (v w : Verdict) → Tells (eqb (verdict_number v) (verdict_number w)) (v ≡ w)
verdict_tells v w = (
  λ h. sym (number_known v) ∙ ap verdict_at (eqb-true (verdict_number v) (verdict_number w) h) ∙ number_known w,
  λ e. eq-eqb (verdict_number v) (verdict_number w) (ap verdict_number e),
)

-- an edge stands in a list where some edge of it is the same
stands : (e : Edge) (l : List Edge) → some (same e) l ≡ true → (a : List Edge) × (b : List Edge) × (l ≡ a ++ (e ∷ b))
stands e [] h = clash h refl
stands e (d ∷ l) h =
    by_cases (same e d)
    (λ p. ([], l, ap (λ (x : Edge). x ∷ l) (sym (same_true e d p))))
    (λ p.
    let r : (a : List Edge) × (b : List Edge) × (l ≡ a ++ (e ∷ b)) = stands e l (sym (ap (λ (t : Bool). t || some (same e) l) p) ∙ h) in
    (d ∷ r.0, r.1, ap (λ (x : List Edge). d ∷ x) r.2))

stood : (e : Edge) (a b : List Edge) → some (same e) (a ++ (e ∷ b)) ≡ true
stood e [] b = or_left (same e e) (some (same e) b) (same_refl e)
stood e (d ∷ a) b = or_right (same e d) (some (same e) (a ++ (e ∷ b))) (stood e a b)

pub tests_tell : TestsTell
unfolding has_verdict has_hem has_ported has_house has_panels compacts merges
tests_tell = record {
  verdict_told = λ fs v. verdict_tells (verdict (edges_of (faces_by fs))) v;
  hem_told = λ fs e. (
    stands e (hems (edges_of (faces_by fs))),
    λ s. subst (λ (l : List Edge). some (same e) l ≡ true) (sym s.2) (stood e s.0 s.1),
  );
  ported_told = λ fs ws. lists_equal (ported_wires (hems (edges_of (faces_by fs)))) ws;
  house_told = λ fs ws. lists_equal (house_wires_of (faces_by fs)) ws;
  panels_told = λ fs ps. lists_equal (panels false (faces_by fs)) ps;
  leaves_told = leaves_is;
  compacts_told = λ m places bits.
      let a = eqb (mesh_number m) 0 in
      let b = same_numbers (map position (corners_in (compacted m).corners)) places in
      let c = same_numbers (map (to_bits binary64) (compacted m).positions) bits in (
        λ h. record {
          accepted = eqb-true (mesh_number m) 0 (and_left a b (and_left (a && b) c h));
          places_are = (numbers_equal (map position (corners_in (compacted m).corners)) places).0 (and_right a b (and_left (a && b) c h));
          bits_are = (numbers_equal (map (to_bits binary64) (compacted m).positions) bits).0 (and_right (a && b) c h);
        },
        λ r.
            and_both (a && b) c
            (and_both a b (eq-eqb (mesh_number m) 0 r.accepted) ((numbers_equal (map position (corners_in (compacted m).corners)) places).1 r.places_are))
            ((numbers_equal (map (to_bits binary64) (compacted m).positions) bits).1 r.bits_are),
      );
  merges_told = λ m t pairs textures.
      let n = merge_number m t (length m.corners) in
      let a = eqb n 0 in
      let b = eqb (texture_pairs m t) pairs in
      let c = same_numbers (map texture (corners_in (merged_corners m t))) textures in (
        λ h. record {
          accepted = eqb-true n 0 (and_left a b (and_left (a && b) c h));
          pairs_are = eqb-true (texture_pairs m t) pairs (and_right a b (and_left (a && b) c h));
          textures_are = (numbers_equal (map texture (corners_in (merged_corners m t))) textures).0 (and_right (a && b) c h);
        },
        λ r.
            and_both (a && b) c
            (and_both a b (eq-eqb n 0 r.accepted) (eq-eqb (texture_pairs m t) pairs r.pairs_are))
            ((numbers_equal (map texture (corners_in (merged_corners m t))) textures).1 r.textures_are),
      );
}

-- ---- the twelve

parts3 : (a b c : Bool) → (a && b && c) ≡ true → (a ≡ true) × (b ≡ true) × (c ≡ true)
parts3 a b c h = (and_left a b (and_left (a && b) c h), and_right a b (and_left (a && b) c h), and_right (a && b) c h)

parts4 : (a b c d : Bool) → (a && b && c && d) ≡ true → (a ≡ true) × (b ≡ true) × (c ≡ true) × (d ≡ true)
parts4 a b c d h =
    let p = parts3 a b c (and_left (a && b && c) d h) in
    (p.0, p.1, p.2, and_right (a && b && c) d h)

refuted : {P : Type 0} (b : Bool) → Tells b P → not b ≡ true → P → ⊥
refuted b t n p = clash n (ap not (t.1 p))

passed : (b : Bool) → T b → b ≡ true
passed true t = refl
passed false t = absurd t

-- each example of the list holds
held : (k : ℕ) → k < 13 → get_or examples k false ≡ true
unfolding all_hold
held k l = every_at (λ (b : Bool). b) false examples k (passed all_hold they_hold) l

-- what the ninth, tenth and eleventh are asked of
six_are : (six_positions.positions ≡ map (of_bits binary64) (span 0 18)) × (map position (corners_in six_positions.corners) ≡ 5 ∷ 2 ∷ 4 ∷ [])
unfolding six_positions
six_are = (refl, refl)

textures_are :
    (three_textures.textures
    ≡ fin false 0 (pos 0) ∷ fin false 0 (pos 0) ∷ fin false 1 (negsuc 0) ∷ fin false 0 (pos 0) ∷ fin false 1 (pos 0) ∷ fin false 0 (pos 0) ∷ [])
    × (map texture (corners_in three_textures.corners) ≡ 0 ∷ 1 ∷ 2 ∷ [])
unfolding three_textures
textures_are = (refl, refl)

pub twelve_hold : TwelveHold
twelve_hold =
    let say = tests_tell in
    let one = parts4 (has_verdict [] Closed) (has_ported [] []) (has_house [] []) (has_panels [] []) (held 0 (omega arith)) in
    let two =
    parts3 (has_verdict triangle Oriented) (has_ported triangle (tri 0 1 2 ∷ [])) (has_house triangle (tri 0 1 2 ∷ [])) (held 1 (omega arith)) in
    let four : _ = held 3 (omega arith) in
    let tail =
    parts4
    (has_verdict three_faces Irregular && has_hem three_faces (0, 1) && not (has_hem three_faces (1, 0)))
    (has_verdict exchanged Irregular)
    (has_hem exchanged (1, 0))
    (not (has_hem exchanged (0, 1)))
    four in
    let front = parts3 (has_verdict three_faces Irregular) (has_hem three_faces (0, 1)) (not (has_hem three_faces (1, 0))) tail.0 in
    record {
      no_faces = (
        (say.verdict_told [] Closed).0 one.0,
        (say.ported_told [] []).0 one.1,
        (say.house_told [] []).0 one.2,
        (say.panels_told [] []).0 one.3,
      );
      one_triangle = (
        (say.verdict_told triangle Oriented).0 two.0,
        (say.ported_told triangle (tri 0 1 2 ∷ [])).0 two.1,
        (say.house_told triangle (tri 0 1 2 ∷ [])).0 two.2,
      );
      one_direction = (say.verdict_told (tri 0 1 2 ∷ tri 0 1 3 ∷ []) Regular).0 (held 2 (omega arith));
      three_uses = (
        (say.verdict_told three_faces Irregular).0 front.0,
        (say.hem_told three_faces (0, 1)).0 front.1,
        refuted (has_hem three_faces (1, 0)) (say.hem_told three_faces (1, 0)) front.2,
      );
      two_exchanged = (
        (say.verdict_told exchanged Irregular).0 tail.1,
        (say.hem_told exchanged (1, 0)).0 tail.2,
        refuted (has_hem exchanged (0, 1)) (say.hem_told exchanged (0, 1)) tail.3,
      );
      beside = (say.leaves_told _ _).0 (held 4 (omega arith));
      across = (say.leaves_told _ _).0 (held 5 (omega arith));
      of_five = (say.leaves_told _ _).0 (held 6 (omega arith));
      of_six = (say.leaves_told _ _).0 (held 7 (omega arith));
      six_positions_is = six_are;
      by_first_use = (say.compacts_told _ _ _).0 (held 8 (omega arith));
      three_textures_is = textures_are;
      nothing_merges = (say.merges_told _ _ _ _).0 (held 9 (omega arith));
      all_merge = (say.merges_told _ _ _ _).0 (held 10 (omega arith));
      ported_wires_is = (say.ported_told touching (tri 0 1 4 ∷ tri 2 3 1 ∷ [])).0 (held 11 (omega arith));
      hems_apart = (say.house_told touching (tri 0 1 4 ∷ tri 1 2 3 ∷ [])).0 (held 12 (omega arith));
    }
