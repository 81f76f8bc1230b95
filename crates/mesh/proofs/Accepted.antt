-- What a caller may count on of an accepted mesh, and what makes one. Assumes nothing.
use Rattle.std.proofs.Common.{◌≡◌, ℕ, ◌+◌, ◌*◌, ◌/◌, ◌%◌, ◌<◌, ◌≤◌, false, not, ◌&&◌, ◌||◌, eqb, ltb, leb, [], map, length, get_or, sym, ap, ◌∙◌, ltb-false, le-ltb, eq-eqb, eqb-true, leb-false}
use borrow.Author.Tests.{not-false, lt-leb}
use Rattle.lists.specs.Lists.{sum}
use Rattle.lists.proofs.Bools.{or_false_left, or_false_right, or_neither, by_cases}
use Rattle.lists.proofs.Parts.{some_false_at, some_none}
use Rattle.mesh.specs.Limits.{point_width, texel_width, width, least_ring, ring_limit, face_limit, point_numbers, texel_numbers, corner_numbers}
use Rattle.mesh.specs.Mesh.{Mesh, corners_in, missing, position_count, texture_count, normal_count}
use Rattle.mesh.specs.Table.{over_limits, uneven, misfit, outside, ungrouped, astray, astray_at, beyond_unless_missing, kind, falls, mesh_number}
use Rattle.mesh.specs.Face.{Sound}
use Rattle.mesh.proofs.Corners.{length-corners_in, get_or-corners_in}
use Rattle.mesh.proofs.Numbers.{Shaped, Clear, clear, clear_0}

-- ---- row 1: no list is too long

pub record Within (m : Mesh) : Type 0 where
  pub positions : length m.positions ≤ point_numbers
  pub textures : length m.textures ≤ texel_numbers
  pub normals : length m.normals ≤ point_numbers
  pub corners : length m.corners ≤ corner_numbers
  pub sizes : length m.sizes ≤ face_limit

pub within : (m : Mesh) → over_limits m ≡ false → Within m
unfolding over_limits
within m h =
    let a = ltb point_numbers (length m.positions) in
    let b = ltb texel_numbers (length m.textures) in
    let c = ltb point_numbers (length m.normals) in
    let d = ltb corner_numbers (length m.corners) in
    let e = ltb face_limit (length m.sizes) in
    let h3 : (a || b || c || d) ≡ false = or_false_left (a || b || c || d) e h in
    let h2 : (a || b || c) ≡ false = or_false_left (a || b || c) d h3 in
    let h1 : (a || b) ≡ false = or_false_left (a || b) c h2 in
    record {
      positions = ltb-false point_numbers (length m.positions) (or_false_left a b h1);
      textures = ltb-false texel_numbers (length m.textures) (or_false_right a b h1);
      normals = ltb-false point_numbers (length m.normals) (or_false_right (a || b) c h2);
      corners = ltb-false corner_numbers (length m.corners) (or_false_right (a || b || c) d h3);
      sizes = ltb-false face_limit (length m.sizes) (or_false_right (a || b || c || d) e h);
    }

pub within_back : (m : Mesh) → Within m → over_limits m ≡ false
unfolding over_limits
within_back m w = rw (le-ltb _ _ w.positions, le-ltb _ _ w.textures, le-ltb _ _ w.normals, le-ltb _ _ w.corners, le-ltb _ _ w.sizes)

-- ---- row 2: every list is whole, and the sizes add up

pub record Even (m : Mesh) : Type 0 where
  pub positions : length m.positions % point_width ≡ 0
  pub textures : length m.textures % texel_width ≡ 0
  pub normals : length m.normals % point_width ≡ 0
  pub corners : length m.corners % width ≡ 0
  pub adds : width * sum m.sizes ≡ length m.corners

pub even : (m : Mesh) → uneven m ≡ false → Even m
unfolding uneven
even m h =
    let a = eqb (length m.positions % point_width) 0 in
    let b = eqb (length m.textures % texel_width) 0 in
    let c = eqb (length m.normals % point_width) 0 in
    let d = eqb (length m.corners % width) 0 in
    let e = eqb (width * sum m.sizes) (length m.corners) in
    let h3 : (not a || not b || not c || not d) ≡ false = or_false_left (not a || not b || not c || not d) (not e) h in
    let h2 : (not a || not b || not c) ≡ false = or_false_left (not a || not b || not c) (not d) h3 in
    let h1 : (not a || not b) ≡ false = or_false_left (not a || not b) (not c) h2 in
    record {
      positions = eqb-true (length m.positions % point_width) 0 (not-false a (or_false_left (not a) (not b) h1));
      textures = eqb-true (length m.textures % texel_width) 0 (not-false b (or_false_right (not a) (not b) h1));
      normals = eqb-true (length m.normals % point_width) 0 (not-false c (or_false_right (not a || not b) (not c) h2));
      corners = eqb-true (length m.corners % width) 0 (not-false d (or_false_right (not a || not b || not c) (not d) h3));
      adds = eqb-true (width * sum m.sizes) (length m.corners) (not-false e (or_false_right (not a || not b || not c || not d) (not e) h));
    }

pub even_back : (m : Mesh) → Even m → uneven m ≡ false
unfolding uneven
even_back m e = rw (eq-eqb _ _ e.positions, eq-eqb _ _ e.textures, eq-eqb _ _ e.normals, eq-eqb _ _ e.corners, eq-eqb _ _ e.adds)

-- rows 1 and 2: what taking a face's part rests on
pub sound : (m : Mesh) → Shaped m → Sound m.corners m.sizes
sound m s = record { few = (within m s.within).sizes; fits = (within m s.within).corners; adds = (even m s.even).adds }

-- ---- row 3: every size lies from 3 to 300

pub size_least : (m : Mesh) → misfit m ≡ false → (k : ℕ) → k < length m.sizes → least_ring ≤ get_or m.sizes k 0
unfolding misfit
size_least m h k l =
    let n = get_or m.sizes k 0 in ltb-false n least_ring (or_false_left (ltb n least_ring) (ltb ring_limit n) (some_false_at outside 0 m.sizes k h l))

pub size_most : (m : Mesh) → misfit m ≡ false → (k : ℕ) → k < length m.sizes → get_or m.sizes k 0 ≤ ring_limit
unfolding misfit
size_most m h k l =
    let n = get_or m.sizes k 0 in ltb-false ring_limit n (or_false_right (ltb n least_ring) (ltb ring_limit n) (some_false_at outside 0 m.sizes k h l))

pub sizes_back : (m : Mesh) → ((k : ℕ) → k < length m.sizes → (least_ring ≤ get_or m.sizes k 0) × (get_or m.sizes k 0 ≤ ring_limit)) → misfit m ≡ false
unfolding misfit
sizes_back m f =
    some_none outside 0 m.sizes
    (λ k l.
    let n = get_or m.sizes k 0 in or_neither (ltb n least_ring) (ltb ring_limit n) (le-ltb n least_ring (f k l).0) (le-ltb ring_limit n (f k l).1))

-- ---- row 5: every index is missing or below its count

pub record Found (m : Mesh) (k : ℕ) : Type 0 where
  pub position : get_or m.corners (width * k) 0 < position_count m
  pub texture : (get_or m.corners (width * k + 1) 0 ≡ missing → ⊥) → get_or m.corners (width * k + 1) 0 < texture_count m
  pub normal : (get_or m.corners (width * k + 2) 0 ≡ missing → ⊥) → get_or m.corners (width * k + 2) 0 < normal_count m

below_count : (count i : ℕ) → beyond_unless_missing count i ≡ false → (i ≡ missing → ⊥) → i < count
below_count count i h n =
    leb-false count i
    (by_cases (eqb i missing)
    (λ e. absurd (n (eqb-true i missing e)))
    (λ e. let z : (not (eqb i missing) && leb count i) ≡ false = h in rw e at z))

missing_or_below : (count i : ℕ) → ((i ≡ missing → ⊥) → i < count) → beyond_unless_missing count i ≡ false
missing_or_below count i f =
    by_cases (eqb i missing)
    (λ e. rw e)
    (λ e. rw (e, lt-leb count i (f (borrow.Author.Tests.eqb-false i missing e))))

pub found : (m : Mesh) → astray m ≡ false → (k : ℕ) → k < length m.corners / width → Found m k
unfolding astray
found m h k l =
    let p = get_or m.corners (width * k) 0 in
    let t = get_or m.corners (width * k + 1) 0 in
    let n = get_or m.corners (width * k + 2) 0 in
    let a = leb (position_count m) p in
    let b = beyond_unless_missing (texture_count m) t in
    let c = beyond_unless_missing (normal_count m) n in
    let e : (a || b || c) ≡ false =
    ap (astray_at m) (sym (get_or-corners_in m.corners k l)) ∙ some_false_at (astray_at m) [] (corners_in m.corners) k h (rw (length-corners_in m.corners) l) in
    let f : (a || b) ≡ false = or_false_left (a || b) c e in
    record {
      position = leb-false (position_count m) p (or_false_left a b f);
      texture = below_count (texture_count m) t (or_false_right a b f);
      normal = below_count (normal_count m) n (or_false_right (a || b) c e);
    }

pub found_back : (m : Mesh) → ((k : ℕ) → k < length m.corners / width → Found m k) → astray m ≡ false
unfolding astray
found_back m f =
    some_none (astray_at m) [] (corners_in m.corners)
    (λ k l.
    let h : k < length m.corners / width = rw (length-corners_in m.corners) at l in
    let r : Found m k = f k h in
    ap (astray_at m) (get_or-corners_in m.corners k h)
    ∙ or_neither _ _
    (or_neither _ _ (lt-leb _ _ r.position) (missing_or_below _ _ r.texture))
    (missing_or_below _ _ r.normal))

-- ---- all of it

pub record Accepted (m : Mesh) : Type 0 where
  pub limits : Within m
  pub whole : Even m
  pub sound : Sound m.corners m.sizes
  pub least : (k : ℕ) → k < length m.sizes → least_ring ≤ get_or m.sizes k 0
  pub most : (k : ℕ) → k < length m.sizes → get_or m.sizes k 0 ≤ ring_limit
  pub grouped : falls (map kind m.sizes) ≡ false
  pub corner : (k : ℕ) → k < length m.corners / width → Found m k

pub accepted : (m : Mesh) → mesh_number m ≡ 0 → Accepted m
unfolding ungrouped
accepted m h =
    let c : Clear m = clear m h in
    record {
      limits = within m c.shaped.within;
      whole = even m c.shaped.even;
      sound = sound m c.shaped;
      least = size_least m c.shaped.fit;
      most = size_most m c.shaped.fit;
      grouped = c.shaped.grouped;
      corner = found m c.found;
    }

pub accepted_0 : (m : Mesh) → Accepted m → mesh_number m ≡ 0
unfolding ungrouped
accepted_0 m a =
    clear_0 m (record {
      shaped = record {
        within = within_back m a.limits;
        even = even_back m a.whole;
        fit = sizes_back m (λ k l. (a.least k l, a.most k l));
        grouped = a.grouped;
      };
      found = found_back m a.corner;
    })
