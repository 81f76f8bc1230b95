-- The mesh of points: it is accepted, its positions are finite, pairwise different and used, and each corner has its point. Assumes nothing.
use mathlib.Core.Path.{◌≡◌, refl, sym, ap, ◌∙◌}
use mathlib.Core.Bool.{Bool, true, false, ◌&&◌}
use mathlib.Core.List.{List, [], ◌∷◌, map}
use Prim.Native.Nat.{ℕ, zero, suc, ◌+◌, ◌*◌, ◌/◌, ◌%◌, ◌≤◌, ◌<◌}
use native.Mathlib.Omega.{arith}
use lib.Dec.{ltb}
use lib.ListN.{length, get_or, take, replicate, length-replicate, get_or-replicate}
use lib.Ieee.{Float, nan, inf, fin, binary32, to_bits, is_nan}
use lib.Ieee.Bits.{to_bits-of_bits}
use borrow.Author.Tests.{ltb-false, not-false}
use Rattle.lists.specs.Lists.{some, every, each, has, sum}
use Rattle.lists.specs.FirstUses.{first_uses, place}
use Rattle.lists.proofs.Bools.{by_cases, and_left, and_right, and_both}
use Rattle.lists.proofs.Buckets.{length_table, table_at}
use Rattle.lists.proofs.Parts.{some_false_at, every_append}
use Rattle.lists.proofs.Places.{place_below, get_or-place, in_at, place-get_or, has_get_d}
use Rattle.lists.proofs.FirstUses.{has-first_uses, first_uses-once}
use Rattle.mesh.specs.Limits.{width, point_width, least_ring, entry_limit, face_limit}
use Rattle.mesh.specs.Mesh.{missing}
use Rattle.mesh.specs.Table.{when, first_of, falls, kind, ungrouped, mesh_number, short}
use Rattle.mesh.proofs.Numbers.{first_head, first_tail, when_not, clear_0}
use Rattle.mesh.proofs.Accepted.{within_back, even_back, sizes_back, found_back}
use Rattle.floating.specs.Limits.{finite}
use Rattle.floating.specs.Points.{row}
use Rattle.little.specs.Little.{word_values, word, half, Bytes}
use Rattle.scanned.specs.Scan.{scan_count, point_place, coordinate_bytes, plain, point, point_from, point_at, points_in, widened, coordinates_of, not_finite}
use Rattle.scanned.specs.Scan.{corner_of, mesh_from, scan_mesh, length_number, points_number, scan_number}
use Rattle.scanned.specs.Seen.{upto, seen}
use Rattle.scanned.specs.Promises.{NumberSaysRead, ReadIsAccepted, ReadIsFinite, position_at_lem, index_at, PositionsDiffer, PositionsUsed, CornersArePoints, PointsAreWidened}
use Rattle.scanned.proofs.Points.{plain_below, coordinates_point}
use Rattle.scanned.proofs.Lengths.{right}
use Rattle.scanned.proofs.Pieces.{length_pieces, pieces_at, piece_at, length_coordinates, length_positions}
use Rattle.scanned.proofs.Prefixes.{upto_take, number_old, number_new}

-- ---- what a number 0 says

pub number_says_read : NumberSaysRead
unfolding scan_number
number_says_read rooms file e =
    let rest = length_number file ∷ points_number (points_in file) ∷ [] in
    let e1 : first_of rest ≡ 0 = first_tail (when (short rooms) 9) rest e in
    record {
      lengthy = first_head (length_number file) (points_number (points_in file) ∷ []) e1;
      pointed = first_head (points_number (points_in file)) [] (first_tail (length_number file) (points_number (points_in file) ∷ []) e1);
    }

module _ (ps : List ℕ) (e : points_number ps ≡ 0) where
  abbrev many : Bool
  many = ltb entry_limit (length (first_uses ps))

  pub all_finite : some not_finite ps ≡ false
  unfolding points_number
  all_finite = when_not (some not_finite ps) 13 (first_head (when (some not_finite ps) 14) (when many 1 ∷ []) e)

  pub few_positions : length (first_uses ps) ≤ entry_limit
  unfolding points_number
  few_positions =
      ltb-false entry_limit (length (first_uses ps))
      (when_not many 0 (first_head (when many 1) [] (first_tail (when (some not_finite ps) 14) (when many 1 ∷ []) e)))

-- ---- its lists

module _ (ps : List ℕ) where
  -- a point is there, and has its number
  has_point : (k : ℕ) → k < length ps → has (get_or ps k 0) (first_uses ps) ≡ true
  has_point k h = has-first_uses (get_or ps k 0) ps ∙ has_get_d ps k h

  corners_long : length (mesh_from ps).corners ≡ width * length ps
  unfolding mesh_from
  corners_long = length_pieces (corner_of (first_uses ps)) width (λ p. refl) ps

  positions_long : length (mesh_from ps).positions ≡ 3 * length (first_uses ps)
  unfolding mesh_from
  positions_long = length_positions (first_uses ps)

  index_at_lem : (k : ℕ) → k < length ps → get_or (mesh_from ps).corners (width * k) 0 ≡ place (first_uses ps) (get_or ps k 0)
  unfolding mesh_from
  index_at_lem k h =
      let z : width * k ≡ width * k + 0 = omega arith in
      ap (λ (n : ℕ). get_or (each (corner_of (first_uses ps)) ps) n 0) z
      ∙ pieces_at (corner_of (first_uses ps)) width (λ p. refl) 0 0 ps k 0 h (omega arith)

  texture_at : (k : ℕ) → k < length ps → get_or (mesh_from ps).corners (width * k + 1) 0 ≡ missing
  unfolding mesh_from
  texture_at k h = pieces_at (corner_of (first_uses ps)) width (λ p. refl) 0 0 ps k 1 h (omega arith)

  normal_at : (k : ℕ) → k < length ps → get_or (mesh_from ps).corners (width * k + 2) 0 ≡ missing
  unfolding mesh_from
  normal_at k h = pieces_at (corner_of (first_uses ps)) width (λ p. refl) 0 0 ps k 2 h (omega arith)

  mark_at : (k : ℕ) → k < length ps → get_or (mesh_from ps).corners (width * k + 3) 0 ≡ 0
  unfolding mesh_from
  mark_at k h = pieces_at (corner_of (first_uses ps)) width (λ p. refl) 0 0 ps k 3 h (omega arith)

  position_at : (i : ℕ) → i < length (first_uses ps) → position_at_lem (mesh_from ps) i ≡ coordinates_of (get_or (first_uses ps) i 0)
  unfolding mesh_from row
  position_at i h = piece_at coordinates_of point_width length_coordinates 0 (first_uses ps) i h

-- ---- accepted

sum_threes : (n : ℕ) → sum (replicate n least_ring) ≡ 3 * n
sum_threes zero = refl
sum_threes (suc n) = let e : sum (replicate n least_ring) ≡ 3 * n = sum_threes n in omega arith

never_falls : (n : ℕ) → falls (map kind (replicate n least_ring)) ≡ false
never_falls zero = refl
never_falls (suc zero) = refl
never_falls (suc (suc n)) = never_falls (suc n)

module _ (ps : List ℕ) (n : ℕ) (l : length ps ≡ least_ring * n) (f : n ≤ face_limit) (g : length (first_uses ps) ≤ entry_limit) where
  faces_are : length ps / least_ring ≡ n
  faces_are = omega arith

  sizes_long : length (mesh_from ps).sizes ≡ n
  unfolding mesh_from
  sizes_long = length-replicate (length ps / least_ring) least_ring ∙ faces_are

  textures_none : length (mesh_from ps).textures ≡ 0
  unfolding mesh_from
  textures_none = refl

  normals_none : length (mesh_from ps).normals ≡ 0
  unfolding mesh_from
  normals_none = refl

  size_at : (k : ℕ) → k < n → get_or (mesh_from ps).sizes k 0 ≡ 3
  unfolding mesh_from
  size_at k h = get_or-replicate (length ps / least_ring) k least_ring 0 (omega (arith, faces_are))

  adds : width * sum (mesh_from ps).sizes ≡ length (mesh_from ps).corners
  unfolding mesh_from
  adds =
      let a : sum (replicate (length ps / least_ring) least_ring) ≡ 3 * (length ps / least_ring) = sum_threes (length ps / least_ring) in
      let b : length (each (corner_of (first_uses ps)) ps) ≡ width * length ps = length_pieces (corner_of (first_uses ps)) width (λ p. refl) ps in
      omega (arith, faces_are)

  all_grouped : falls (map kind (mesh_from ps).sizes) ≡ false
  unfolding mesh_from
  all_grouped = never_falls (length ps / least_ring)

  pub mesh_accepted : mesh_number (mesh_from ps) ≡ 0
  unfolding ungrouped
  mesh_accepted =
      let c : length (mesh_from ps).corners ≡ width * length ps = corners_long ps in
      let p : length (mesh_from ps).positions ≡ 3 * length (first_uses ps) = positions_long ps in
      let s : length (mesh_from ps).sizes ≡ n = sizes_long in
      clear_0 (mesh_from ps) (record {
        shaped = record {
          within = within_back (mesh_from ps) (record {
            positions = omega arith;
            textures = omega (arith, textures_none);
            normals = omega (arith, normals_none);
            corners = omega arith;
            sizes = omega arith;
          });
          even = even_back (mesh_from ps) (record {
            positions = omega arith;
            textures = ap (λ (k : ℕ). k % 2) textures_none;
            normals = ap (λ (k : ℕ). k % 3) normals_none;
            corners = omega arith;
            adds = adds;
          });
          fit = sizes_back (mesh_from ps) (λ k h. (let e : get_or (mesh_from ps).sizes k 0 ≡ 3 = size_at k (omega arith) in (omega arith, omega arith)));
          grouped = all_grouped;
        };
        found = found_back (mesh_from ps) (λ k h.
            let i : k < length ps = omega arith in
            let b : place (first_uses ps) (get_or ps k 0) < length (first_uses ps) = place_below (first_uses ps) (get_or ps k 0) (has_point ps k i) in
            record {
              position = (let e : get_or (mesh_from ps).corners (width * k) 0 ≡ place (first_uses ps) (get_or ps k 0) = index_at_lem ps k i in omega arith);
              texture = λ ne. absurd (ne (texture_at ps k i));
              normal = λ ne. absurd (ne (normal_at ps k i));
            });
      })

pub read_is_accepted : ReadIsAccepted
unfolding scan_mesh points_in
read_is_accepted file r =
    mesh_accepted (points_in file) (scan_count file) (length_table (point_at file) (least_ring * scan_count file)) (right file r.lengthy).few
    (few_positions (points_in file) r.pointed)

-- ---- finite

-- a point that is not infinite has finite coordinates
finite_point : (p : ℕ) → not_finite p ≡ false → every finite (coordinates_of p) ≡ true
unfolding not_finite
finite_point p e = not-false (every finite (coordinates_of p)) e

-- what stands among the different points stands among the points
among : (ps : List ℕ) (i : ℕ) → i < length (first_uses ps) → (k : ℕ) × (k < length ps) × (get_or ps k 0 ≡ get_or (first_uses ps) i 0)
among ps i h = in_at (get_or (first_uses ps) i 0) ps (sym (has-first_uses (get_or (first_uses ps) i 0) ps) ∙ has_get_d (first_uses ps) i h)

module _ (ps : List ℕ) (e : some not_finite ps ≡ false) where
  used_finite : (i : ℕ) → i < length (first_uses ps) → every finite (coordinates_of (get_or (first_uses ps) i 0)) ≡ true
  used_finite i h =
      let w = among ps i h in
      finite_point (get_or (first_uses ps) i 0) (ap not_finite (sym w.2) ∙ some_false_at not_finite 0 ps w.0 e w.1)

all_each : (l : List ℕ) → ((i : ℕ) → i < length l → every finite (coordinates_of (get_or l i 0)) ≡ true) → every finite (each coordinates_of l) ≡ true
all_each [] h = refl
all_each (p ∷ l) h =
    every_append finite (coordinates_of p) (each coordinates_of l)
    ∙ and_both (every finite (coordinates_of p)) (every finite (each coordinates_of l)) (h 0 (omega arith))
    (all_each l (λ i k. h (suc i) (let z : i < length l = k in omega arith)))

pub read_is_finite : ReadIsFinite
unfolding scan_mesh mesh_from
read_is_finite file r =
    all_each (first_uses (points_in file)) (used_finite (points_in file) (all_finite (points_in file) r.pointed))

-- ---- used

pub positions_used : PositionsUsed
unfolding scan_mesh
positions_used file i h =
    let a : length (mesh_from (points_in file)).positions ≡ 3 * length (first_uses (points_in file)) = positions_long (points_in file) in
    let l : i < length (first_uses (points_in file)) = omega arith in
    let w = among (points_in file) i l in (
      w.0,
      (let b : length (mesh_from (points_in file)).corners ≡ width * length (points_in file) = corners_long (points_in file) in
          let k : w.0 < length (points_in file) = w.1 in omega arith),
      index_at_lem (points_in file) w.0 w.1
          ∙ ap (place (first_uses (points_in file))) w.2
          ∙ place-get_or (first_uses (points_in file)) i (first_uses-once (points_in file)) l,
    )

-- ---- corners

-- over the first n points of a file
module _ (key : ℕ → ℕ) (n k : ℕ) (h : k < n) where
  point_is : get_or (upto key n) k 0 ≡ key k
  point_is = table_at key n k 0 h

  inside : k < length (upto key n)
  inside = omega (arith, length_table key n)

  number_is : index_at (mesh_from (upto key n)) k ≡ place (seen key n) (key k)
  number_is = index_at_lem (upto key n) k inside ∙ ap (place (seen key n)) point_is

  has_it : has (key k) (seen key n) ≡ true
  has_it = ap (λ (x : ℕ). has x (seen key n)) (sym point_is) ∙ has_point (upto key n) k inside

  own_position : position_at_lem (mesh_from (upto key n)) (index_at (mesh_from (upto key n)) k) ≡ coordinates_of (key k)
  own_position =
      ap (position_at_lem (mesh_from (upto key n))) number_is
      ∙ position_at (upto key n) (place (seen key n) (key k)) (place_below (seen key n) (key k) has_it)
      ∙ ap coordinates_of (get_or-place (seen key n) (key k) has_it)

  -- its number is that of a point before it, or the next
  early : index_at (mesh_from (upto key n)) k ≤ length (first_uses (take k (upto key n)))
  early =
      let q : length (first_uses (take k (upto key n))) ≡ length (seen key k) =
      ap (λ (l : List ℕ). length (first_uses l)) (upto_take key k n (omega arith)) in
      let e : index_at (mesh_from (upto key n)) k ≡ place (seen key n) (key k) = number_is in
      by_cases (has (key k) (upto key k))
      (λ t. let b : place (seen key n) (key k) < length (seen key k) = number_old key k n h t in omega arith)
      (λ t. let b : place (seen key n) (key k) ≡ length (seen key k) = number_new key k n h t in omega arith)

pub corners_are_points : CornersArePoints
unfolding scan_mesh points_in
corners_are_points file k h =
    let n = least_ring * scan_count file in
    record {
      position = own_position (point_at file) n k h;
      texture = texture_at (upto (point_at file) n) k (inside (point_at file) n k h);
      normal = normal_at (upto (point_at file) n) k (inside (point_at file) n k h);
      mark = mark_at (upto (point_at file) n) k (inside (point_at file) n k h);
      first = early (point_at file) n k h;
    }

-- ---- the numbers of the file

module _ (file : List ℕ) (b : Bytes file) where
  word_below : (i : ℕ) → word file i < word_values
  unfolding word half
  word_below i = omega (arith, b i, b (i + 1), b (i + 2), b (i + 2 + 1))

  bits_below : (i : ℕ) → plain (word file i) < word_values
  bits_below i = plain_below (word file i) (word_below i)

pub points_are_widened : PointsAreWidened
unfolding point_at point_from
points_are_widened file b k = coordinates_point _ _ _ (bits_below file b (point_place k)) (bits_below file b (point_place k + coordinate_bytes))

-- point k of the file stands at place k
point_in : (file : List ℕ) (k : ℕ) → k < length (points_in file) → get_or (points_in file) k 0 ≡ point_at file k
unfolding points_in
point_in file k h =
    let l : length (upto (point_at file) (least_ring * scan_count file)) ≡ least_ring * scan_count file = length_table (point_at file) (least_ring * scan_count file) in
    table_at (point_at file) (least_ring * scan_count file) k 0 (omega arith)

-- ---- different

-- two finite numbers that are one have the same bits
finite_number : (x : Float) → finite x ≡ true → is_nan x ≡ false
unfolding finite is_nan
finite_number nan e = sym e
finite_number (inf s) e = refl
finite_number (fin s m e') e = refl

bits_told : (a b : ℕ) → a < word_values → b < word_values → finite (widened a) ≡ true → finite (widened b) ≡ true → widened a ≡ widened b → a ≡ b
bits_told a b ha hb fa fb e =
    sym (to_bits-of_bits binary32 a ha (rw (finite_number (widened a) fa) tt))
    ∙ ap (to_bits binary32) e
    ∙ to_bits-of_bits binary32 b hb (rw (finite_number (widened b) fb) tt)

three_told :
    (x y z x' y' z' : ℕ) → x < word_values → y < word_values → z < word_values → x' < word_values → y' < word_values → z' < word_values
    → every finite (widened x ∷ widened y ∷ widened z ∷ []) ≡ true → every finite (widened x' ∷ widened y' ∷ widened z' ∷ []) ≡ true
    → widened x ∷ widened y ∷ widened z ∷ [] ≡ widened x' ∷ widened y' ∷ widened z' ∷ [] → point x y z ≡ point x' y' z'
three_told x y z x' y' z' hx hy hz hx' hy' hz' f g e =
    let ex : widened x ≡ widened x' = ap (λ (l : List Float). get_or l 0 nan) e in
    let ey : widened y ≡ widened y' = ap (λ (l : List Float). get_or l 1 nan) e in
    let ez : widened z ≡ widened z' = ap (λ (l : List Float). get_or l 2 nan) e in
    let f1 = and_left (finite (widened x)) (finite (widened y) && (finite (widened z) && true)) f in
    let f2 = and_right (finite (widened x)) (finite (widened y) && (finite (widened z) && true)) f in
    let f3 = and_right (finite (widened y)) (finite (widened z) && true) f2 in
    let g1 = and_left (finite (widened x')) (finite (widened y') && (finite (widened z') && true)) g in
    let g2 = and_right (finite (widened x')) (finite (widened y') && (finite (widened z') && true)) g in
    let g3 = and_right (finite (widened y')) (finite (widened z') && true) g2 in
    let a : x ≡ x' = bits_told x x' hx hx' f1 g1 ex in
    let b : y ≡ y' = bits_told y y' hy hy' (and_left (finite (widened y)) (finite (widened z) && true) f2) (and_left (finite (widened y')) (finite (widened z') && true) g2) ey in
    let c : z ≡ z' = bits_told z z' hz hz' (and_left (finite (widened z)) true f3) (and_left (finite (widened z')) true g3) ez in
    λ i. point (a i) (b i) (c i)

module _ (file : List ℕ) (b : Bytes file) where
  points_told :
      (j k : ℕ) → every finite (coordinates_of (point_at file j)) ≡ true → every finite (coordinates_of (point_at file k)) ≡ true
      → coordinates_of (point_at file j) ≡ coordinates_of (point_at file k) → point_at file j ≡ point_at file k
  unfolding point_at point_from
  points_told j k f g e =
      let pj = point_place j in
      let pk = point_place k in
      let cj = points_are_widened file b j in
      let ck = points_are_widened file b k in
      three_told _ _ _ _ _ _ (bits_below file b pj) (bits_below file b (pj + coordinate_bytes)) (bits_below file b (pj + 2 * coordinate_bytes))
      (bits_below file b pk) (bits_below file b (pk + coordinate_bytes)) (bits_below file b (pk + 2 * coordinate_bytes))
      (ap (every finite) (sym cj) ∙ f) (ap (every finite) (sym ck) ∙ g) (sym cj ∙ e ∙ ck)

pub positions_differ : PositionsDiffer
unfolding scan_mesh
positions_differ file b r i j hi hj e =
    let a : length (mesh_from (points_in file)).positions ≡ 3 * length (first_uses (points_in file)) = positions_long (points_in file) in
    let li : i < length (first_uses (points_in file)) = omega arith in
    let lj : j < length (first_uses (points_in file)) = omega arith in
    let fin = all_finite (points_in file) r.pointed in
    let ci : coordinates_of (get_or (first_uses (points_in file)) i 0) ≡ coordinates_of (get_or (first_uses (points_in file)) j 0) =
    sym (position_at (points_in file) i li) ∙ e ∙ position_at (points_in file) j lj in
    let q : get_or (first_uses (points_in file)) i 0 ≡ get_or (first_uses (points_in file)) j 0 =
    told file b (get_or (first_uses (points_in file)) i 0) (get_or (first_uses (points_in file)) j 0) (at_file file i li) (at_file file j lj)
    (used_finite (points_in file) fin i li) (used_finite (points_in file) fin j lj) ci in
    sym (place-get_or (first_uses (points_in file)) i (first_uses-once (points_in file)) li)
    ∙ ap (place (first_uses (points_in file))) q
    ∙ place-get_or (first_uses (points_in file)) j (first_uses-once (points_in file)) lj
  where
    -- each of them is a point of the file
    at_file : (file : List ℕ) (i : ℕ) → i < length (first_uses (points_in file)) → (k : ℕ) × (point_at file k ≡ get_or (first_uses (points_in file)) i 0)
    at_file file i h = let w = among (points_in file) i h in (w.0, sym (point_in file w.0 w.1) ∙ w.2)

    told :
        (file : List ℕ) → Bytes file → (p q : ℕ) → ((k : ℕ) × (point_at file k ≡ p)) → ((k : ℕ) × (point_at file k ≡ q))
        → every finite (coordinates_of p) ≡ true → every finite (coordinates_of q) ≡ true → coordinates_of p ≡ coordinates_of q → p ≡ q
    told file b p q (j, ej) (k, ek) f g e =
        sym ej
        ∙ points_told file b j k (ap (λ (n : ℕ). every finite (coordinates_of n)) ej ∙ f) (ap (λ (n : ℕ). every finite (coordinates_of n)) ek ∙ g)
        (ap coordinates_of ej ∙ e ∙ ap coordinates_of (sym ek))
        ∙ ek
