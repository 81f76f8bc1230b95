-- The whole call: a refusal, and a file that is read. Assumes nothing.
use mathlib.Core.Path.{◌≡◌, refl, sym, ap, ◌∙◌}
use mathlib.Core.Bool.{true, false}
use mathlib.Core.List.{List, [], ◌∷◌, map, map-map}
use Prim.Native.Nat.{ℕ, zero, suc, ◌*◌, ◌/◌, ◌≤◌}
use native.Mathlib.Omega.{arith}
use lib.ListN.{length, replicate, length-replicate}
use lib.Seq.{sets}
use lib.Ieee.{Float}
use Rattle.lists.specs.Lists.{some, each, span}
use Rattle.lists.specs.FirstUses.{place}
use Rattle.lists.proofs.Buckets.{length_table, table_ext}
use Rattle.lists.proofs.Mapping.{each_map}
use Rattle.mesh.specs.Limits.{width, least_ring, entry_limit}
use Rattle.mesh.specs.Mesh.{Mesh, mesh_of}
use Rattle.mesh.specs.Table.{first_of, short}
use Rattle.mesh.proofs.Numbers.{first_is}
use Rattle.reading.specs.declared.MeshRead.{MeshRead}
use Rattle.reading.specs.Reading.{room_of}
use Rattle.reading.specs.Answer.{refused_with}
use Rattle.scanned.specs.Scan.{scan_count, point_at, points_in, coordinates_of, not_finite, bare, corner_of, mesh_from, scan_mesh, length_number, points_number, scan_number}
use Rattle.scanned.specs.Answer.{ScanRead}
use Rattle.scanned.specs.Seen.{upto, seen}
use Rattle.scanned.proofs.Numbers.{number_0}
use Rattle.scanned.proofs.Pieces.{length_pieces, length_positions}
use Rattle.appearing.specs.Appearing.{Numbered}
use Rattle.scanfile.specs.Steps.{PointsRead}

-- ---- the points

module _ (ps : List ℕ) (p : List Float) (c s : List ℕ) where
  pub points_refused :
      (k : ℕ) → (k ≡ 0 → ⊥) → k ≡ points_number ps → (r : MeshRead) → r ≡ refused_with k → PointsRead ps p c s p c s r
  points_refused zero h e r f = absurd (h refl)
  points_refused (suc k) h e r f = rw f (record {
    number = e;
    position_count_is = refl;
    texture_count_is = refl;
    normal_count_is = refl;
    corner_count_is = refl;
    face_count = refl;
    positions = refl;
    corners = refl;
    sizes = refl;
  })

-- numbers by first appearance are the places of the corners
corners_are :
    (key : ℕ → ℕ) (u : ℕ) (numbers : List ℕ) (found : ℕ) → Numbered key u numbers found
    → each bare numbers ≡ each (corner_of (seen key u)) (upto key u)
corners_are key u numbers found n =
    let e : numbers ≡ map (place (seen key u)) (upto key u) =
    table_ext (λ i. place (seen key u) (key i)) u 0 numbers n.long n.number ∙ sym (map-map (place (seen key u)) key (span 0 u)) in
    ap (each bare) e ∙ each_map bare (place (seen key u)) (upto key u)

module _ (key : ℕ → ℕ) (u : ℕ) (numbers : List ℕ) (found : ℕ) (n : Numbered key u numbers found) (p : List Float) (c s : List ℕ) where
  pub points_read :
      some not_finite (upto key u) ≡ false → found ≤ entry_limit
      → (p' : List Float) (c' s' : List ℕ)
      → p' ≡ sets p 0 (each coordinates_of (seen key u)) → c' ≡ sets c 0 (each bare numbers) → s' ≡ sets s 0 (replicate (u / least_ring) least_ring)
      → PointsRead (upto key u) p c s p' c' s' (record { number = 0; positions = found; textures = 0; normals = 0; corners = u; faces = u / least_ring })
  unfolding mesh_from
  points_read e l p' c' s' ep ec es =
      let k : length (upto key u) ≡ u = length_table key u in
      let a : length (each coordinates_of (seen key u)) ≡ 3 * length (seen key u) = length_positions (seen key u) in
      let b : length (each (corner_of (seen key u)) (upto key u)) ≡ width * length (upto key u) =
      length_pieces (corner_of (seen key u)) width (λ x. refl) (upto key u) in
      let d : length (replicate (length (upto key u) / least_ring) least_ring) ≡ length (upto key u) / least_ring =
      length-replicate (length (upto key u) / least_ring) least_ring in
      let f : found ≡ length (seen key u) = n.count in
      record {
        number = number_0 (upto key u) e (omega arith);
        position_count_is = omega arith;
        texture_count_is = refl;
        normal_count_is = refl;
        corner_count_is = omega arith;
        face_count = sym (d ∙ ap (λ (m : ℕ). m / least_ring) k);
        positions = ep;
        corners = ec ∙ ap (sets c 0) (corners_are key u numbers found n);
        sizes = es ∙ ap (λ (m : ℕ). sets s 0 (replicate (m / least_ring) least_ring)) (sym k);
      }

-- ---- the file

pub points_in_lem : (file : List ℕ) (u : ℕ) → u ≡ least_ring * scan_count file → upto (point_at file) u ≡ points_in file
unfolding points_in
points_in_lem file u e = ap (upto (point_at file)) e

module _ (file : List ℕ) (before : Mesh) where
  refused_is : (k : ℕ) → (k ≡ 0 → ⊥) → k ≡ scan_number (room_of before) file → ScanRead file before before (refused_with k)
  refused_is zero h e = absurd (h refl)
  refused_is (suc k) h e = record {
    number = e;
    position_count_is = refl;
    texture_count_is = refl;
    normal_count_is = refl;
    corner_count_is = refl;
    face_count = refl;
    positions = refl;
    textures = refl;
    normals = refl;
    corners = refl;
    sizes = refl;
  }

  pub call_short : short (room_of before) ≡ true → (r : MeshRead) → r ≡ refused_with 9 → ScanRead file before before r
  unfolding scan_number
  call_short e r f = rw f (refused_is 9 (λ z. omega arith) (rw e))

  pub call_refused :
      short (room_of before) ≡ false → (k : ℕ) → (k ≡ 0 → ⊥) → k ≡ length_number file → (r : MeshRead) → r ≡ refused_with k
      → ScanRead file before before r
  unfolding scan_number
  call_refused e k h f r g =
      rw g (refused_is k h (rw e (f ∙ sym (first_is (length_number file) (points_number (points_in file) ∷ []) (λ z. h (f ∙ z))))))

last_one : (n : ℕ) → n ≡ first_of (n ∷ [])
last_one zero = refl
last_one (suc n) = refl

pub call_read :
    (file : List ℕ) (p t n : List Float) (c s : List ℕ) (p' : List Float) (c' s' : List ℕ) (r : MeshRead)
    → short (room_of (mesh_of p t n c s)) ≡ false → 0 ≡ length_number file → PointsRead (points_in file) p c s p' c' s' r
    → ScanRead file (mesh_of p t n c s) (mesh_of p' t n c' s') r
unfolding scan_number scan_mesh
call_read file p t n c s p' c' s' r e f h = record {
  number = h.number ∙ rw (e, ← f) (last_one (points_number (points_in file)));
  position_count_is = h.position_count_is;
  texture_count_is = h.texture_count_is;
  normal_count_is = h.normal_count_is;
  corner_count_is = h.corner_count_is;
  face_count = h.face_count;
  positions = h.positions;
  textures = refl;
  normals = refl;
  corners = h.corners;
  sizes = h.sizes;
}
