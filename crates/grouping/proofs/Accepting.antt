-- Faces that are grouped as `push` does make an accepted mesh where each of them is in order. Assumes nothing.
use mathlib.Core.Path.{◌≡◌, sym, ap, ◌∙◌}
use mathlib.Core.Bool.{Bool, true, false, ◌&&◌}
use mathlib.Core.List.{List, [], ◌∷◌, ◌++◌, map}
use Prim.Native.Nat.{ℕ, ◌*◌, ◌%◌, ◌≤◌, ◌<◌}
use native.Mathlib.Omega.{arith}
use lib.ListN.{length, get_or, length-map, get_or-map}
use lib.Dec.{leb}
use lib.Ieee.{Float}
use borrow.Author.Tests.{leb-true}
use Rattle.lists.specs.Lists.{every, some, only, joined, each}
use Rattle.lists.proofs.Bools.{and_left, and_right, by_cases}
use Rattle.lists.proofs.Counting.{clash}
use Rattle.lists.proofs.Only.{some_only}
use Rattle.lists.proofs.Parts.{some_append, every_at, each_joined, every_joined, some_joined}
use Rattle.mesh.specs.Limits.{width, ring_limit, corner_limit, point_numbers, texel_numbers}
use Rattle.mesh.specs.Mesh.{Mesh, Ring, mesh_of, corners_in}
use Rattle.mesh.specs.Table.{mesh_number, astray, astray_at, ungrouped}
use Rattle.mesh.proofs.Corners.{is_corner, corners_in-joined}
use Rattle.mesh.proofs.Faces.{is_ring}
use Rattle.mesh.proofs.Numbers.{clear_0}
use Rattle.mesh.proofs.Accepted.{within_back, even_back, sizes_back}
use Rattle.grouping.specs.Push.{pushed, corner_count, is_triangle, is_quadrangle, is_larger}
use Rattle.grouping.proofs.Placing.{length_flat}
use Rattle.grouping.proofs.Pushed.{every_pushed, pushed_corners, pushed_length, pushed_grouped}

-- ---- faces written flat, corner by corner

-- the corners of faces that are written flat are the faces' corners
pub corners_in-flat : (fs : List Ring) → every is_ring fs ≡ true → corners_in (each joined fs) ≡ joined fs
corners_in-flat fs e = ap corners_in (each_joined fs) ∙ corners_in-joined (joined fs) (every_joined is_corner fs ∙ e)

-- what no face has, none that is left has
none_left : (q : Ring → Bool) (p : Ring → Bool) (fs : List Ring) → some p fs ≡ false → some p (only q fs) ≡ false
none_left q p fs e = by_cases (some p (only q fs)) (λ t. clash (some_only q p fs t) e) (λ t. t)

some_pushed : (p : Ring → Bool) (fs : List Ring) → some p fs ≡ false → some p (pushed fs) ≡ false
unfolding pushed
some_pushed p fs e =
    some_append p (only is_triangle fs ++ only is_quadrangle fs) (only is_larger fs)
    ∙ rw (some_append p (only is_triangle fs) (only is_quadrangle fs), none_left is_triangle p fs e, none_left is_quadrangle p fs e, none_left is_larger p fs e)

-- ---- a face in order has from 3 to 300 corners

abbrev pub sized : Ring → Bool
sized f = leb 3 (length f) && leb (length f) ring_limit

-- there are at most a third as many faces as corners
pub sized_count : (fs : List Ring) → every sized fs ≡ true → 3 * length fs ≤ corner_count fs
sized_count [] e = omega arith
sized_count (f ∷ fs) e =
    let a : 3 ≤ length f = leb-true 3 (length f) (and_left (leb 3 (length f)) (leb (length f) ring_limit) (and_left (sized f) (every sized fs) e)) in
    let b : 3 * length fs ≤ corner_count fs = sized_count fs (and_right (sized f) (every sized fs) e) in
    omega arith

size_at : (fs : List Ring) (k : ℕ) → get_or (map length fs) k 0 ≡ length (get_or fs k [])
size_at fs k = get_or-map length fs k []

-- ---- the mesh

pub record Orderly (p t n : List Float) (fs : List Ring) : Type 0 where
  pub few_positions : length p ≤ point_numbers
  pub few_textures : length t ≤ texel_numbers
  pub few_normals : length n ≤ point_numbers
  pub whole_positions : length p % 3 ≡ 0
  pub whole_textures : length t % 2 ≡ 0
  pub whole_normals : length n % 3 ≡ 0
  pub few_corners : corner_count fs ≤ corner_limit
  pub are_rings : every is_ring fs ≡ true
  pub are_sized : every sized fs ≡ true

module _ (p t n : List Float) (fs : List Ring) (o : Orderly p t n fs) where
  abbrev m : Mesh
  m = mesh_of p t n (each joined (pushed fs)) (map length (pushed fs))

  flat_length : length m.corners ≡ width * corner_count (pushed fs)
  flat_length = length_flat (pushed fs) (every_pushed is_ring fs o.are_rings)

  size_of : (k : ℕ) → k < length m.sizes → sized (get_or (pushed fs) k []) ≡ true
  size_of k h = every_at sized [] (pushed fs) k (every_pushed sized fs o.are_sized) (rw (length-map (pushed fs) length) at h)

  pub accepted_faces : some (astray_at m) (joined fs) ≡ false → mesh_number m ≡ 0
  unfolding ungrouped astray
  accepted_faces e =
      let c : corner_count (pushed fs) ≤ corner_count fs = pushed_corners fs in
      let l : length (pushed fs) ≤ length fs = pushed_length fs in
      let s : 3 * length fs ≤ corner_count fs = sized_count fs o.are_sized in
      let f : length m.corners ≡ width * corner_count (pushed fs) = flat_length in
      let g : length m.sizes ≡ length (pushed fs) = length-map (pushed fs) length in
      clear_0 m (record {
        shaped = record {
          within = within_back m (record {
            positions = o.few_positions;
            textures = o.few_textures;
            normals = o.few_normals;
            corners = omega (arith, o.few_corners);
            sizes = omega (arith, o.few_corners);
          });
          even = even_back m (record { positions = o.whole_positions; textures = o.whole_textures; normals = o.whole_normals; corners = omega arith; adds = sym f });
          fit = sizes_back m (λ k h.
              let z : sized (get_or (pushed fs) k []) ≡ true = size_of k h in
              let y = get_or (pushed fs) k [] in (
                rw (size_at (pushed fs) k) (leb-true 3 (length y) (and_left (leb 3 (length y)) (leb (length y) ring_limit) z)),
                rw (size_at (pushed fs) k) (leb-true (length y) ring_limit (and_right (leb 3 (length y)) (leb (length y) ring_limit) z)),
              ));
          grouped = pushed_grouped fs;
        };
        found =
            ap (some (astray_at m)) (corners_in-flat (pushed fs) (every_pushed is_ring fs o.are_rings))
            ∙ some_joined (astray_at m) (pushed fs)
            ∙ some_pushed (some (astray_at m)) fs (sym (some_joined (astray_at m) fs) ∙ e);
      })
