-- The faces of a flat list of triangles: how many there are, the one at a place by its corners, and the numbers of its edges. A mesh of
-- triangles alone has just these faces. Assumes nothing.
use mathlib.Core.Path.{◌≡◌, refl, sym, ap, ap₂, ◌∙◌}
use mathlib.Core.Bool.{Bool, true, false}
use mathlib.Core.List.{List, [], ◌∷◌, ◌++◌}
use Prim.Native.Nat.{ℕ, zero, suc, ◌+◌, ◌*◌, ◌/◌, ◌%◌, ◌≤◌, ◌<◌}
use native.Mathlib.Nat.{not-suc-le-zero, le_of_suc-le-suc}
use native.Mathlib.Omega.{arith}
use lib.ListN.{length, get_or, take, drop, replicate, length-replicate, get_or-replicate, drop_of_length-le, get_or-append}
use lib.Seq.{get_or-append-add}
use lib.Dec.{ltb, eqb}
use borrow.Author.Tests.{lt-ltb, eqb-true}
use Rattle.lists.specs.Lists.{some, every, joined, each, sum}
use Rattle.lists.proofs.Bools.{and_left, and_right}
use Rattle.lists.proofs.Changing.{map_at}
use Rattle.lists.proofs.Mapping.{every_all}
use Rattle.lists.proofs.Copies.{length_part, part_at}
use Rattle.mesh.specs.Limits.{width, least_ring}
use Rattle.mesh.specs.Mesh.{Mesh, Ring, position, corner_at, corners_in, rings, faces, position_count}
use Rattle.mesh.specs.Table.{mesh_number}
use Rattle.mesh.specs.Face.{Sound, face_of}
use Rattle.mesh.proofs.Accepted.{Accepted, accepted}
use Rattle.mesh.proofs.Corners.{corners_in-step}
use Rattle.mesh.proofs.Faces.{length_rings, get_or-rings, rings_are, corners_back}
use Rattle.grouping.proofs.Accepting.{corners_in-flat}
use Rattle.folding.specs.Folding.{folded}
use Rattle.smoothed.specs.Smoothed.{sides, edges_by_use, place, Smoothable}
use Rattle.smoothed.specs.Columns.{triangles, Triangular, edge_numbers}
use Rattle.smoothed.proofs.All.{all_here, length_each}

-- ---- a list for each element, all as long

module _ {A B : Type 0} (f : A → List B) (w : ℕ) (d : A) (e : B) (long : (x : A) → length (f x) ≡ w) where
  pub each_at : (l : List A) (k j : ℕ) → k < length l → j < w → get_or (each f l) (w * k + j) e ≡ get_or (f (get_or l k d)) j e
  each_at [] k j h g = absurd (not-suc-le-zero h)
  each_at (x ∷ l) zero j h g =
      let z : w * 0 + j ≡ j = omega arith in
      ap (λ (i : ℕ). get_or (f x ++ each f l) i e) z ∙ get_or-append (f x) (each f l) e j (omega (arith, long x))
  each_at (x ∷ l) (suc k) j h g =
      let z : w * suc k + j ≡ length (f x) + (w * k + j) = omega (arith, long x) in
      ap (λ (i : ℕ). get_or (f x ++ each f l) i e) z
      ∙ get_or-append-add (f x) (each f l) (w * k + j) e
      ∙ each_at l k j (le_of_suc-le-suc h) g

-- ---- the corners of a triangle

three : (l : List ℕ) → length l ≡ width * least_ring → corners_in l ≡ corner_at l 0 ∷ corner_at l 1 ∷ corner_at l 2 ∷ []
three l h =
    let z : length l ≤ width * least_ring = omega arith in
    corners_in-step l 0 (omega arith)
    ∙ ap (λ (r : Ring). corner_at l 0 ∷ r) (corners_in-step l 1 (omega arith))
    ∙ ap (λ (r : Ring). corner_at l 0 ∷ corner_at l 1 ∷ r) (corners_in-step l 2 (omega arith))
    ∙ ap (λ (t : List ℕ). corner_at l 0 ∷ corner_at l 1 ∷ corner_at l 2 ∷ corners_in t) (drop_of_length-le l z)

-- corner j of a part is the corner that stands there
corner_part : (cs : List ℕ) (a m j i : ℕ) → width * j + 3 < m → a + width * j ≡ width * i → corner_at (take m (drop a cs)) j ≡ corner_at cs i
corner_part cs a m j i h e =
    let first : a + (width * j + 1) ≡ width * i + 1 = omega arith in
    let second : a + (width * j + 2) ≡ width * i + 2 = omega arith in
    let third : a + (width * j + 3) ≡ width * i + 3 = omega arith in
    rw (
      part_at 0 cs a m (width * j) (omega arith),
      part_at 0 cs a m (width * j + 1) (omega arith),
      part_at 0 cs a m (width * j + 2) (omega arith),
      part_at 0 cs a m (width * j + 3) (omega arith),
      e,
      first,
      second,
      third,
    )

sum_replicate : (n k t : ℕ) → k ≤ t → sum (take k (replicate t n)) ≡ n * k
sum_replicate n zero t h = omega arith
sum_replicate n (suc k) zero h = absurd (not-suc-le-zero h)
sum_replicate n (suc k) (suc t) h =
    let r : sum (take k (replicate t n)) ≡ n * k = sum_replicate n k t (le_of_suc-le-suc h) in omega arith

sum_same : (n t : ℕ) → sum (replicate t n) ≡ n * t
sum_same n zero = omega arith
sum_same n (suc t) = let r : sum (replicate t n) ≡ n * t = sum_same n t in omega arith

module _ (cs : List ℕ) where
  abbrev pub triangle_count : ℕ
  triangle_count = length cs / (width * least_ring)

  pub length_triangles : length (triangles cs) ≡ triangle_count
  unfolding triangles
  length_triangles =
      length_rings (replicate triangle_count least_ring) cs ∙ length-replicate triangle_count least_ring

  abbrev pub triangle_at : ℕ → Ring
  triangle_at k = corner_at cs (least_ring * k) ∷ corner_at cs (least_ring * k + 1) ∷ corner_at cs (least_ring * k + 2) ∷ []

  pub triangle_at_lem : (k : ℕ) → k < triangle_count → get_or (triangles cs) k [] ≡ triangle_at k
  unfolding triangles face_of
  triangle_at_lem k h =
      let s : List ℕ = replicate triangle_count least_ring in
      let a : ℕ = width * (least_ring * k) in
      let l : List ℕ = take (width * least_ring) (drop a cs) in
      let size : get_or s k 0 ≡ least_ring = get_or-replicate triangle_count k least_ring 0 h in
      let before : sum (take k s) ≡ least_ring * k = sum_replicate least_ring k triangle_count (omega arith) in
      let long : length l ≡ width * least_ring = length_part cs a (width * least_ring) (omega arith) in
      get_or-rings s cs k (omega (arith, length-replicate triangle_count least_ring))
      ∙ ap₂ (λ (n m : ℕ). corners_in (take (width * n) (drop (width * m) cs))) size before
      ∙ three l long
      ∙ rw (
        corner_part cs a (width * least_ring) 0 (least_ring * k) (omega arith) (omega arith),
        corner_part cs a (width * least_ring) 1 (least_ring * k + 1) (omega arith) (omega arith),
        corner_part cs a (width * least_ring) 2 (least_ring * k + 2) (omega arith) (omega arith),
      )

-- all their corners are those of the list
pub joined_triangles : (cs : List ℕ) → length cs % (width * least_ring) ≡ 0 → joined (triangles cs) ≡ corners_in cs
unfolding triangles
joined_triangles cs h =
    let s : List ℕ = replicate (triangle_count cs) least_ring in
    let total : sum s ≡ least_ring * triangle_count cs = sum_same least_ring (triangle_count cs) in
    sym (corners_in-flat (rings s cs) (rings_are s cs)) ∙ ap corners_in (corners_back s cs (omega arith))

-- ---- the numbers of its edges

module _ (fs : List Ring) where
  pub length-edge_numbers : length (edge_numbers fs) ≡ least_ring * length fs
  unfolding edge_numbers
  length-edge_numbers =
      omega (arith, lib.ListN.length-map (each sides fs) (place (edges_by_use fs)), length_each sides 3 (all_here (λ f. refl) fs))

  pub edge_number : (k j : ℕ) → k < length fs → j < least_ring → get_or (edge_numbers fs) (least_ring * k + j) 0 ≡ place (edges_by_use fs) (get_or (sides (get_or fs k [])) j (0, 0))
  unfolding edge_numbers
  edge_number k j h g =
      let n : length (each sides fs) ≡ length fs * 3 = length_each sides 3 (all_here (λ f. refl) fs) in
      map_at (place (edges_by_use fs)) (0, 0) 0 (each sides fs) (least_ring * k + j) (omega arith)
      ∙ ap (place (edges_by_use fs)) (each_at sides least_ring [] (0, 0) (λ f. refl) fs k j h g)

-- ---- a mesh of triangles alone

same_sizes : (n : ℕ) (s : List ℕ) → every (λ k. eqb k n) s ≡ true → s ≡ replicate (length s) n
same_sizes n [] h = refl
same_sizes n (k ∷ s) h =
    ap₂ ◌∷◌ (eqb-true k n (and_left (eqb k n) (every (λ k. eqb k n) s) h)) (same_sizes n s (and_right (eqb k n) (every (λ k. eqb k n) s) h))

pub rings_triangles : (cs s : List ℕ) → width * sum s ≡ length cs → every (λ k. eqb k least_ring) s ≡ true → rings s cs ≡ triangles cs
unfolding triangles
rings_triangles cs s h t =
    let same : s ≡ replicate (length s) least_ring = same_sizes least_ring s t in
    let total : sum s ≡ least_ring * length s = ap sum same ∙ sum_same least_ring (length s) in
    let count : length s ≡ length cs / (width * least_ring) = omega arith in
    ap (λ (l : List ℕ). rings l cs) (same ∙ ap (λ (n : ℕ). replicate n least_ring) count)

pub faces_triangles : (m : Mesh) → Sound m.corners m.sizes → every (λ k. eqb k least_ring) m.sizes ≡ true → faces m ≡ triangles m.corners
unfolding faces
faces_triangles m s t = rings_triangles m.corners m.sizes s.adds t

-- and what calls between crates ask
pub triangular_mesh : (m : Mesh) → mesh_number m ≡ 0 → every (λ k. eqb k least_ring) m.sizes ≡ true → Triangular m.corners (position_count m)
triangular_mesh m ok t =
    let a : Accepted m = accepted m ok in
    let same : m.sizes ≡ replicate (length m.sizes) least_ring = same_sizes least_ring m.sizes t in
    let total : sum m.sizes ≡ least_ring * length m.sizes = ap sum same ∙ sum_same least_ring (length m.sizes) in
    record {
      whole = omega (arith, a.sound.adds);
      few = a.sound.fits;
      entries = omega (arith, a.limits.positions);
      below = λ k h. (a.corner k h).position;
    }

-- none of which is folded: they can be smoothed
pub triangular_smoothable : (cs : List ℕ) (n : ℕ) → Triangular cs n → some folded (triangles cs) ≡ false → Smoothable n (triangles cs)
triangular_smoothable cs n t h = record {
  triangles = every_all (λ f. eqb (length f) 3) [] (triangles cs) (λ k l. ap (λ (f : Ring). eqb (length f) 3) (triangle_at_lem cs k (known k l)));
  unfolded = h;
  within =
      every_all (inside n) [] (triangles cs) (λ k l. ap (inside n) (triangle_at_lem cs k (known k l)) ∙ all_inside k (known k l));
}
  where
    inside : ℕ → Ring → Bool
    inside n f = every (λ c. ltb (position c) n) f

    known : (k : ℕ) → k < length (triangles cs) → k < triangle_count cs
    known k l = omega (arith, length_triangles cs)

    all_inside : (k : ℕ) → k < triangle_count cs → inside n (triangle_at cs k) ≡ true
    all_inside k l =
        rw (
          lt-ltb (get_or cs (width * (least_ring * k)) 0) n (t.below (least_ring * k) (omega arith)),
          lt-ltb (get_or cs (width * (least_ring * k + 1)) 0) n (t.below (least_ring * k + 1) (omega arith)),
          lt-ltb (get_or cs (width * (least_ring * k + 2)) 0) n (t.below (least_ring * k + 2) (omega arith)),
        )
