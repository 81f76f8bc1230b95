-- The uses of all triangles of a flat list of corners are those of triangle 0, of triangle 1, and so on. Assumes nothing.
use Rattle.std.proofs.Common.{◌≡◌, refl, sym, ap, ◌∙◌, List, [], map, ℕ, zero, suc, ◌+◌, ◌*◌, ◌/◌, ◌≤◌, ◌<◌, arith, length, get_or, take, drop, replicate}
use lib.ListN.{length-replicate, get_or-replicate}
use Rattle.lists.specs.Lists.{each, span, sum}
use Rattle.lists.proofs.Buckets.{each_span_cong}
use Rattle.lists.proofs.Copies.{length_part, part_at}
use Rattle.lists.proofs.Mapping.{map_span, each_map}
use Rattle.mesh.specs.Limits.{width, least_ring}
use Rattle.mesh.specs.Mesh.{Corner, Ring, position, corners_in}
use Rattle.mesh.specs.Face.{offset_of, face_of}
use Rattle.mesh.proofs.Corners.{get_or-corners_in}
use Rattle.mesh.proofs.Faces.{length_rings, get_or-rings}
use Rattle.smoothed.specs.Smoothed.{at}
use Rattle.smoothed.specs.Around.{uses_of}
use Rattle.smoothed.specs.Columns.{triangles}
use Rattle.sides.specs.Steps.{position_at_lem, uses_by, uses_at}

-- how many triangles there are
abbrev pub triangle_count : List ℕ → ℕ
triangle_count cs = length cs / (width * least_ring)

offset_alike : (n k : ℕ) → k ≤ n → sum (take k (replicate n least_ring)) ≡ least_ring * k
offset_alike n zero h = refl
offset_alike zero (suc k) h = absurd (omega arith)
offset_alike (suc n) (suc k) h =
    let e : sum (take k (replicate n least_ring)) ≡ least_ring * k = offset_alike n k (omega arith) in
    omega arith

module _ (cs : List ℕ) (k : ℕ) (h : k < triangle_count cs) where
  -- triangle k as a part of the list
  part : List ℕ
  part = take (width * least_ring) (drop (width * (least_ring * k)) cs)

  face_part : get_or (triangles cs) k [] ≡ corners_in part
  unfolding triangles face_of part
  face_part =
      let n : ℕ = triangle_count cs in
      let s : List ℕ = replicate n least_ring in
      let l : k < length s = (let e : length s ≡ n = length-replicate n least_ring in omega arith) in
      get_or-rings s cs k l
      ∙ ap (λ (m : ℕ). corners_in (take (width * m) (drop (width * offset_of s k) cs))) (get_or-replicate n k least_ring 0 h)
      ∙ ap (λ (m : ℕ). corners_in (take (width * least_ring) (drop (width * m) cs))) (offset_alike n k (omega arith))

  -- the position of its corner i
  corner : (i : ℕ) → i < least_ring → at (get_or (triangles cs) k []) i ≡ position_at_lem cs (least_ring * k + i)
  unfolding part
  corner i l =
      let f : width * (least_ring * k) + width * least_ring ≤ length cs = omega arith in
      let n : length (take (width * least_ring) (drop (width * (least_ring * k)) cs)) ≡ width * least_ring =
      length_part cs (width * (least_ring * k)) (width * least_ring) f in
      let e : width * (least_ring * k) + width * i ≡ width * (least_ring * k + i) = omega arith in
      ap (λ (r : Ring). at r i) face_part
      ∙ ap (λ (c : Corner). position c) (get_or-corners_in part i (omega arith))
      ∙ part_at 0 cs (width * (least_ring * k)) (width * least_ring) (width * i) (omega arith)
      ∙ ap (λ (j : ℕ). get_or cs j 0) e

  face_uses : uses_of (get_or (triangles cs) k []) ≡ uses_at cs k
  unfolding uses_at
  face_uses =
      let z : least_ring * k + 0 ≡ least_ring * k = omega arith in
      let a : at (get_or (triangles cs) k []) 0 ≡ position_at_lem cs (least_ring * k) = corner 0 (omega arith) ∙ ap (position_at_lem cs) z in
      let b : at (get_or (triangles cs) k []) 1 ≡ position_at_lem cs (least_ring * k + 1) = corner 1 (omega arith) in
      let c : at (get_or (triangles cs) k []) 2 ≡ position_at_lem cs (least_ring * k + 2) = corner 2 (omega arith) in
      λ i. uses_by (a i) (b i) (c i)

length_triangles : (cs : List ℕ) → length (triangles cs) ≡ triangle_count cs
unfolding triangles
length_triangles cs =
    length_rings (replicate (triangle_count cs) least_ring) cs ∙ length-replicate (triangle_count cs) least_ring

-- the uses, triangle by triangle
pub triangle_uses : (cs : List ℕ) → each uses_of (triangles cs) ≡ each (uses_at cs) (span 0 (triangle_count cs))
triangle_uses cs =
    ap (each uses_of) (sym (map_span [] (triangles cs)))
    ∙ ap (λ (n : ℕ). each uses_of (map (λ k. get_or (triangles cs) k []) (span 0 n))) (length_triangles cs)
    ∙ each_map uses_of (λ k. get_or (triangles cs) k []) (span 0 (triangle_count cs))
    ∙ each_span_cong (λ k. uses_of (get_or (triangles cs) k [])) (uses_at cs) 0 (triangle_count cs)
    (λ k l u. face_uses cs k (let u' : k < 0 + triangle_count cs = u in omega arith))

-- three for each
pub length_uses : (cs : List ℕ) (n : ℕ) → length (each (uses_at cs) (span 0 n)) ≡ least_ring * n
unfolding uses_at
length_uses cs n = from 0 n
  where
    from : (a n : ℕ) → length (each (uses_at cs) (span a n)) ≡ least_ring * n
    from a zero = refl
    from a (suc n) = let e : length (each (uses_at cs) (span (suc a) n)) ≡ least_ring * n = from (suc a) n in omega arith
