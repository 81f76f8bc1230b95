-- A mesh that earns 0: each part of the call is ready, and corners by the maps that the parts leave are those of document 01. Assumes nothing.
use mathlib.Core.Path.{◌≡◌, sym, ap, ◌∙◌}
use mathlib.Core.List.{List, [], map}
use Prim.Native.Nat.{ℕ, ◌+◌, ◌*◌, ◌/◌, ◌≤◌, ◌<◌}
use native.Mathlib.Omega.{arith}
use lib.Dec.{eqb, lit≤}
use lib.ListN.{length, get_or}
use lib.Ieee.{Float}
use borrow.Author.Tests.{eqb-false}
use Rattle.lists.proofs.Bools.{by_cases}
use Rattle.lists.proofs.Mapping.{map_same}
use Rattle.mesh.specs.Limits.{width, entry_limit}
use Rattle.mesh.specs.Mesh.{Mesh, missing, corners_in, corner_at, position_count, texture_count, normal_count}
use Rattle.mesh.proofs.Accepted.{Accepted, Found, accepted}
use Rattle.mesh.proofs.Corners.{length-corners_in, get_or-corners_in}
use Rattle.floating.specs.Scaling.{scaled_list}
use Rattle.together.specs.Merging.{merge_number, merged_to, unless_missing, merged_corner}
use Rattle.together.specs.Working.{Mergeable, Settled, Scalable, sent_corner, Indexed}
use Rattle.together.proofs.Numbers.{Clear, clear, positions_bounded, textures_near, normals_near}

-- an index by a map, and by what the map says
sent_same : (f g : ℕ → ℕ) (n i : ℕ) → ((i ≡ missing → ⊥) → i < n) → ((k : ℕ) → k < n → f k ≡ g k) → unless_missing f i ≡ unless_missing g i
sent_same f g n i h e =
    by_cases (eqb i missing)
    (λ t. rw t)
    (λ t. rw t (e i (h (eqb-false i missing t))))

module _ (m : Mesh) (t : Float) (out : List ℕ) (earns : merge_number m t (length out) ≡ 0) where
  c : Clear m t (length out)
  c = clear m t (length out) earns

  a : Accepted m
  a = accepted m c.mesh

  pub positions_ready : Scalable m.positions t
  positions_ready = record { few = a.limits.positions; even = a.whole.positions; bounded = positions_bounded m t (length out) earns; fit = c.fit }

  pub positions_few : length m.positions / 3 ≤ entry_limit
  positions_few = omega (arith, a.limits.positions)

  pub textures_ready : (to : List ℕ) → length to ≡ entry_limit → Mergeable t 2 (length m.textures / 2) m.textures to
  textures_ready to l = record {
    least = lit≤ tt;
    most = lit≤ tt;
    few = omega (arith, a.limits.textures);
    long = omega (arith, a.whole.textures);
    near = textures_near m t (length out) earns;
    room = omega (arith, a.limits.textures);
  }

  pub normals_ready : (to : List ℕ) → length to ≡ entry_limit → Mergeable t 3 (length m.normals / 3) m.normals to
  normals_ready to l = record {
    least = lit≤ tt;
    most = lit≤ tt;
    few = omega (arith, a.limits.normals);
    long = omega (arith, a.whole.normals);
    near = normals_near m t (length out) earns;
    room = omega (arith, a.limits.normals);
  }

  pub corners_ready : (p u n : List ℕ) → length p ≡ entry_limit → length u ≡ entry_limit → length n ≡ entry_limit → Indexed m.corners p u n out
  corners_ready p u n lp lu ln = record {
    even = a.whole.corners;
    few = a.limits.corners;
    room = c.long;
    positions = λ k h. (let z : get_or m.corners (width * k) 0 < position_count m = (a.corner k h).position in omega (arith, a.limits.positions));
    textures = λ k h e. (let z : get_or m.corners (width * k + 1) 0 < texture_count m = (a.corner k h).texture e in omega (arith, a.limits.textures));
    normals = λ k h e. (let z : get_or m.corners (width * k + 2) 0 < normal_count m = (a.corner k h).normal e in omega (arith, a.limits.normals));
  }

  module _
      (p p₀ u u₀ n n₀ : List ℕ) (sp : Settled (position_count m) (merged_to t 3 (scaled_list m.positions)) p₀ p)
      (su : Settled (texture_count m) (merged_to t 2 m.textures) u₀ u) (sn : Settled (normal_count m) (merged_to t 3 m.normals) n₀ n) where
    corner_same : (k : ℕ) → k < length m.corners / width → sent_corner p u n (corner_at m.corners k) ≡ merged_corner m t (corner_at m.corners k)
    unfolding sent_corner merged_corner
    corner_same k h =
        let f : Found m k = a.corner k h in
        let x = sp.each (get_or m.corners (width * k) 0) f.position in
        let y = sent_same (λ i. get_or u i 0) (merged_to t 2 m.textures) (texture_count m) (get_or m.corners (width * k + 1) 0) f.texture su.each in
        let z = sent_same (λ i. get_or n i 0) (merged_to t 3 m.normals) (normal_count m) (get_or m.corners (width * k + 2) 0) f.normal sn.each in
        rw (x, y, z)

    pub corners_same : map (sent_corner p u n) (corners_in m.corners) ≡ map (merged_corner m t) (corners_in m.corners)
    corners_same =
        map_same (sent_corner p u n) (merged_corner m t) [] (corners_in m.corners)
        (λ k h.
        let l : k < length m.corners / width = (let e : length (corners_in m.corners) ≡ length m.corners / width = length-corners_in
        m.corners in let z : k < length (corners_in m.corners) = h in omega arith) in
        let e : get_or (corners_in m.corners) k [] ≡ corner_at m.corners k = get_or-corners_in m.corners k l in
        ap (sent_corner p u n) e ∙ corner_same k l ∙ ap (merged_corner m t) (sym e))
