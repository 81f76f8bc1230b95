-- Smoothing of a whole mesh: the result is accepted, its faces are the smoothed faces, and what is proved of these holds of it.
-- Assumes nothing.
use mathlib.Core.Path.{◌≡◌, refl, sym, ap, ◌∙◌, subst}
use mathlib.Core.Bool.{Bool, true, false, ◌&&◌, ◌||◌}
use mathlib.Core.List.{List, [], ◌∷◌, map, append-nil}
use Prim.Native.Nat.{ℕ, ◌+◌, ◌*◌, ◌/◌, ◌≤◌, ◌<◌}
use native.Mathlib.Nat.{le_of_eq}
use native.Mathlib.Omega.{arith}
use lib.ListN.{length}
use lib.Dec.{leb, ltb, eqb}
use lib.Ieee.{Float}
use borrow.Author.Tests.{leb-false, lt-leb, lt-ltb, eqb-true}
use Rattle.lists.specs.Lists.{some, every, joined, each}
use Rattle.lists.proofs.Bools.{and_both, and_left, and_right, or_neither, or_false_left, or_false_right}
use Rattle.lists.proofs.Mapping.{every_map}
use Rattle.lists.proofs.Parts.{some_joined}
use Rattle.mesh.specs.Limits.{ring_limit}
use Rattle.mesh.specs.Mesh.{Mesh, mesh_of, Corner, Ring, position, texture, normal, mark, missing, corners_in, faces, position_count, texture_count, normal_count}
use Rattle.mesh.specs.Table.{mesh_number, beyond_unless_missing, astray_by, astray_at, astray}
use Rattle.mesh.proofs.Corners.{is_corner}
use Rattle.mesh.proofs.Faces.{is_ring, rings_are, rings_back, sizes_back, corners_back, length_rings}
use Rattle.mesh.proofs.Numbers.{clear}
use Rattle.mesh.proofs.Accepted.{Accepted, accepted}
use Rattle.grouping.specs.Push.{is_triangle, pushed, corner_count}
use Rattle.grouping.proofs.Pushed.{pushed_behind}
use Rattle.grouping.proofs.Accepting.{corners_in-flat, sized, Orderly, accepted_faces}
use Rattle.verdicts.specs.Edges.{Edge, edges_of, verdict}
use Rattle.folding.specs.Folding.{folded}
use Rattle.smoothed.specs.Smoothed.{bare, middle, four, edges_by_use, smoothed_faces, smoothed_count, Smoothable, repeated}
use Rattle.smoothed.specs.Promise.{most_faces, smoothed_mesh, Given, Fitting, Promised}
use Rattle.smoothed.proofs.All.{All, all_map, all_both, all_every, all_fail, every_back, none_each, every_each}
use Rattle.smoothed.proofs.Places.{middle_below}
use Rattle.smoothed.proofs.Proper.{Proper, proper, all_proper}
use Rattle.smoothed.proofs.Kept.{smoothed_verdict}
use Rattle.smoothed.proofs.Again.{smoothed_again}
use Rattle.smoothed.proofs.Used.{smoothed_used}
use Rattle.smoothed.proofs.Twins.{smoothed_unlike}
use Rattle.smoothed.proofs.Limits.{smoothed_fits}
use Rattle.smoothed.proofs.Afterwards.{smoothed_marks}

-- ---- corners

-- more positions: what did not stray does not
still_found : (n m t k a b c : ℕ) → n ≤ m → astray_by n t k a b c ≡ false → astray_by m t k a b c ≡ false
still_found n m t k a b c l h =
    let x = leb n a in
    let y = beyond_unless_missing t b in
    let z = beyond_unless_missing k c in
    let g : (x || y) ≡ false = or_false_left (x || y) z h in
    let d : a < n = leb-false n a (or_false_left x y g) in
    or_neither (leb m a || y) z (or_neither (leb m a) y (lt-leb m a (omega arith)) (or_false_right x y g)) (or_false_right (x || y) z h)

-- an inner corner strays nowhere but by its position
bare_found : (m t k e : ℕ) → e < m → astray_by m t k e missing missing ≡ false
bare_found m t k e l = rw (lt-leb m e l)

twelve_not :
    (x y z i j k : Bool) → x ≡ false → y ≡ false → z ≡ false → i ≡ false → j ≡ false → k ≡ false
    → ((x || (k || (j || false))) || ((i || (z || (j || false))) || ((i || (k || (y || false))) || ((i || (j || (k || false))) || false))))
    ≡ false
twelve_not x y z i j k p q r s t u = rw (p, q, r, s, t, u)

module _ (n : ℕ) (ks : List Edge) where
  -- a test that the corners of a face do not pass, nor bare corners below n + length ks
  four_not :
      (p : Corner → Bool) → ((e : ℕ) → e < n + length ks → p (bare e) ≡ false) → (f : Ring) → Proper n ks f → some p f ≡ false
      → some (some p) (four n ks f) ≡ false
  four_not p b _ (proper {x = x} {y = y} {z = z} t) h =
      let hy : (p y || (p z || false)) ≡ false = or_false_right (p x) (p y || (p z || false)) h in
      twelve_not (p x) (p y) (p z)
      (p (bare (middle n ks (position y, position z))))
      (p (bare (middle n ks (position z, position x))))
      (p (bare (middle n ks (position x, position y))))
      (or_false_left (p x) (p y || (p z || false)) h)
      (or_false_left (p y) (p z || false) hy)
      (or_false_left (p z) false (or_false_right (p y) (p z || false) hy))
      (b (middle n ks (position y, position z)) (middle_below n ks (position y, position z) t.bc.known))
      (b (middle n ks (position z, position x)) (middle_below n ks (position z, position x) t.ca.known))
      (b (middle n ks (position x, position y)) (middle_below n ks (position x, position y) t.ab.known))

-- ---- the mesh

module _ (m : Mesh) (g : Given m) where
  a : Accepted m
  a = accepted m g.accepted

  abbrev n : ℕ
  n = position_count m

  sizes_are : map length (faces m) ≡ m.sizes
  unfolding faces
  sizes_are = sizes_back m.sizes m.corners (le_of_eq a.sound.adds)

  corners_are : each joined (faces m) ≡ m.corners
  unfolding faces
  corners_are = corners_back m.sizes m.corners a.sound.adds

  rings_faces : every is_ring (faces m) ≡ true
  unfolding faces
  rings_faces = rings_are m.sizes m.corners

  none_stray : All (λ f. some (astray_at m) f ≡ false) (faces m)
  unfolding astray
  none_stray =
      all_fail (some (astray_at m)) (faces m)
      (sym (some_joined (astray_at m) (faces m))
      ∙ ap (some (astray_at m)) (sym (corners_in-flat (faces m) rings_faces) ∙ ap corners_in corners_are)
      ∙ (clear m g.accepted).found)

  inside : (f : Ring) → some (astray_at m) f ≡ false → every (λ c. ltb (position c) n) f ≡ true
  inside [] h = refl
  inside (c ∷ f) h =
      let x = leb n (position c) in
      let y = beyond_unless_missing (texture_count m) (texture c) in
      let z = beyond_unless_missing (normal_count m) (normal c) in
      and_both (ltb (position c) n) (every (λ d. ltb (position d) n) f)
      (lt-ltb (position c) n
      (leb-false n (position c) (or_false_left x y (or_false_left (x || y) z (or_false_left (astray_at m c) (some (astray_at m) f) h)))))
      (inside f (or_false_right (astray_at m c) (some (astray_at m) f) h))

  pub mesh_smoothable : Smoothable n (faces m)
  mesh_smoothable = record {
    triangles = sym (every_map length (λ k. eqb k 3) (faces m)) ∙ ap (every (λ k. eqb k 3)) sizes_are ∙ g.triangles;
    unfolded = g.unfolded;
    within = every_back (λ f. every (λ c. ltb (position c) n) f) (all_map inside none_stray);
  }

-- ---- the smoothed faces

some_still : (p q : Corner → Bool) → ((c : Corner) → p c ≡ false → q c ≡ false) → (f : Ring) → some p f ≡ false → some q f ≡ false
some_still p q s [] h = refl
some_still p q s (c ∷ f) h =
    or_neither (q c) (some q f) (s c (or_false_left (p c) (some p f) h)) (some_still p q s f (or_false_right (p c) (some p f) h))

twelve_are :
    (x y z : Bool) → x ≡ true → y ≡ true → z ≡ true
    → ((x && (true && (true && true)))
    && ((true && (z && (true && true))) && ((true && (true && (y && true))) && ((true && (true && (true && true))) && true))))
    ≡ true
twelve_are x y z p q r = rw (p, q, r)

four_rings : (n : ℕ) (ks : List Edge) (f : Ring) → Proper n ks f → is_ring f ≡ true → every is_ring (four n ks f) ≡ true
four_rings n ks _ (proper {x = x} {y = y} {z = z} t) h =
    let hy : (is_corner y && (is_corner z && true)) ≡ true = and_right (is_corner x) (is_corner y && (is_corner z && true)) h in
    twelve_are (is_corner x) (is_corner y) (is_corner z)
    (and_left (is_corner x) (is_corner y && (is_corner z && true)) h)
    (and_left (is_corner y) (is_corner z && true) hy)
    (and_left (is_corner z) true (and_right (is_corner y) (is_corner z && true) hy))

-- triangles are grouped as they stand, have three corners each, and are of the right size
triangles_pushed : (fs : List Ring) → every is_triangle fs ≡ true → pushed fs ≡ fs
unfolding pushed
triangles_pushed fs h = ap pushed (sym (append-nil fs)) ∙ pushed_behind fs [] h ∙ append-nil fs

triangles_count : (fs : List Ring) → every is_triangle fs ≡ true → corner_count fs ≡ 3 * length fs
triangles_count [] h = refl
triangles_count (f ∷ fs) h =
    let e : length f ≡ 3 = eqb-true (length f) 3 (and_left (is_triangle f) (every is_triangle fs) h) in
    let r : corner_count fs ≡ 3 * length fs = triangles_count fs (and_right (is_triangle f) (every is_triangle fs) h) in
    omega arith

triangles_sized : (fs : List Ring) → every is_triangle fs ≡ true → every sized fs ≡ true
triangles_sized fs h =
    every_back sized
    (all_map (λ f e. ap (λ (l : ℕ). leb 3 l && leb l ring_limit) (eqb-true (length f) 3 e)) (all_every is_triangle fs h))

module _ (m : Mesh) (g : Given m) (ps : List Float) (e : Fitting m ps) where
  abbrev before : List Ring
  before = faces m

  abbrev behind : List Ring
  behind = smoothed_faces (position_count m) (faces m)

  s : Smoothable (position_count m) before
  s = mesh_smoothable m g

  again : Smoothable (smoothed_count (position_count m) before) behind
  again = smoothed_again (position_count m) before s

  face_count : length before ≤ most_faces
  unfolding faces
  face_count = omega (arith, length_rings m.sizes m.corners, g.few)

  fits : (length behind ≤ 1364) × (smoothed_count (position_count m) before ≤ 2046)
  fits = smoothed_fits (position_count m) before s g.used face_count

  rings_behind : every is_ring behind ≡ true
  unfolding smoothed_faces
  rings_behind =
      every_each (four (position_count m) (edges_by_use before)) is_ring
      (all_map (λ f h. four_rings (position_count m) (edges_by_use before) f h.0 h.1)
      (all_both (all_proper (position_count m) before s) (all_every is_ring before (rings_faces m g))))

  count_is : length ps / 3 ≡ smoothed_count (position_count m) before
  count_is = omega (arith, e)

  -- whether a corner strays in the result
  abbrev strays : Corner → Bool
  strays c = astray_by (length ps / 3) (texture_count m) (normal_count m) (position c) (texture c) (normal c)

  none_strays : some strays (joined behind) ≡ false
  unfolding smoothed_faces
  none_strays =
      some_joined strays (each (four (position_count m) (edges_by_use before)) before)
      ∙ none_each (four (position_count m) (edges_by_use before)) (some strays)
      (all_map
      (λ f h.
      four_not (position_count m) (edges_by_use before) strays
      (λ i l. bare_found (length ps / 3) (texture_count m) (normal_count m) i (omega (arith, count_is)))
      f h.0
      (some_still (astray_at m) strays
      (λ c.
      still_found (position_count m) (length ps / 3) (texture_count m) (normal_count m) (position c) (texture c) (normal c) (omega (arith, count_is)))
      f h.1))
      (all_both (all_proper (position_count m) before s) (none_stray m g)))

  orderly : Orderly ps m.textures m.normals behind
  orderly = record {
    few_positions = omega (arith, e, fits.1);
    few_textures = (a m g).limits.textures;
    few_normals = (a m g).limits.normals;
    whole_positions = omega (arith, e);
    whole_textures = (a m g).whole.textures;
    whole_normals = (a m g).whole.normals;
    few_corners = omega (arith, triangles_count behind again.triangles, fits.0);
    are_rings = rings_behind;
    are_sized = triangles_sized behind again.triangles;
  }

  result_accepted : mesh_number (smoothed_mesh m ps) ≡ 0
  unfolding smoothed_mesh
  result_accepted =
      subst
      (λ (fs : List Ring). mesh_number (mesh_of ps m.textures m.normals (each joined fs) (map length fs)) ≡ 0)
      (triangles_pushed behind again.triangles)
      (accepted_faces ps m.textures m.normals behind orderly none_strays)

  result_faces : faces (smoothed_mesh m ps) ≡ behind
  unfolding smoothed_mesh faces
  result_faces = rings_back behind rings_behind

  result_count : position_count (smoothed_mesh m ps) ≡ smoothed_count (position_count m) before
  unfolding smoothed_mesh
  result_count = count_is

  pub smoothed_mesh_lem : Promised m ps
  smoothed_mesh_lem = record {
    accepted = result_accepted;
    is = result_faces;
    marks = ap (map (map mark)) result_faces ∙ smoothed_marks (position_count m) before;
    unfolded = ap (some folded) result_faces ∙ again.unfolded;
    used = rw (result_faces, result_count) (smoothed_used (position_count m) before s g.used);
    same_verdict = λ r.
        ap (λ (fs : List Ring). verdict (edges_of fs)) result_faces ∙ smoothed_verdict (position_count m) before s r;
    unlike = λ r. ap repeated result_faces ∙ smoothed_unlike (position_count m) before s r;
  }
