-- Smoothing reads positions alone, and moves the marks of old corners; a new corner has none. Assumes nothing.
use mathlib.Core.Path.{◌≡◌, refl, sym, ap, ap₂, ◌∙◌}
use mathlib.Core.Bool.{true, false, cond}
use mathlib.Core.List.{List, [], ◌∷◌, ◌++◌, map, map-append}
use Prim.Native.Nat.{ℕ, ◌-◌}
use native.Mathlib.Omega.{arith}
use lib.ListN.{length, get_or, get_or-map}
use lib.Dec.{eqb}
use lib.Ieee.{Float, binary64, add, sub, mul}
use Rattle.lists.specs.Lists.{only, some, every, each, joined, span}
use Rattle.lists.proofs.Bools.{true_false, and_both, and_left, and_right, or_false_left, or_false_right}
use Rattle.lists.proofs.Alike.{some_map}
use Rattle.lists.proofs.Parts.{every_append}
use Rattle.mesh.specs.Mesh.{Mesh, mesh_of, Ring, position, rings, faces, position_count}
use Rattle.mesh.specs.Table.{outside, misfit, mesh_number}
use Rattle.mesh.proofs.Corners.{is_corner}
use Rattle.mesh.proofs.Faces.{is_ring, rings_are, sizes_back}
use Rattle.mesh.proofs.Numbers.{clear}
use Rattle.mesh.proofs.Accepted.{accepted}
use Rattle.verdicts.specs.Edges.{Edge, same, key}
use Rattle.floating.specs.Near.{nought}
use Rattle.unused.proofs.Columns.{lengths_map}
use Rattle.smoothed.specs.Smoothed.{at, sides, first_uses, edges_by_use, middle, bare, quartered, four, smoothed_faces}
use Rattle.smoothed.specs.Around as around
use Rattle.smoothed.specs.Positions as moving
use Rattle.smoothed.specs.Promise.{smoothed_mesh}
use Rattle.smoothed.specs.Refusals.{positions_of, result_of}
use Rattle.marks.specs.Marks.{remarked, remarked_faces, remarked_mesh, Moved}
use Rattle.marks.proofs.Remarked.{position_kept, faces_remarked, written_remarked}

-- ---- what is read of the faces

module _ (g : ℕ → ℕ) where
  corner_at : (f : Ring) (k : ℕ) → get_or (map (remarked g) f) k [] ≡ remarked g (get_or f k [])
  corner_at f k = get_or-map (remarked g) f k []

  at_kept : (f : Ring) (k : ℕ) → at (map (remarked g) f) k ≡ at f k
  at_kept f k = ap position (corner_at f k) ∙ position_kept g (get_or f k [])

  each_kept : {A : Type 0} (q : Ring → List A) → ((f : Ring) → q (map (remarked g) f) ≡ q f) → (fs : List Ring) → each q (remarked_faces g fs) ≡ each q fs
  each_kept q h [] = refl
  each_kept {A} q h (f ∷ fs) = ap₂ (λ (a b : List A). a ++ b) (h f) (each_kept q h fs)

module _ (g : ℕ → ℕ) (fs : List Ring) where
  edges_kept : edges_by_use (remarked_faces g fs) ≡ edges_by_use fs
  unfolding edges_by_use
  edges_kept = ap first_uses (each_kept g sides (λ f. rw (at_kept g f 0, at_kept g f 1, at_kept g f 2)) fs)

  wings_kept : (k : Edge) → around.wings (remarked_faces g fs) k ≡ around.wings fs k
  unfolding around.wings
  wings_kept k =
      ap (λ (us : List around.Use). map (λ (u : around.Use). u.1) (only (λ (u : around.Use). same k u.0) us))
      (each_kept g around.uses_of (λ f. rw (at_kept g f 0, at_kept g f 1, at_kept g f 2)) fs)

  pub neighbours_kept : (v : ℕ) → around.neighbours (remarked_faces g fs) v ≡ around.neighbours fs v
  unfolding around.neighbours
  neighbours_kept v = ap (λ (ks : List Edge). map (around.across v) (only (around.ends v) ks)) edges_kept

  along_kept : (v : ℕ) → around.along_hem (remarked_faces g fs) v ≡ around.along_hem fs v
  unfolding around.along_hem
  along_kept v = λ i. only (λ w. eqb 1 (length (wings_kept (key (v, w)) i))) (neighbours_kept v i)

  condition_kept : (v : ℕ) → around.condition (remarked_faces g fs) v ≡ around.condition fs v
  unfolding around.condition
  condition_kept v = λ i. around.condition_of (length (neighbours_kept v i)) (along_kept v i)

-- ---- where positions move to

module _ (g : ℕ → ℕ) (fs : List Ring) (ps ones twos : List Float) where
  pull_kept : (a v : ℕ) → moving.pull (remarked_faces g fs) ps a v ≡ moving.pull fs ps a v
  unfolding moving.pull
  pull_kept a v = ap (λ (l : List ℕ). moving.total_from nought (map (moving.from ps a v) l)) (neighbours_kept g fs v)

  moved_by : (c : around.Condition) (a v : ℕ) → moving.moved_by_lem (remarked_faces g fs) ps ones twos c a v ≡ moving.moved_by_lem fs ps ones twos c a v
  moved_by around.Condition.Corner a v = refl
  moved_by (around.Condition.Boundary x y) a v = refl
  moved_by around.Condition.Inner a v = λ i.
      add binary64 (moving.coordinate ps a v) (mul binary64 (pull_kept a v i) (moving.weight twos (length (neighbours_kept g fs v i))))

  moved_kept : (a v : ℕ)
      → moving.moved_by_lem (remarked_faces g fs) ps ones twos (around.condition (remarked_faces g fs) v) a v
      ≡ moving.moved_by_lem fs ps ones twos (around.condition fs v) a v
  moved_kept a v =
      moved_by (around.condition (remarked_faces g fs) v) a v
      ∙ ap (λ (c : around.Condition). moving.moved_by_lem fs ps ones twos c a v) (condition_kept g fs v)

  share_by : (c d : around.Condition) (v w : ℕ) → moving.share (remarked_faces g fs) ps ones twos c d v w ≡ moving.share fs ps ones twos c d v w
  share_by around.Condition.Corner d v w = refl
  share_by (around.Condition.Boundary x y) d v w =
      ap (λ (l : List ℕ). sub binary64 moving.five_eighths (moving.quartered (moving.cosine ones (length l)))) (neighbours_kept g fs v)
  share_by around.Condition.Inner around.Condition.Corner v w = refl
  share_by around.Condition.Inner (around.Condition.Boundary x y) v w =
      ap (λ (l : List ℕ). add binary64 moving.three_eighths (moving.quartered (moving.cosine ones (length l)))) (neighbours_kept g fs w)
  share_by around.Condition.Inner around.Condition.Inner v w = refl

  between_kept : (a : ℕ) (k : Edge) → moving.between (remarked_faces g fs) ps ones twos a k ≡ moving.between fs ps ones twos a k
  between_kept a k =
      let s : moving.share (remarked_faces g fs) ps ones twos (around.condition (remarked_faces g fs) k.0) (around.condition (remarked_faces g fs) k.1) k.0 k.1
      ≡ moving.share fs ps ones twos (around.condition fs k.0) (around.condition fs k.1) k.0 k.1 =
      share_by (around.condition (remarked_faces g fs) k.0) (around.condition (remarked_faces g fs) k.1) k.0 k.1
      ∙ ap₂ (λ (c d : around.Condition). moving.share fs ps ones twos c d k.0 k.1) (condition_kept g fs k.0) (condition_kept g fs k.1) in
      λ i.
      add binary64
      (add binary64
      (add binary64 (moving.coordinate ps a k.0) (mul binary64 (moving.from ps a k.0 k.1) (s i)))
      (moving.eighth (moving.from ps a k.0 (get_or (wings_kept g fs k i) 0 0))))
      (moving.eighth (moving.from ps a k.1 (get_or (wings_kept g fs k i) (length (wings_kept g fs k i) - 1) 0)))

  middle_kept : (a : ℕ) (k : Edge) → moving.middle_of (remarked_faces g fs) ps ones twos a k ≡ moving.middle_of fs ps ones twos a k
  middle_kept a k = λ i.
      cond (eqb 1 (length (wings_kept g fs k i)))
      (add binary64 (moving.coordinate ps a k.0) (moving.halved (moving.from ps a k.0 k.1)))
      (between_kept a k i)

  pub positions_kept : (n : ℕ) → moving.smoothed_positions (remarked_faces g fs) ps ones twos n ≡ moving.smoothed_positions fs ps ones twos n
  unfolding moving.smoothed_positions
  positions_kept n = λ i.
      each (λ v. moving.axes (λ a. moved_kept a v i)) (span 0 n) ++ each (λ k. moving.axes (λ a. middle_kept a k i)) (edges_kept g fs i)

-- ---- the faces

module _ (g : ℕ → ℕ) where
  four_moved : (n : ℕ) (ks : List Edge) (f : Ring) → four n ks (map (remarked g) f) ≡ remarked_faces g (four n ks f)
  four_moved n ks f = λ i.
      quartered (corner_at g f 0 i) (corner_at g f 1 i) (corner_at g f 2 i)
      (bare (middle n ks (at_kept g f 1 i, at_kept g f 2 i)))
      (bare (middle n ks (at_kept g f 2 i, at_kept g f 0 i)))
      (bare (middle n ks (at_kept g f 0 i, at_kept g f 1 i)))

  fours_moved : (n : ℕ) (ks : List Edge) (fs : List Ring) → each (four n ks) (remarked_faces g fs) ≡ remarked_faces g (each (four n ks) fs)
  fours_moved n ks [] = refl
  fours_moved n ks (f ∷ fs) =
      ap₂ (λ (a b : List Ring). a ++ b) (four_moved n ks f) (fours_moved n ks fs)
      ∙ sym (map-append (map (remarked g)) (four n ks f) (each (four n ks) fs))

  pub smoothed_faces_lem : (n : ℕ) (fs : List Ring) → smoothed_faces n (remarked_faces g fs) ≡ remarked_faces g (smoothed_faces n fs)
  unfolding smoothed_faces
  smoothed_faces_lem n fs = ap (λ (ks : List Edge). each (four n ks) (remarked_faces g fs)) (edges_kept g fs) ∙ fours_moved n (edges_by_use fs) fs

-- ---- the mesh

module _ (n : ℕ) (ks : List Edge) where
  -- of a face of three corners or more
  four_rings : (f : Ring) → is_ring f ≡ true → outside (length f) ≡ false → every is_ring (four n ks f) ≡ true
  four_rings [] h o = true_false o
  four_rings (x ∷ []) h o = true_false o
  four_rings (x ∷ y ∷ []) h o = true_false o
  four_rings (x ∷ y ∷ z ∷ r) h o =
      let hy = and_right (is_corner x) (is_ring (y ∷ z ∷ r)) h in
      let hz = and_right (is_corner y) (is_ring (z ∷ r)) hy in
      rw (and_left (is_corner x) (is_ring (y ∷ z ∷ r)) h, and_left (is_corner y) (is_ring (z ∷ r)) hy, and_left (is_corner z) (is_ring r) hz)

  fours_rings : (fs : List Ring) → every is_ring fs ≡ true → some (λ f. outside (length f)) fs ≡ false → every is_ring (each (four n ks) fs) ≡ true
  fours_rings [] h o = refl
  fours_rings (f ∷ fs) h o =
      let a = four_rings f (and_left (is_ring f) (every is_ring fs) h) (or_false_left (outside (length f)) (some (λ f. outside (length f)) fs) o) in
      let b = fours_rings fs (and_right (is_ring f) (every is_ring fs) h) (or_false_right (outside (length f)) (some (λ f. outside (length f)) fs) o) in
      every_append is_ring (four n ks f) (each (four n ks) fs) ∙ and_both (every is_ring (four n ks f)) (every is_ring (each (four n ks) fs)) a b

smoothed_rings : (m : Mesh) → mesh_number m ≡ 0 → every is_ring (smoothed_faces (position_count m) (faces m)) ≡ true
unfolding smoothed_faces faces misfit
smoothed_rings m h =
    let s : map length (rings m.sizes m.corners) ≡ m.sizes = sizes_back m.sizes m.corners (omega (arith, (accepted m h).sound.adds)) in
    fours_rings (position_count m) (edges_by_use (rings m.sizes m.corners)) (rings m.sizes m.corners) (rings_are m.sizes m.corners)
    (sym (some_map outside length (rings m.sizes m.corners)) ∙ ap (some outside) s ∙ (clear m h).shaped.fit)

module _ (g : ℕ → ℕ) (m : Mesh) where
  pub faces_moved : smoothed_faces (position_count (remarked_mesh g m)) (faces (remarked_mesh g m)) ≡ remarked_faces g (smoothed_faces (position_count m) (faces m))
  unfolding remarked_mesh
  faces_moved = ap (smoothed_faces (position_count m)) (faces_remarked g m) ∙ smoothed_faces_lem g (position_count m) (faces m)

  pub points_kept : (ones twos : List Float) → positions_of (remarked_mesh g m) ones twos ≡ positions_of m ones twos
  unfolding remarked_mesh
  points_kept ones twos =
      ap (λ (fs : List Ring). moving.smoothed_positions fs m.positions ones twos (position_count m)) (faces_remarked g m)
      ∙ positions_kept g (faces m) m.positions ones twos (position_count m)

  pub lengths_moved : map length (smoothed_faces (position_count (remarked_mesh g m)) (faces (remarked_mesh g m))) ≡ map length (smoothed_faces (position_count m) (faces m))
  lengths_moved = ap (map length) faces_moved ∙ lengths_map (remarked g) (smoothed_faces (position_count m) (faces m))

pub smoothing_moves : (ones twos : List Float) → Moved (λ m. result_of m ones twos)
unfolding smoothed_mesh remarked_mesh
smoothing_moves ones twos g m h =
    let c : each joined (smoothed_faces (position_count m) (faces (remarked_mesh g m))) ≡ remarked g (each joined (smoothed_faces (position_count m) (faces m))) =
    ap (each joined) (faces_moved g m) ∙ sym (written_remarked g (smoothed_faces (position_count m) (faces m)) (smoothed_rings m h)) in
    λ i. mesh_of (points_kept g m ones twos i) m.textures m.normals (c i) (lengths_moved g m i)
