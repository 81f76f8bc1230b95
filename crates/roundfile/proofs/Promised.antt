-- What is promised of a rounded file: smoothing was done, so all that it promises holds; the file fits the buffer and is read again; and lists
-- at the full limits are room enough. Assumes nothing.
use mathlib.Core.Path.{◌≡◌, ◌∙◌, refl, sym, ap}
use mathlib.Core.Bool.{true, false, not, ◌||◌}
use mathlib.Core.List.{List, [], ◌∷◌}
use Prim.Native.Nat.{ℕ, zero, suc, ◌+◌, ◌*◌, ◌/◌, ◌≤◌}
use native.Mathlib.Omega.{arith}
use lib.ListN.{length}
use lib.Dec.{ltb, eqb}
use lib.Ieee.{Float}
use borrow.Author.Tests.{ltb-false, le-ltb, eqb-true, not-false}
use Rattle.lists.specs.Lists.{every, sum}
use Rattle.lists.proofs.Bools.{or_false_left, and_left, and_right}
use Rattle.mesh.specs.Limits.{point_width, width, largest, least_ring}
use Rattle.mesh.specs.Mesh.{Mesh, faces, position_count}
use Rattle.mesh.specs.Table.{when, short}
use Rattle.mesh.proofs.Accepted.{accepted}
use Rattle.mesh.proofs.After.{after_length}
use Rattle.mesh.proofs.Faces.{length_rings}
use Rattle.mesh.proofs.Numbers.{first_head, first_tail, when_not}
use Rattle.little.specs.Little.{Bytes}
use Rattle.reading.specs.Reading.{reading_number, panel_mesh}
use Rattle.written.specs.Pieces.{finite_mesh, file_length, file_limit}
use Rattle.written.proofs.Parting.{file_fits}
use Rattle.cleaning.specs.Cleaning.{cleaned}
use Rattle.written.specs.Promises.{DoubleMesh}
use Rattle.written.specs.Said.{is_double}
use Rattle.written.proofs.Saying.{doubles}
use Rattle.written.proofs.Reading.{doubles_are, read_doubles}
use Rattle.written.proofs.Reopened.{reopens}
use Rattle.opening.proofs.Reading.{panel_accepted, opened_accepted}
use Rattle.opening.proofs.Kept.{Passes, cleaned_passes}
use Rattle.opening.proofs.Marks.{MarksUpTo, cleaned_marks}
use Rattle.smoothed.specs.Smoothed.{fold}
use Rattle.smoothed.specs.Promise.{smoothed_mesh, Given}
use Rattle.smoothed.specs.Refusals.{positions_of, result_of, smoothing_number, too_short}
use Rattle.smoothed.proofs.Limits.{positions_few}
use Rattle.smoothed.proofs.Meshwise.{mesh_smoothable}
use Rattle.smoothed.proofs.Refusals.{zero_promised}
use Rattle.roundfile.specs.declared.Rounded.{Rounded}
use Rattle.roundfile.specs.Rounding.{mesh_rounded, round_file, full_lists, smoothed_number, opened_number, rounding_number, PanelRounded}
use Rattle.roundfile.specs.Promises.{LeftIsRounded, RoundedFits, RoundedReopens, FullListsAreRoom}
use Rattle.roundfile.proofs.Doubles.{positions_double}
use Rattle.roundfile.proofs.Marks.{smoothed_marks}
use Rattle.roundfile.proofs.Smooth.{positions_full, corners_full, sizes_full}

-- ---- smoothing was done

left_smoothed : (file : List ℕ) (ones twos : List Float) → opened_number file ones twos ≡ 0 → smoothing_number (cleaned (panel_mesh file)) ones twos full_lists ≡ 0
unfolding opened_number smoothed_number
left_smoothed file ones twos h =
    let m = cleaned (panel_mesh file) in
    let rows = when (not (finite_mesh (result_of m ones twos))) 14 ∷ [] in
    let s : smoothed_number m ones twos ≡ 0 = first_head (smoothed_number m ones twos) [] (first_tail (reading_number [] file) (smoothed_number m ones twos ∷ []) h) in
    first_head (smoothing_number m ones twos full_lists) rows s

pub left_rounded : LeftIsRounded
left_rounded file ones twos h = zero_promised (cleaned (panel_mesh file)) ones twos full_lists (left_smoothed file ones twos h)

-- ---- the buffer is long enough

-- a call that answers 0 has room for every file, and the file is not refused
done_room :
    (file : List ℕ) (ones twos : List Float) (room : ℕ) → rounding_number room file ones twos ≡ 0
    → (file_limit ≤ room) × (opened_number file ones twos ≡ 0)
unfolding rounding_number short
done_room file ones twos room h =
    let e = ltb room file_limit in
    let long = when (ltb file_limit (length file)) 1 in
    let rest = opened_number file ones twos ∷ [] in
    let s : (e || false) ≡ false = when_not (e || false) 8 (first_head (when (e || false) 9) (long ∷ rest) h) in
    let t = first_tail long rest (first_tail (when (e || false) 9) (long ∷ rest) h) in
    (ltb-false room file_limit (or_false_left e false s), first_head (opened_number file ones twos) [] t)

pub rounded_fits : RoundedFits
rounded_fits file ones twos before afterwards answer c = go answer.number refl
  where
    go : (n : ℕ) → answer.number ≡ n → answer.length ≤ length before
    go zero e =
        let m = mesh_rounded file ones twos in
        let r = done_room file ones twos (length before) (sym c.number ∙ e) in
        let l : answer.length ≡ file_length m = rw e at c.byte_count in
        omega (arith, r.0, l, file_fits m (left_rounded file ones twos r.1).accepted)
    go (suc n) e = let l : answer.length ≡ 0 = rw e at c.byte_count in omega arith

-- so it is the front of what the call left there
pub rounded_front :
    (file : List ℕ) (ones twos : List Float) (before afterwards : List ℕ) (answer : Rounded)
    → PanelRounded file ones twos before afterwards answer → answer.length ≤ length afterwards
rounded_front file ones twos before afterwards answer c =
    let same : length afterwards ≡ length before = ap length c.bytes ∙ after_length answer.number before (round_file file ones twos) in
    omega (arith, rounded_fits file ones twos before afterwards answer c)

-- ---- it is read again

left_finite : (file : List ℕ) (ones twos : List Float) → opened_number file ones twos ≡ 0 → finite_mesh (mesh_rounded file ones twos) ≡ true
unfolding opened_number smoothed_number
left_finite file ones twos h =
    let m = cleaned (panel_mesh file) in
    let f = finite_mesh (mesh_rounded file ones twos) in
    let s = first_tail (reading_number [] file) (smoothed_number m ones twos ∷ []) h in
    let t = first_tail (smoothing_number m ones twos full_lists) (when (not f) 14 ∷ []) (first_head (smoothed_number m ones twos) [] s) in
    not-false f (when_not (not f) 13 (first_head (when (not f) 14) [] t))

left_read : (file : List ℕ) (ones twos : List Float) → opened_number file ones twos ≡ 0 → reading_number [] file ≡ 0
unfolding opened_number
left_read file ones twos h = first_head (reading_number [] file) (smoothed_number (cleaned (panel_mesh file)) ones twos ∷ []) h

left_marks : (file : List ℕ) (ones twos : List Float) → Bytes file → opened_number file ones twos ≡ 0 → MarksUpTo largest (mesh_rounded file ones twos).corners
left_marks file ones twos b h =
    let m = panel_mesh file in
    let z = left_read file ones twos h in
    smoothed_marks largest (cleaned m) (positions_of (cleaned m) ones twos) (opened_accepted file z) (left_rounded file ones twos h)
    (cleaned_marks largest m (panel_accepted file z) (read_doubles file b).marks)

left_double : (file : List ℕ) (ones twos : List Float) → Bytes file → opened_number file ones twos ≡ 0 → DoubleMesh (mesh_rounded file ones twos)
unfolding smoothed_mesh
left_double file ones twos b h =
    let m = panel_mesh file in
    let d = read_doubles file b in
    let k : Passes is_double (cleaned m) =
    cleaned_passes is_double m
    (record {
      positions = doubles m.positions d.positions;
      textures = doubles m.textures d.textures;
      normals = doubles m.normals d.normals;
    }) in
    let l = cleaned m in
    record {
      positions = doubles_are (positions_of l ones twos) (positions_double (faces l) l.positions ones twos k.positions (position_count l));
      textures = doubles_are l.textures k.textures;
      normals = doubles_are l.normals k.normals;
      marks = left_marks file ones twos b h;
    }

pub rounded_reopens : RoundedReopens
rounded_reopens file ones twos b h =
    reopens (mesh_rounded file ones twos) (left_rounded file ones twos h).accepted (left_double file ones twos b h) (left_finite file ones twos h)

-- ---- lists at the full limits are room enough

-- triangles alone: three corners for each
sum_threes : (s : List ℕ) → every (λ k. eqb k least_ring) s ≡ true → sum s ≡ least_ring * length s
sum_threes [] h = refl
sum_threes (n ∷ s) h =
    let e : n ≡ least_ring = eqb-true n least_ring (and_left (eqb n least_ring) (every (λ k. eqb k least_ring) s) h) in
    let r : sum s ≡ least_ring * length s = sum_threes s (and_right (eqb n least_ring) (every (λ k. eqb k least_ring) s) h) in
    omega arith

module _ (m : Mesh) (g : Given m) where
  corners_long : length m.corners ≡ width * least_ring * length m.sizes
  corners_long = omega (arith, (accepted m g.accepted).sound.adds, sum_threes m.sizes g.triangles)

  positions_few_here : position_count m ≤ least_ring * length m.sizes
  unfolding faces
  positions_few_here =
      omega (arith, positions_few (position_count m) (faces m) (mesh_smoothable m g) g.used, length_rings m.sizes m.corners)

  room_positions : point_width * (position_count m + length m.corners / width) ≤ length full_lists.positions
  room_positions =
      let c : length m.corners / width ≡ least_ring * length m.sizes = omega (arith, corners_long) in
      omega (arith, positions_few_here, c, g.few, positions_full)

  room_corners : fold * length m.corners ≤ length full_lists.corners
  room_corners = omega (arith, corners_long, g.few, corners_full)

  room_sizes : fold * length m.sizes ≤ length full_lists.sizes
  room_sizes = omega (arith, g.few, sizes_full)

pub full_lists_are_room : FullListsAreRoom
unfolding too_short short
full_lists_are_room m g = rw (le-ltb _ _ (room_positions m g), le-ltb _ _ (room_corners m g), le-ltb _ _ (room_sizes m g))
