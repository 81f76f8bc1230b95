-- The turns of the walk as the code has them: its frames are one list, and 'near and not taken' is what is asked. Assumes nothing.
use mathlib.Core.Path.{◌≡◌, refl, ap, ◌∙◌}
use mathlib.Core.Bool.{Bool, true, false}
use mathlib.Core.List.{List}
use Prim.Native.Nat.{ℕ, ◌+◌, ◌-◌, ◌≤◌, ◌<◌}
use native.Mathlib.Omega.{arith}
use lib.ListN.{length, get_or, set, take, length-map, get_or-map}
use lib.Seq.{map-set_same}
use Rattle.std.proofs.lemmas.List.{map-set}
use Rattle.nearby.specs.Engine.{fresh, Next}
use Rattle.nearby.specs.Frames.{Starts}
use Rattle.nearby.specs.declared.Frame.{Frame}
use Rattle.nearby.proofs.Flags.{room}
use Rattle.nearby.proofs.Fresh.{fresh_near, fresh_new, fresh_not}
use Rattle.nearby.proofs.Frames.{Good, work, nodes_of, lefts_of}
use Rattle.nearby.proofs.FirstFrame.{started}
use Rattle.nearby.proofs.Depth.{depth_in, node_in, left_in, frame_goes, frame_goes_less, next_small, room_left, depth_under, frame_comes, frame_comes_less}

abbrev frame : ℕ → ℕ → Frame
frame i l = record { node = i; left = l }

-- ---- the first frame

module _
    {n : ℕ} {order : List ℕ} {seen : List Bool} {frames : List Frame} {start done : ℕ} (s : Starts n order seen frames start done) where
  pub first_in : done < n
  first_in = room n order seen done start s.taken s.inside s.new

  pub begins : (r : ℕ → ℕ → Bool) → Good r n (take done order) start (set order done start) (set seen start true) (nodes_of (set frames 0 (frame start n))) (lefts_of (set frames 0 (frame start n))) (done + 1) 1
  begins r =
      rw (map-set (λ (f : Frame). f.node) frames 0 (frame start n), map-set (λ (f : Frame). f.left) frames 0 (frame start n))
      (started r n order seen (nodes_of frames) (lefts_of frames) done start s.taken
      (omega (arith, s.frame_room, length-map frames (λ (f : Frame). f.node)))
      (omega (arith, s.frame_room, length-map frames (λ (f : Frame). f.left))) s.inside s.new s.lowest)

-- ---- a turn at the top frame

abbrev top : List Frame → ℕ → Frame
top frames depth = get_or frames (depth - 1) (frame 0 0)

-- the frames with that of j on top
abbrev more : List Frame → ℕ → ℕ → ℕ → List Frame
more frames depth j n = set (set frames (depth - 1) (frame (top frames depth).node j)) depth (frame j n)

module _
    (frames : List Frame) {r : ℕ → ℕ → Bool} {n : ℕ} {before : List ℕ} {start : ℕ} {order : List ℕ} {seen : List Bool} {taken depth : ℕ}
    (g : Good r n before start order seen (nodes_of frames) (lefts_of frames) taken depth) (some : 0 < depth) where
  top_node : get_or (nodes_of frames) (depth - 1) 0 ≡ (top frames depth).node
  top_node = get_or-map (λ (f : Frame). f.node) frames (depth - 1) (frame 0 0)

  top_left : get_or (lefts_of frames) (depth - 1) 0 ≡ (top frames depth).left
  top_left = get_or-map (λ (f : Frame). f.left) frames (depth - 1) (frame 0 0)

  -- it stands in the list
  pub top_in : (depth ≤ n) × (depth - 1 < length frames)
  top_in = let a = depth_in g some in (a, omega (arith, g.node_room, length-map frames (λ (f : Frame). f.node)))

  -- what may be asked for it
  pub asks : ((top frames depth).node < n) × ((top frames depth).left ≤ n) × (n ≤ length seen)
  asks = (rw top_node at (node_in g some), rw top_left at (left_in g some), g.held.seen_room)

  module _ {next : ℕ} (q : Next (fresh r seen (top frames depth).node) start (top frames depth).left next) where
    q' : Next (fresh r seen (get_or (nodes_of frames) (depth - 1) 0)) start (get_or (lefts_of frames) (depth - 1) 0) next
    q' = rw (top_node, top_left) q

    old : (k : ℕ) → fresh r seen (get_or (nodes_of frames) (depth - 1) 0) k ≡ false → r (get_or (nodes_of frames) (depth - 1) 0) k ≡ true → get_or seen k false ≡ true
    old k = fresh_not r seen (get_or (nodes_of frames) (depth - 1) 0) k

    pub goes : next ≡ 0 → Good r n before start order seen (nodes_of frames) (lefts_of frames) taken (depth - 1)
    goes = frame_goes g some (fresh r seen (get_or (nodes_of frames) (depth - 1) 0)) next q' old

    pub goes_less : work n (lefts_of frames) taken (depth - 1) < work n (lefts_of frames) taken depth
    goes_less = frame_goes_less g some (fresh r seen (get_or (nodes_of frames) (depth - 1) 0)) next q' old

  module _ (j : ℕ) (q : Next (fresh r seen (top frames depth).node) start (top frames depth).left (j + 1)) where
    some_next : j + 1 ≡ 0 → ⊥
    some_next e = omega arith

    here : fresh r seen (get_or (nodes_of frames) (depth - 1) 0) (j + 1 - 1) ≡ true
    here = ((q' q).here (omega arith)).2

    close : r (get_or (nodes_of frames) (depth - 1) 0) (j + 1 - 1) ≡ true
    close = fresh_near r seen (get_or (nodes_of frames) (depth - 1) 0) (j + 1 - 1) here

    new : get_or seen (j + 1 - 1) false ≡ false
    new = fresh_new r seen (get_or (nodes_of frames) (depth - 1) 0) (j + 1 - 1) here

    back : j + 1 - 1 ≡ j
    back = omega arith

    pub point_in : j < n
    point_in = rw back at (next_small g some (fresh r seen (get_or (nodes_of frames) (depth - 1) 0)) (j + 1) (q' q) (old q) some_next close new)

    pub place_in : taken < n
    place_in = room_left g some (fresh r seen (get_or (nodes_of frames) (depth - 1) 0)) (j + 1) (q' q) (old q) some_next close new

    pub frame_in : depth < length frames
    frame_in = omega (arith, depth_under g some (fresh r seen (get_or (nodes_of frames) (depth - 1) 0)) (j + 1) (q' q) (old q) some_next close new, g.node_room, length-map frames (λ (f : Frame). f.node))

    nodes_more : nodes_of (more frames depth j n) ≡ set (nodes_of frames) depth j
    nodes_more =
        map-set (λ (f : Frame). f.node) (set frames (depth - 1) (frame (top frames depth).node j)) depth (frame j n)
        ∙ ap (λ (l : List ℕ). set l depth j) (map-set_same (λ (f : Frame). f.node) frames (depth - 1) (frame (top frames depth).node j) (frame 0 0) refl)

    lefts_more : lefts_of (more frames depth j n) ≡ set (set (lefts_of frames) (depth - 1) j) depth n
    lefts_more =
        map-set (λ (f : Frame). f.left) (set frames (depth - 1) (frame (top frames depth).node j)) depth (frame j n)
        ∙ ap (λ (l : List ℕ). set l depth n) (map-set (λ (f : Frame). f.left) frames (depth - 1) (frame (top frames depth).node j))

    pub comes : Good r n before start (set order taken j) (set seen j true) (nodes_of (more frames depth j n)) (lefts_of (more frames depth j n)) (taken + 1) (depth + 1)
    comes = rw (nodes_more, lefts_more) (rw back at (frame_comes g some (fresh r seen (get_or (nodes_of frames) (depth - 1) 0)) (j + 1) (q' q) (old q) some_next close new))

    pub comes_less : work n (lefts_of (more frames depth j n)) (taken + 1) (depth + 1) < work n (lefts_of frames) taken depth
    comes_less = rw lefts_more (rw back at (frame_comes_less g some (fresh r seen (get_or (nodes_of frames) (depth - 1) 0)) (j + 1) (q' q) (old q) some_next close new))
