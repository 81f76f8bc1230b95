-- Each call's number reads no mark: its rows go by the mesh's own number, by lengths, by attribute lists and by what goes by positions.
-- Assumes nothing.
use mathlib.Core.Path.{◌≡◌, refl, sym, ap, ap₂, ◌∙◌, fun_ext}
use mathlib.Core.Bool.{Bool, not, ◌||◌}
use mathlib.Core.List.{List, [], ◌∷◌, map}
use Prim.Native.Nat.{ℕ, ◌+◌}
use lib.ListN.{length, length-append}
use lib.Dec.{ltb}
use lib.Ieee.{Float}
use Rattle.lists.specs.Lists.{some, every, each, joined, has, span}
use Rattle.lists.proofs.Alike.{some_map}
use Rattle.lists.proofs.Parts.{each_joined}
use Rattle.mesh.specs.Mesh.{Mesh, Ring, position, faces, position_count}
use Rattle.mesh.specs.Table.{over_limits}
use Rattle.splitting.specs.Splitting.{twice, folded_by}
use Rattle.folding.specs.Folding.{folded}
use Rattle.removal.specs.Folded as removal
use Rattle.unused.specs.Compaction as compaction
use Rattle.unused.proofs.Columns.{joined_map}
use Rattle.inplace.specs.InPlace.{longest, in_place_number}
use Rattle.marks.specs.Promises.{InPlaceNumberUnread}
use Rattle.verdicts.specs.Edges.{Edge, verdict}
use Rattle.house.specs.Answers.{wired}
use Rattle.smoothed.specs.Smoothed.{used_in, all_used, smoothed_faces}
use Rattle.smoothed.specs.Promise.{smoothed_mesh}
use Rattle.smoothed.specs.Around.{neighbours}
use Rattle.smoothed.specs.Refusals as smoothing
use Rattle.calls.specs.Order.{SameNumbers}
use Rattle.calls.proofs.Numbers.{numbers_agree}
use Rattle.marks.specs.Marks.{remarked, remarked_faces, remarked_mesh, Unread}
use Rattle.marks.proofs.Remarked.{length_remarked, faces_remarked}
use Rattle.marks.proofs.Accepted.{number_remarked}
use Rattle.marks.proofs.Edges.{positions_remarked, edges_unread}
use Rattle.marks.proofs.Smoothing.{neighbours_kept, faces_moved, points_kept, lengths_moved}

-- ---- removal, compaction

pub removal_number_lem : (r : removal.Result) → Unread (λ m. removal.removal_number m r)
unfolding removal.removal_number removal.too_short remarked_mesh
removal_number_lem r g m = rw (number_remarked g m, length_remarked g m.corners)

pub compaction_number_lem : (r : compaction.Result) → Unread (λ m. compaction.compaction_number m r)
unfolding compaction.compaction_number compaction.too_short remarked_mesh
compaction_number_lem r g m = rw (number_remarked g m, length_remarked g m.corners)

pub in_place_number_lem : InPlaceNumberUnread
unfolding in_place_number longest remarked_mesh
in_place_number_lem numbers g m = rw (number_remarked g m)

-- ---- hem edges, wires, panels

pub edge_numbers : (g : ℕ → ℕ) (m : Mesh) → SameNumbers (remarked_mesh g m) m
unfolding remarked_mesh
edge_numbers g m =
    numbers_agree (remarked_mesh g m) m (number_remarked g m) (length_remarked g m.corners)
    (ap (λ (es : List Edge). not (wired (verdict es))) (edges_unread g m))

-- ---- smoothing

module _ (g : ℕ → ℕ) where
  length_joined : (r : Ring) → length (joined (map (remarked g) r)) ≡ length (joined r)
  length_joined [] = refl
  length_joined (c ∷ r) =
      length-append (remarked g c) (joined (map (remarked g) r))
      ∙ ap₂ ◌+◌ (length_remarked g c) (length_joined r)
      ∙ sym (length-append c (joined r))

  length_written : (fs : List Ring) → length (each joined (remarked_faces g fs)) ≡ length (each joined fs)
  length_written fs =
      ap length (each_joined (remarked_faces g fs) ∙ ap joined (joined_map (remarked g) fs))
      ∙ length_joined (joined fs)
      ∙ sym (ap length (each_joined fs))

  folded_kept : (fs : List Ring) → some folded (remarked_faces g fs) ≡ some folded fs
  unfolding folded_by
  folded_kept fs =
      sym (some_map twice (map position) (remarked_faces g fs)) ∙ ap (some twice) (positions_remarked g fs) ∙ some_map twice (map position) fs

  used_kept : (fs : List Ring) (p : ℕ) → used_in (remarked_faces g fs) p ≡ used_in fs p
  used_kept fs p =
      sym (some_map (has p) (map position) (remarked_faces g fs)) ∙ ap (some (has p)) (positions_remarked g fs) ∙ some_map (has p) (map position) fs

module _ (g : ℕ → ℕ) (m : Mesh) where
  idle_kept : smoothing.folded_or_idle (remarked_mesh g m) ≡ smoothing.folded_or_idle m
  unfolding smoothing.folded_or_idle all_used remarked_mesh
  idle_kept =
      ap (λ (fs : List Ring). some folded fs || not (every (used_in fs) (span 0 (position_count m)))) (faces_remarked g m)
      ∙ ap₂ (λ (b : Bool) (u : ℕ → Bool). b || not (every u (span 0 (position_count m)))) (folded_kept g (faces m)) (fun_ext (used_kept g (faces m)))

  oriented_kept : smoothing.unoriented (remarked_mesh g m) ≡ smoothing.unoriented m
  unfolding smoothing.unoriented
  oriented_kept = ap (λ (es : List Edge). not (smoothing.oriented (verdict es))) (edges_unread g m)

  crowded_kept : (v : ℕ) → smoothing.crowded (remarked_mesh g m) v ≡ smoothing.crowded m v
  crowded_kept v =
      ap (λ (l : List ℕ). ltb smoothing.cosine_count (length l)) (ap (λ (fs : List Ring). neighbours fs v) (faces_remarked g m) ∙ neighbours_kept g (faces m) v)

  module _ (ones twos : List Float) where
    cosines_kept : smoothing.unfit_cosines (remarked_mesh g m) ones twos ≡ smoothing.unfit_cosines m ones twos
    unfolding smoothing.unfit_cosines remarked_mesh
    cosines_kept =
        ap (λ (c : ℕ → Bool). smoothing.unfit_list ones || (smoothing.unfit_list twos || some c (span 0 (position_count m)))) (fun_ext crowded_kept)

    limits_kept : over_limits (smoothing.result_of (remarked_mesh g m) ones twos) ≡ over_limits (smoothing.result_of m ones twos)
    unfolding over_limits smoothed_mesh remarked_mesh
    limits_kept =
        rw
        (points_kept g m ones twos, ap (each joined) (faces_moved g m), length_written g (smoothed_faces (position_count m) (faces m)), lengths_moved g m)

pub smoothing_number_lem : (ones twos : List Float) (r : smoothing.Result) → Unread (λ m. smoothing.smoothing_number m ones twos r)
unfolding smoothing.smoothing_number smoothing.boundless_position smoothing.other_face smoothing.too_short remarked_mesh
smoothing_number_lem ones twos r g m =
    rw
    (number_remarked g m, idle_kept g m, oriented_kept g m, cosines_kept g m ones twos, limits_kept g m ones twos, length_remarked g m.corners)
