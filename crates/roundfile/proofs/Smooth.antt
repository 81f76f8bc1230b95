-- A mesh smoothed in lists at the full limits: smoothing answers what it answers for any such lists, what it gives is an accepted mesh that
-- stands at their front, and the writer refuses that for nothing but a coordinate that is not finite. Assumes nothing.
use mathlib.Core.Path.{◌≡◌, ◌∙◌, refl, sym}
use mathlib.Core.Bool.{not}
use mathlib.Core.List.{List, [], ◌∷◌}
use Prim.Native.Nat.{ℕ, zero, suc, ◌*◌, ◌≤◌}
use native.Mathlib.Omega.{arith}
use lib.ListN.{length, take, length-replicate}
use lib.Ieee.{Float}
use borrow.Author.Tests.{le-ltb}
use Rattle.lists.specs.Putting.{Front}
use Rattle.mesh.specs.Limits.{point_width, width, face_limit, point_numbers, corner_numbers}
use Rattle.mesh.specs.Mesh.{Mesh, mesh_of}
use Rattle.mesh.specs.Table.{when, first_of, mesh_number, short}
use Rattle.mesh.proofs.Accepted.{accepted}
use Rattle.mesh.proofs.After.{after_done}
use Rattle.mesh.proofs.Numbers.{first_is}
use Rattle.mesh.proofs.MeshFronts.{front_positions, front_corners, front_sizes}
use Rattle.floating.specs.Near.{nought}
use Rattle.written.specs.declared.Saved.{Saved}
use Rattle.written.specs.Pieces.{finite_mesh, file_length}
use Rattle.written.specs.Answer.{saving_number, PanelWritten}
use Rattle.written.proofs.Parting.{file_fits}
use Rattle.opening.proofs.Fronts.{front_length}
use Rattle.smoothed.specs.Promise.{smoothed_mesh}
use Rattle.smoothed.specs.Refusals.{Result, result_of, smoothing_number, too_short}
use Rattle.smoothed.proofs.Refusals.{zero_promised}
use Rattle.smoothing.specs.declared.Smoothed.{Smoothed}
use Rattle.smoothing.specs.Smoothing.{Smoothing}
use Rattle.roundfile.specs.Rounding.{full_lists, smoothed_number}
use Rattle.roundfile.specs.Working.{SmoothRoom, refused_by, Answered}

-- ---- the number

-- lists at the full limits
pub positions_full : length full_lists.positions ≡ point_numbers
unfolding full_lists
positions_full = length-replicate point_numbers nought

pub corners_full : length full_lists.corners ≡ corner_numbers
unfolding full_lists
corners_full = length-replicate {A = ℕ} corner_numbers 0

pub sizes_full : length full_lists.sizes ≡ face_limit
unfolding full_lists
sizes_full = length-replicate {A = ℕ} face_limit 0

-- one number, and one before 0
pub alone : (k : ℕ) → first_of (k ∷ []) ≡ k
alone zero = refl
alone (suc k) = refl

before_zero : (k : ℕ) → first_of (k ∷ 0 ∷ []) ≡ k
before_zero zero = refl
before_zero (suc k) = refl

-- the writer of an accepted mesh, with room for its file
saving_is : (m : Mesh) (room : ℕ) → mesh_number m ≡ 0 → file_length m ≤ room → saving_number m room ≡ when (not (finite_mesh m)) 14
unfolding saving_number short
saving_is m room z h = rw (z, le-ltb room (file_length m) h) (before_zero (when (not (finite_mesh m)) 14))

-- ---- the call

module _ {m : Mesh} {ones twos : List Float} {before left : Result} {out : List ℕ} {s : Smoothed} (room : SmoothRoom before out)
    (did : Smoothing m ones twos before left s) where
  abbrev round : Mesh
  round = result_of m ones twos

  same_number : smoothing_number m ones twos before ≡ smoothing_number m ones twos full_lists
  unfolding smoothing_number too_short
  same_number =
      rw (room.positions ∙ sym positions_full, room.corners ∙ sym corners_full, room.sizes ∙ sym sizes_full)

  number_is : s.number ≡ smoothing_number m ones twos full_lists
  number_is = did.number ∙ same_number

  -- it is refused
  refused_number : (s.number ≡ 0 → ⊥) → s.number ≡ smoothed_number m ones twos
  unfolding smoothed_number
  refused_number h =
      let rows = when (not (finite_mesh round)) 14 ∷ [] in
      number_is ∙ sym (first_is (smoothing_number m ones twos full_lists) rows (λ z. h (number_is ∙ z)))

  pub smooth_refused : (s.number ≡ 0 → ⊥) → Answered (smoothed_number m ones twos) round out out (refused_by s.number)
  smooth_refused h = go s.number (refused_number h) h
    where
      go : (k : ℕ) → k ≡ smoothed_number m ones twos → (k ≡ 0 → ⊥) → Answered (smoothed_number m ones twos) round out out (refused_by k)
      go zero e h = absurd (h refl)
      go (suc k) e h = record { number = e; byte_count = rw (sym e); bytes = rw (sym e) }

  -- it is done
  module _ (z : s.number ≡ 0) where
    round_accepted : mesh_number round ≡ 0
    round_accepted = (zero_promised m ones twos before (sym did.number ∙ z)).accepted

    pub positions_front : Front left.positions round.positions (point_width * s.positions)
    positions_front =
        front_positions round round_accepted before.positions room.positions
        (did.positions ∙ after_done _ _ _ z) (did.position_count_is ∙ after_done _ _ _ z)

    pub corners_front : Front left.corners round.corners (width * s.corners)
    corners_front =
        front_corners round round_accepted before.corners room.corners
        (did.corners ∙ after_done _ _ _ z) (did.corner_count_is ∙ after_done _ _ _ z)

    pub sizes_front : Front left.sizes round.sizes s.faces
    sizes_front =
        front_sizes round round_accepted before.sizes room.sizes
        (did.sizes ∙ after_done _ _ _ z) (did.face_count ∙ after_done _ _ _ z)

    pub positions_small : point_width * s.positions ≤ point_numbers
    positions_small = omega (arith, front_length positions_front, (accepted round round_accepted).limits.positions)

    pub corners_small : width * s.corners ≤ corner_numbers
    corners_small = omega (arith, front_length corners_front, (accepted round round_accepted).limits.corners)

    -- what the writer is given
    abbrev handed : Mesh
    handed =
        mesh_of (take (point_width * s.positions) left.positions) m.textures m.normals (take (width * s.corners) left.corners)
        (take s.faces left.sizes)

    handed_is : handed ≡ round
    unfolding smoothed_mesh
    handed_is = rw (positions_front.is, corners_front.is, sizes_front.is)

    done_number : smoothed_number m ones twos ≡ when (not (finite_mesh round)) 14
    unfolding smoothed_number
    done_number = rw (sym number_is ∙ z) (alone (when (not (finite_mesh round)) 14))

    written_number : saving_number round (length out) ≡ smoothed_number m ones twos
    written_number =
        saving_is round (length out) round_accepted (omega (arith, file_fits round round_accepted, room.room)) ∙ sym done_number

    pub smooth_written :
        {out' : List ℕ} {w : Saved} → PanelWritten handed out out' w
        → Answered (smoothed_number m ones twos) round out out' (record { number = w.number; length = w.length })
    smooth_written {out'} {w} p =
        let q : PanelWritten round out out' w = rw handed_is at p in
        let e : w.number ≡ smoothed_number m ones twos = q.number ∙ written_number in
        record { number = e; byte_count = rw (sym e) q.byte_count; bytes = rw (sym e) q.bytes }
