-- The call: what it answers on a refusal and on 0. Assumes nothing.
use mathlib.Core.Path.{◌≡◌, sym, ◌∙◌}
use mathlib.Core.Bool.{true}
use mathlib.Core.List.{List, [], ◌∷◌}
use Prim.Native.Nat.{ℕ, ◌/◌, ◌≤◌, ◌<◌}
use native.Mathlib.Nat.{zero-add}
use native.Mathlib.Omega.{arith}
use lib.ListN.{length}
use borrow.Author.Tests.{lt-ltb, le-ltb}
use Rattle.mesh.specs.Limits.{width, least_ring}
use Rattle.mesh.specs.Mesh.{Mesh, faces, rings}
use Rattle.mesh.specs.Table.{mesh_number, when, short}
use Rattle.mesh.proofs.After.{after_refused}
use Rattle.mesh.proofs.Numbers.{first_is, first_on, row_given}
use Rattle.mesh.proofs.Accepted.{accepted}
use Rattle.grouping.specs.Push.{corner_count}
use Rattle.removal.specs.Origins.{origins_of}
use Rattle.removal.specs.Folded.{Removed, removed, unfolded_mesh, result_of, too_short, removal_number, Removal}
use Rattle.removal.specs.Working.{Given, Left, refused_by}
use Rattle.removal.proofs.Accepted.{fit}

module _ (m : Mesh) (o l u : List ℕ) (answer : Removed) where
  refused_is : (n : ℕ) → (n ≡ 0 → ⊥) → n ≡ removal_number m (result_of o l u) → answer ≡ refused_by n → Removal m (result_of o l u) (result_of o l u) answer
  refused_is n h e r = rw r (record {
    number = e;
    corner_count_is = sym (after_refused n _ 0 h);
    face_count = sym (after_refused n _ 0 h);
    corners = sym (after_refused n _ o h);
    sizes = sym (after_refused n _ l h);
    origins = sym (after_refused n _ u h);
  })

  -- 1 to 5
  pub refused_mesh : (n : ℕ) → n ≡ mesh_number m → (n ≡ 0 → ⊥) → answer ≡ refused_by n → Removal m (result_of o l u) (result_of o l u) answer
  unfolding removal_number
  refused_mesh n e h r =
      refused_is n h (e ∙ sym (first_is (mesh_number m) (when (too_short m (result_of o l u)) 9 ∷ []) (λ q. h (e ∙ q)))) r

  -- 9
  module _ (z : mesh_number m ≡ 0) where
    refused_room : too_short m (result_of o l u) ≡ true → answer ≡ refused_by 9 → Removal m (result_of o l u) (result_of o l u) answer
    unfolding removal_number
    refused_room s r =
        refused_is 9 (λ q. omega arith) (sym (first_on (mesh_number m) (when (too_short m (result_of o l u)) 9 ∷ []) z ∙ row_given (too_short m (result_of o l u)) 8 [] s)) r

    pub refused_corners : length o < length m.corners → answer ≡ refused_by 9 → Removal m (result_of o l u) (result_of o l u) answer
    unfolding too_short short
    refused_corners a r = refused_room (rw (lt-ltb _ _ a)) r

    pub refused_sizes : length m.corners ≤ length o → length l < length m.corners / width / least_ring → answer ≡ refused_by 9 → Removal m (result_of o l u) (result_of o l u) answer
    unfolding too_short short
    refused_sizes a b r = refused_room (rw (le-ltb _ _ a, lt-ltb _ _ b)) r

    pub refused_origins : length m.corners ≤ length o → length m.corners / width / least_ring ≤ length l → length u < length m.corners / width / least_ring
        → answer ≡ refused_by 9 → Removal m (result_of o l u) (result_of o l u) answer
    unfolding too_short short
    refused_origins a b d r = refused_room (rw (le-ltb _ _ a, le-ltb _ _ b, lt-ltb _ _ d)) r

-- an accepted mesh, and room
module _ (m : Mesh) (o l u : List ℕ) (z : mesh_number m ≡ 0) (a : length m.corners ≤ length o)
    (b : length m.corners / width / least_ring ≤ length l) (d : length m.corners / width / least_ring ≤ length u) where
  pub given : Given m.corners m.sizes o l u
  given = record { ready = record { fit = fit m z; corners = a; sizes = omega arith; origins = omega arith }; grouped = (accepted m z).grouped }

  number_0 : 0 ≡ removal_number m (result_of o l u)
  unfolding removal_number too_short short
  number_0 = sym (first_on (mesh_number m) (when (too_short m (result_of o l u)) 9 ∷ []) z ∙ rw (le-ltb _ _ a, le-ltb _ _ b, le-ltb _ _ d))

  pub done : (o' l' u' : List ℕ) (c f : ℕ) → Left (removed (rings m.sizes m.corners)) (origins_of (rings m.sizes m.corners)) o o' l l' u u' 0 0 c f
      → Removal m (result_of o l u) (result_of o' l' u') (record { number = 0; corners = c; faces = f })
  unfolding unfolded_mesh faces
  done o' l' u' c f p = record {
    number = number_0;
    corner_count_is = p.placed.more ∙ zero-add (corner_count (removed (rings m.sizes m.corners)));
    face_count = p.placed.most ∙ zero-add (length (removed (rings m.sizes m.corners)));
    corners = p.placed.corners;
    sizes = p.placed.sizes;
    origins = p.origins;
  }
