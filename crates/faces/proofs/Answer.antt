-- The call: what it answers on a refusal and on 0. Assumes nothing.
use mathlib.Core.Path.{◌≡◌, sym, ◌∙◌}
use mathlib.Core.Bool.{true}
use mathlib.Core.List.{List, [], ◌∷◌}
use Prim.Native.Nat.{ℕ, ◌≤◌, ◌<◌}
use native.Mathlib.Nat.{zero-add}
use native.Mathlib.Omega.{arith}
use lib.ListN.{length}
use Rattle.mesh.specs.Mesh.{rings}
use Rattle.mesh.specs.Face.{Sound}
use Rattle.mesh.specs.Table.{over_limits, uneven, when}
use Rattle.mesh.proofs.After.{after_refused, two_roomy, first_short, second_short}
use Rattle.mesh.proofs.Numbers.{first_is, first_on, first_head, first_tail, when_not, row_given, row_passed}
use Rattle.mesh.proofs.Accepted.{within, even}
use Rattle.grouping.specs.Push.{Placed, pushed, corner_count}
use Rattle.faces.specs.Faces.{FaceLists, faces_of, bare, too_large, faces_number, too_short, push_number, grouped, Pushed, Grouped, refused_by}

-- faces that earn none of 1 to 3 add up
pub sound : (c s : List ℕ) → faces_number c s ≡ 0 → Sound c s
unfolding faces_number
sound c s z =
    let a = when_not (over_limits (bare c s)) 0 (first_head (when (over_limits (bare c s)) 1) (when (uneven (bare c s)) 2 ∷ when (too_large s) 3 ∷ []) z) in
    let t = first_tail (when (over_limits (bare c s)) 1) (when (uneven (bare c s)) 2 ∷ when (too_large s) 3 ∷ []) z in
    let b = when_not (uneven (bare c s)) 1 (first_head (when (uneven (bare c s)) 2) (when (too_large s) 3 ∷ []) t) in
    record { few = (within (bare c s) a).sizes; fits = (within (bare c s) a).corners; adds = (even (bare c s) b).adds }

module _ (c s o l : List ℕ) where
  -- what is given, and what is lent
  abbrev given : FaceLists
  given = faces_of c s

  abbrev lists : FaceLists
  lists = faces_of o l

  -- accepted faces, and room
  module _ (z : faces_number c s ≡ 0) (a : length c ≤ length o) (b : length s ≤ length l) where
    number_0 : 0 ≡ push_number given lists
    unfolding push_number too_short
    number_0 =
        let room = two_roomy (length o) (length c) (length l) (length s) a b in
        sym (first_on (faces_number c s) (when (too_short given lists) 9 ∷ []) z ∙ row_passed (too_short given lists) 8 [] room)

    pub done :
        (o' l' : List ℕ) (k f : ℕ) → Placed (pushed (rings s c)) o o' l l' 0 0 k f
        → Grouped given lists (faces_of o' l') (record { number = 0; corners = k; faces = f })
    done o' l' k f p = record {
      number = number_0;
      corner_count_is = p.more ∙ zero-add (corner_count (grouped given));
      face_count = p.most ∙ zero-add (length (grouped given));
      corners = p.corners;
      sizes = p.sizes;
    }

  module _ (answer : Pushed) where
    refused_is : (n : ℕ) → (n ≡ 0 → ⊥) → n ≡ push_number given lists → answer ≡ refused_by n → Grouped given lists lists answer
    refused_is n h e r = rw r (record {
      number = e;
      corner_count_is = sym (after_refused n _ 0 h);
      face_count = sym (after_refused n _ 0 h);
      corners = sym (after_refused n _ o h);
      sizes = sym (after_refused n _ l h);
    })

    -- 1 to 3
    pub refused_faces : (n : ℕ) → n ≡ faces_number c s → (n ≡ 0 → ⊥) → answer ≡ refused_by n → Grouped given lists lists answer
    unfolding push_number
    refused_faces n e h r =
        refused_is n h (e ∙ sym (first_is (faces_number c s) (when (too_short given lists) 9 ∷ []) (λ q. h (e ∙ q)))) r

    -- 9
    refused_room : faces_number c s ≡ 0 → too_short given lists ≡ true → answer ≡ refused_by 9 → Grouped given lists lists answer
    unfolding push_number
    refused_room z t r =
        let rows = first_on (faces_number c s) (when (too_short given lists) 9 ∷ []) z in
        refused_is 9 (λ q. omega arith) (sym (rows ∙ row_given (too_short given lists) 8 [] t)) r

    pub refused_corners : faces_number c s ≡ 0 → length o < length c → answer ≡ refused_by 9 → Grouped given lists lists answer
    unfolding too_short
    refused_corners z h r = refused_room z (first_short (length o) (length c) _ _ h) r

    pub refused_sizes :
        faces_number c s ≡ 0 → length c ≤ length o → length l < length s → answer ≡ refused_by 9 → Grouped given lists lists answer
    unfolding too_short
    refused_sizes z h k r = refused_room z (second_short _ _ _ _ h k) r
