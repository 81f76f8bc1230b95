-- Changing marks goes corner by corner: it changes no length and none of the first three numbers, and the faces are the faces that were, their
-- corners changed. Assumes nothing.
use mathlib.Core.Path.{◌≡◌, refl, ap, ap₂, sym, ◌∙◌}
use mathlib.Core.Bool.{true}
use mathlib.Core.List.{List, [], ◌∷◌, ◌++◌, map}
use Prim.Native.Nat.{ℕ, zero, suc, ◌*◌, ◌/◌}
use native.Mathlib.Omega.{arith}
use lib.ListN.{length, take, drop}
use borrow.Author.Tests.{eqb-true}
use Rattle.lists.specs.Lists.{every, each, joined}
use Rattle.lists.proofs.Bools.{and_left, and_right}
use Rattle.lists.proofs.Parts.{each_joined, every_joined}
use Rattle.mesh.specs.Limits.{width}
use Rattle.mesh.specs.Mesh.{Mesh, Corner, Ring, position, texture, normal, mark, first_corners, corners_in, rings, faces}
use Rattle.mesh.proofs.Corners.{is_corner}
use Rattle.mesh.proofs.Faces.{is_ring}
use Rattle.unused.proofs.Columns.{joined_map}
use Rattle.marks.specs.Marks.{anew, remarked, remarked_faces, remarked_mesh}

-- one corner more is four numbers more
four : (n : ℕ) → width * suc n ≡ suc (suc (suc (suc (width * n))))
four n = omega arith

module _ (g : ℕ → ℕ) where
  -- ---- one corner

  pub position_kept : (c : Corner) → position (remarked g c) ≡ position c
  position_kept [] = refl
  position_kept (p ∷ []) = refl
  position_kept (p ∷ t ∷ []) = refl
  position_kept (p ∷ t ∷ n ∷ []) = refl
  position_kept (p ∷ t ∷ n ∷ k ∷ c) = refl

  pub texture_kept : (c : Corner) → texture (remarked g c) ≡ texture c
  texture_kept [] = refl
  texture_kept (p ∷ []) = refl
  texture_kept (p ∷ t ∷ []) = refl
  texture_kept (p ∷ t ∷ n ∷ []) = refl
  texture_kept (p ∷ t ∷ n ∷ k ∷ c) = refl

  pub normal_kept : (c : Corner) → normal (remarked g c) ≡ normal c
  normal_kept [] = refl
  normal_kept (p ∷ []) = refl
  normal_kept (p ∷ t ∷ []) = refl
  normal_kept (p ∷ t ∷ n ∷ []) = refl
  normal_kept (p ∷ t ∷ n ∷ k ∷ c) = refl

  pub mark_changed : (c : Corner) → mark (remarked g c) ≡ anew g (mark c)
  mark_changed [] = refl
  mark_changed (p ∷ []) = refl
  mark_changed (p ∷ t ∷ []) = refl
  mark_changed (p ∷ t ∷ n ∷ []) = refl
  mark_changed (p ∷ t ∷ n ∷ k ∷ c) = refl

  -- what is read of each corner and is no mark
  pub column_remarked : {A : Type 0} (q : Corner → A) → ((c : Corner) → q (remarked g c) ≡ q c) → (r : Ring) → map q (map (remarked g) r) ≡ map q r
  column_remarked q h [] = refl
  column_remarked {A} q h (c ∷ r) = ap₂ (λ (a : A) (l : List A). a ∷ l) (h c) (column_remarked q h r)

  -- ---- a flat list

  pub length_remarked : (cs : List ℕ) → length (remarked g cs) ≡ length cs
  length_remarked [] = refl
  length_remarked (p ∷ []) = refl
  length_remarked (p ∷ t ∷ []) = refl
  length_remarked (p ∷ t ∷ n ∷ []) = refl
  length_remarked (p ∷ t ∷ n ∷ k ∷ cs) = ap (λ (l : ℕ). suc (suc (suc (suc l)))) (length_remarked cs)

  -- the first corners, and what is left behind them
  pub take_remarked : (n : ℕ) (cs : List ℕ) → take (width * n) (remarked g cs) ≡ remarked g (take (width * n) cs)
  take_remarked zero cs = refl
  take_remarked (suc n) [] = rw (four n)
  take_remarked (suc n) (p ∷ []) = rw (four n)
  take_remarked (suc n) (p ∷ t ∷ []) = rw (four n)
  take_remarked (suc n) (p ∷ t ∷ o ∷ []) = rw (four n)
  take_remarked (suc n) (p ∷ t ∷ o ∷ k ∷ cs) = rw (four n) (ap (λ (l : List ℕ). p ∷ t ∷ o ∷ anew g k ∷ l) (take_remarked n cs))

  pub drop_remarked : (n : ℕ) (cs : List ℕ) → drop (width * n) (remarked g cs) ≡ remarked g (drop (width * n) cs)
  drop_remarked zero cs = refl
  drop_remarked (suc n) [] = rw (four n)
  drop_remarked (suc n) (p ∷ []) = rw (four n)
  drop_remarked (suc n) (p ∷ t ∷ []) = rw (four n)
  drop_remarked (suc n) (p ∷ t ∷ o ∷ []) = rw (four n)
  drop_remarked (suc n) (p ∷ t ∷ o ∷ k ∷ cs) = rw (four n) (drop_remarked n cs)

  first_remarked : (n : ℕ) (cs : List ℕ) → first_corners n (remarked g cs) ≡ map (remarked g) (first_corners n cs)
  first_remarked zero cs = refl
  first_remarked (suc n) cs =
      ap₂ (λ (c : Corner) (r : Ring). c ∷ r) (take_remarked 1 cs) (ap (first_corners n) (drop_remarked 1 cs) ∙ first_remarked n (drop width cs))

  pub corners_remarked : (cs : List ℕ) → corners_in (remarked g cs) ≡ map (remarked g) (corners_in cs)
  corners_remarked cs = ap (λ (l : ℕ). first_corners (l / width) (remarked g cs)) (length_remarked cs) ∙ first_remarked (length cs / width) cs

  rings_remarked : (s cs : List ℕ) → rings s (remarked g cs) ≡ remarked_faces g (rings s cs)
  rings_remarked [] cs = refl
  rings_remarked (n ∷ s) cs =
      ap₂ (λ (r : Ring) (fs : List Ring). r ∷ fs)
      (ap corners_in (take_remarked n cs) ∙ corners_remarked (take (width * n) cs))
      (ap (rings s) (drop_remarked n cs) ∙ rings_remarked s (drop (width * n) cs))

  pub faces_remarked : (m : Mesh) → faces (remarked_mesh g m) ≡ remarked_faces g (faces m)
  unfolding faces remarked_mesh
  faces_remarked m = rings_remarked m.sizes m.corners

  -- ---- corners that are written flat

  corner_then : (c : Corner) (cs : List ℕ) → is_corner c ≡ true → remarked g (c ++ cs) ≡ remarked g c ++ remarked g cs
  corner_then [] cs h = absurd (let z = eqb-true 0 width h in omega arith)
  corner_then (p ∷ []) cs h = absurd (let z = eqb-true 1 width h in omega arith)
  corner_then (p ∷ t ∷ []) cs h = absurd (let z = eqb-true 2 width h in omega arith)
  corner_then (p ∷ t ∷ n ∷ []) cs h = absurd (let z = eqb-true 3 width h in omega arith)
  corner_then (p ∷ t ∷ n ∷ k ∷ []) cs h = refl
  corner_then (p ∷ t ∷ n ∷ k ∷ x ∷ c) cs h = absurd (let z = eqb-true (suc (suc (suc (suc (suc (length c)))))) width h in omega arith)

  joined_remarked : (r : Ring) → is_ring r ≡ true → remarked g (joined r) ≡ joined (map (remarked g) r)
  joined_remarked [] h = refl
  joined_remarked (c ∷ r) h =
      corner_then c (joined r) (and_left (is_corner c) (is_ring r) h)
      ∙ ap (λ (l : List ℕ). remarked g c ++ l) (joined_remarked r (and_right (is_corner c) (is_ring r) h))

  pub written_remarked : (fs : List Ring) → every is_ring fs ≡ true → remarked g (each joined fs) ≡ each joined (remarked_faces g fs)
  written_remarked fs h =
      ap (remarked g) (each_joined fs)
      ∙ joined_remarked (joined fs) (every_joined is_corner fs ∙ h)
      ∙ ap joined (sym (joined_map (remarked g) fs))
      ∙ sym (each_joined (remarked_faces g fs))

  -- ---- corners changed otherwise too, one by one, and written flat

  module _ (after before : Corner → Corner) (same : (c : Corner) → after (remarked g c) ≡ remarked g (before c)) where
    ring_changed : (r : Ring) → map after (map (remarked g) r) ≡ map (remarked g) (map before r)
    ring_changed [] = refl
    ring_changed (c ∷ r) = ap₂ (λ (d : Corner) (s : Ring). d ∷ s) (same c) (ring_changed r)

    pub flat_changed :
        (cs : List ℕ) → is_ring (map before (corners_in cs)) ≡ true
        → joined (map after (corners_in (remarked g cs))) ≡ remarked g (joined (map before (corners_in cs)))
    flat_changed cs h =
        ap (λ (r : Ring). joined (map after r)) (corners_remarked cs)
        ∙ ap joined (ring_changed (corners_in cs))
        ∙ sym (joined_remarked (map before (corners_in cs)) h)
