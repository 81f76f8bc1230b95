-- One face: the room that it has, and its pieces by its size and by what the tests on it say. Assumes nothing.
use mathlib.Core.Path.{◌≡◌, refl, sym, ap, ◌∙◌}
use mathlib.Core.Bool.{Bool, true, false}
use mathlib.Core.List.{List, [], ◌∷◌, map}
use Prim.Native.Nat.{ℕ, ◌*◌, ◌≤◌, ◌<◌}
use native.Mathlib.Omega.{arith}
use lib.ListN.{length, length-map}
use lib.Dec.{ltb}
use borrow.Author.Tests.{ltb-true, ltb-false}
use Rattle.lists.proofs.Bools.{by_cases}
use Rattle.mesh.specs.Limits.{width}
use Rattle.mesh.specs.Mesh.{Ring, position, corners_in}
use Rattle.mesh.proofs.Corners.{length-corners_in}
use Rattle.grouping.specs.Push.{Placed}
use Rattle.grouping.proofs.Placing.{placed_none, placed_as}
use Rattle.splitting.specs.Splitting.{first_mated, first_by}
use Rattle.splitting.proofs.Search.{folded_found, folded_missing}
use Rattle.splitting.proofs.Pieces.{pieces_stay}
use Rattle.folding.specs.Folding.{folded, triangle_pieces, fold_of, left, quadrangle_pieces, ring_pieces, pieces}
use Rattle.folding.specs.declared.Fold.{Fold}
use Rattle.folding.specs.declared.Fold.TheVariants.{Goes, WithoutQ1, WithoutQ3, Stays}
use Rattle.folding.proofs.Pieces.{triangle_goes, triangle_stays, changes, quadrangle_left, quadrangle_tells, pieces_triangle, pieces_quadrangle, pieces_ring}
use Rattle.oneface.specs.Working.{Face}

module _ (face : List ℕ) (n : ℕ) (out lens : List ℕ) (c f : ℕ) (h : Face face n out lens c f) where
  pub corners : length (corners_in face) ≡ n
  corners = length-corners_in face ∙ (omega (arith, h.wide))

  -- a larger face that is not folded stays
  pub ring_kept : (b : Bool) → b ≡ folded (corners_in face) → b ≡ false → ring_pieces (corners_in face) ≡ corners_in face ∷ []
  ring_kept b e g = pieces_stay position (corners_in face) (sym e ∙ g) (omega (arith, corners, h.least))

  -- by the size
  pub three_pieces : n ≡ 3 → pieces (corners_in face) ≡ triangle_pieces (corners_in face)
  three_pieces e = pieces_triangle (corners_in face) (corners ∙ e)

  pub four_pieces : n ≡ 4 → pieces (corners_in face) ≡ quadrangle_pieces (corners_in face)
  four_pieces e = pieces_quadrangle (corners_in face) (corners ∙ e)

  pub more_pieces : (n ≡ 3 → ⊥) → (n ≡ 4 → ⊥) → pieces (corners_in face) ≡ ring_pieces (corners_in face)
  more_pieces a b = pieces_ring (corners_in face) (λ e. a (sym corners ∙ e)) (λ e. b (sym corners ∙ e))

-- a triangle by the test on its corners
module _ (face : List ℕ) (tri : Ring) (b : Bool) where
  pub triangle_none : (o l : List ℕ) (c f : ℕ) → tri ≡ corners_in face → b ≡ folded tri → b ≡ true → Placed (triangle_pieces (corners_in face)) o o l l c f c f
  triangle_none o l c f e h t = placed_as (ap triangle_pieces (sym e) ∙ triangle_goes tri (sym h ∙ t)) (placed_none o l c f)

  pub triangle_kept :
      {o o' l l' : List ℕ} {c f c' f' : ℕ} → tri ≡ corners_in face → b ≡ folded tri → b ≡ false → Placed (corners_in face ∷ []) o o' l l' c f c' f'
      → Placed (triangle_pieces (corners_in face)) o o' l l' c f c' f'
  triangle_kept e h t p = placed_as (triangle_stays (corners_in face) (ap folded (sym e) ∙ sym h ∙ t)) p

-- a quadrangle by the answer on it
pub quad_tells :
    (face : List ℕ) (quad : Ring) (f : Fold) → length face ≡ width * 4 → quad ≡ corners_in face → f ≡ fold_of quad → changes f ≡ folded (corners_in face)
quad_tells face quad f w e h =
    ap changes (h ∙ ap fold_of e) ∙ quadrangle_tells (corners_in face) (length-corners_in face ∙ (omega arith))

-- any answer but that it stays
pub changed : (f : Fold) → (f ≡ Stays → ⊥) → true ≡ changes f
changed Goes h = refl
changed WithoutQ1 h = refl
changed WithoutQ3 h = refl
changed Stays h = absurd (h refl)

pub quad_left :
    (face : List ℕ) (quad : Ring) (f g : Fold) → quad ≡ corners_in face → f ≡ fold_of quad → f ≡ g
    → quadrangle_pieces (corners_in face) ≡ left g (corners_in face)
quad_left face quad f g e h k = quadrangle_left (corners_in face) g (sym k ∙ h ∙ ap fold_of e)

-- the search through the positions of a larger face says whether it is folded
pub ring_folded : (face ps : List ℕ) (i : ℕ) → ps ≡ map position (corners_in face) → i ≡ first_mated ps → ltb i (length ps) ≡ folded (corners_in face)
ring_folded face ps i e f =
    let c : length ps ≡ length (corners_in face) = ap length e ∙ length-map (corners_in face) position in
    let z : i ≡ first_by position (corners_in face) = f ∙ ap first_mated e in
    by_cases (ltb i (length ps))
    (λ t. t ∙ sym (folded_found position (corners_in face) (let q : i < length ps = ltb-true i (length ps) t in omega arith)))
    (λ t. t ∙ sym (folded_missing position (corners_in face) (let q : length ps ≤ i = ltb-false i (length ps) t in omega arith)))
