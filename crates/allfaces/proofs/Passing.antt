-- The pass over the faces: the pieces of the first k are written, and there is room for those of the next. Assumes nothing.
use mathlib.Core.Path.{◌≡◌, refl, sym, ap, ◌∙◌}
use mathlib.Core.Bool.{true}
use mathlib.Core.List.{List, [], ◌∷◌, ◌++◌, append-nil}
use Prim.Native.Nat.{ℕ, ◌+◌, ◌*◌, ◌≤◌, ◌<◌}
use native.Mathlib.Numerals.{add-one}
use native.Mathlib.Omega.{arith}
use lib.ListN.{length, get_or, take}
use lib.Seq.{take-suc, take_all}
use Rattle.lists.specs.Lists.{every, each, sum}
use Rattle.lists.proofs.Parts.{each_append, every_take, sum_at}
use Rattle.mesh.specs.Limits.{width, least_ring}
use Rattle.mesh.specs.Mesh.{Ring, corners_in, rings}
use Rattle.mesh.specs.Face.{face_of, offset_of, Sound}
use Rattle.mesh.proofs.Corners.{is_corner}
use Rattle.mesh.proofs.Faces.{is_ring, rings_are, length_rings, get_or-rings, face_length, length_face}
use Rattle.mesh.proofs.Walking.{Walking, walk_begins, walk_turns}
use Rattle.grouping.specs.Push.{Placed}
use Rattle.grouping.proofs.Placing.{placed_none, placed_both, placed_as}
use Rattle.folding.specs.Folding.{pieces}
use Rattle.folding.proofs.Pieces.{pieces_sane}
use Rattle.folding.proofs.Placing.{took}
use Rattle.oneface.specs.Working.{Face}
use Rattle.removal.specs.Working.{Ready}
use Rattle.removal.proofs.Result.{corners_pieces}

-- the pieces of the first k faces
abbrev pub pieces_to : List ℕ → List ℕ → ℕ → List Ring
pieces_to cs s k = each pieces (take k (rings s cs))

pub record Removing (cs s o o' l l' : List ℕ) (c f from k : ℕ) : Type 0 where
  pub walk : Walking s from k
  pub placed : Placed (pieces_to cs s k) o o' l l' 0 0 c f
  pub corners : c ≤ from
  pub faces : least_ring * f ≤ from
  pub out_long : length o' ≡ length o
  pub lens_long : length l' ≡ length l

pub removing_begins : (cs s o l : List ℕ) → Removing cs s o o l l 0 0 0 0
removing_begins cs s o l = record {
  walk = walk_begins s;
  placed = placed_none o l 0 0;
  corners = omega arith;
  faces = omega arith;
  out_long = refl;
  lens_long = refl;
}

-- the next face, and room for its pieces
pub removing_room : (cs s face o o' l l' u : List ℕ) (c f from k : ℕ) → k < length s → face ≡ face_of cs s k → Ready cs s o l u
    → Removing cs s o o' l l' c f from k → Face face (get_or s k 0) o' l' c f
removing_room cs s face o o' l l' u c f from k h e y r =
    let a : offset_of s k + get_or s k 0 ≤ sum s = sum_at s k h in
    let b : width * sum s ≡ length cs = y.fit.sound.adds in
    record {
      least = y.fit.least k h;
      wide = ap length e ∙ face_length cs s y.fit.sound k h;
      room = record {
        small = y.fit.most k h;
        corners = omega (arith, r.corners, r.walk.offset, r.out_long, y.corners);
        sizes = omega (arith, r.faces, r.walk.offset, r.lens_long, y.sizes);
      };
    }

next_pieces : (cs s : List ℕ) (k : ℕ) → k < length s → pieces_to cs s (k + 1) ≡ pieces_to cs s k ++ pieces (corners_in (face_of cs s k))
next_pieces cs s k h =
    let fs = rings s cs in
    let l : k < length fs = rw (length_rings s cs) h in
    ap (each pieces) (ap (λ (n : ℕ). take n fs) (add-one k) ∙ take-suc fs k [] l)
    ∙ each_append pieces (take k fs) (get_or fs k [] ∷ [])
    ∙ ap (λ (t : List Ring). pieces_to cs s k ++ t) (append-nil (pieces (get_or fs k [])))
    ∙ ap (λ (t : Ring). pieces_to cs s k ++ pieces t) (get_or-rings s cs k h)

pub removing_turns : (cs s face o o' o'' l l' l'' u : List ℕ) (c f c' f' from k : ℕ) → k < length s → face ≡ face_of cs s k → Ready cs s o l u
    → Removing cs s o o' l l' c f from k → Placed (pieces (corners_in face)) o' o'' l' l'' c f c' f' → length o'' ≡ length o' → length l'' ≡ length l'
    → Removing cs s o o'' l l'' c' f' (from + get_or s k 0) (k + 1)
removing_turns cs s face o o' o'' l l' l'' u c f c' f' from k h e y r p x z =
    let g : Ring = corners_in (face_of cs s k) in
    let q : Placed (pieces g) o' o'' l' l'' c f c' f' = rw e at p in
    let t = took g (pieces g) o' o'' l' l'' c f c' f' (pieces_sane g) q in
    let n : length g ≡ get_or s k 0 = length_face cs s y.fit.sound k h in
    let w : every is_ring (pieces_to cs s k) ≡ true = corners_pieces is_corner (take k (rings s cs)) (every_take is_ring k (rings s cs) (rings_are s cs)) in
    record {
      walk = walk_turns s from k h r.walk;
      placed = placed_as (next_pieces cs s k h) (placed_both (pieces_to cs s k) (pieces g) o o' o'' l l' l'' 0 0 c f c' f' w r.placed q);
      corners = omega (arith, t.corners, r.corners);
      faces = omega (arith, t.faces, r.faces);
      out_long = x ∙ r.out_long;
      lens_long = z ∙ r.lens_long;
    }

pub removing_ends : (cs s o o' l l' : List ℕ) (c f from k : ℕ) → length s ≤ k → Removing cs s o o' l l' c f from k
    → Placed (each pieces (rings s cs)) o o' l l' 0 0 c f
removing_ends cs s o o' l l' c f from k h r =
    placed_as (ap (each pieces) (sym (take_all k (rings s cs) (rw (length_rings s cs) h)))) r.placed

-- then all corners are passed
pub removing_all : (cs s o o' l l' : List ℕ) (c f from k : ℕ) → Sound cs s → length s ≤ k → Removing cs s o o' l l' c f from k → width * from ≡ length cs
removing_all cs s o o' l l' c f from k a h r =
    let e : from ≡ sum s = r.walk.offset ∙ ap sum (take_all k s h) in
    omega (arith, a.adds)
