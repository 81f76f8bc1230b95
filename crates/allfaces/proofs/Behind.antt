-- What is left of the triangles and what is left of the others, written one behind the other: the room, the faces, their origins.
-- Assumes nothing.
use mathlib.Core.Path.{◌≡◌, sym, ap, ◌∙◌, ap₂}
use mathlib.Core.List.{List, [], ◌++◌, map, append-nil}
use Prim.Native.Nat.{ℕ, ◌+◌, ◌-◌, ◌*◌, ◌≤◌}
use native.Mathlib.Nat.{le_of_eq}
use native.Mathlib.Omega.{arith}
use lib.ListN.{length, take, drop, length-drop, drop_of_length-le}
use lib.Seq.{sets, drop-length}
use borrow.Author.Rules.{part_to_end}
use Rattle.lists.specs.Lists.{joined, each, sum}
use Rattle.lists.proofs.Copies.{sets_tail}
use Rattle.lists.proofs.Writing.{sets_append}
use Rattle.mesh.specs.Limits.{width}
use Rattle.mesh.specs.Mesh.{Ring, rings}
use Rattle.mesh.proofs.Corners.{is_corner}
use Rattle.mesh.proofs.Faces.{rings_are, sizes_back}
use Rattle.grouping.specs.Push.{Placed, corner_count}
use Rattle.grouping.proofs.Placing.{placed_both, placed_as}
use Rattle.folding.specs.Folding.{pieces}
use Rattle.folding.proofs.Pieces.{is_face, pieces_sane}
use Rattle.splitting.proofs.Pieces.{third}
use Rattle.removal.specs.Folded.{removed}
use Rattle.removal.specs.Working.{Fit, Triangles, Ready, Left, origins_from}
use Rattle.allfaces.specs.Working.{Numbered, Behind}
use Rattle.removal.specs.Origins.{numbered, origins_of}
use Rattle.removal.proofs.Result.{every_pieces, corners_pieces, count_pieces, removed_count, removed_length}
use Rattle.removal.proofs.Origins.{numbered_count}
use Rattle.removal.proofs.TwoParts.{total, within_corners, front_long, fit_front, fit_behind, removed_split, origins_split, removed_none, none_left}

-- ---- the two parts are written one behind the other

-- room for the triangles, and behind their pieces for what is left of the others
pub ready_front : (cs s o l u : List ℕ) (k : ℕ) → Ready cs s o l u → Triangles s k → Numbered 0 (take (width * 3 * k) cs) (take k s) o l u
ready_front cs s o l u k y t =
    let n : length (take (width * 3 * k) cs) ≡ width * 3 * k = front_long cs s k y.fit t in
    let w = within_corners cs s k y.fit t in
    record {
      ready = record { fit = fit_front cs s k y.fit t; corners = omega (arith, y.corners); sizes = omega (arith, y.sizes); origins = omega (arith, y.origins) };
      few = omega (arith, (fit_front cs s k y.fit t).sound.few);
    }

pub ready_behind : (cs s o o' l l' u u' : List ℕ) (k c f : ℕ) → Ready cs s o l u → Triangles s k
    → Placed (each pieces (rings (take k s) (take (width * 3 * k) cs))) o o' l l' 0 0 c f → length o' ≡ length o → length l' ≡ length l → length u' ≡ length u
    → Behind k (drop (width * 3 * k) cs) (drop k s) o' l' u' c f
ready_behind cs s o o' l l' u u' k c f y t p x z w' =
    let a = rings (take k s) (take (width * 3 * k) cs) in
    let w = within_corners cs s k y.fit t in
    let d : length (drop (width * 3 * k) cs) ≡ length cs - width * 3 * k = length-drop (width * 3 * k) cs in
    let e : corner_count a ≡ 3 * k = ap sum (sizes_back (take k s) (take (width * 3 * k) cs) (le_of_eq (fit_front cs s k y.fit t).sound.adds)) ∙ total cs s k y.fit t in
    let g = count_pieces a in
    let h : 3 * length (each pieces a) ≤ corner_count (each pieces a) = third (each pieces a) (every_pieces is_face a (λ r. (pieces_sane r).faces)) in
    record {
      fit = fit_behind cs s k y.fit t;
      few = (let n : length (drop k s) ≡ length s - k = length-drop k s in omega (arith, t.within, y.fit.sound.few));
      corners = omega (arith, p.more, y.corners);
      sizes = omega (arith, p.more, p.most, y.sizes);
      origins = omega (arith, p.more, p.most, y.origins);
    }

-- no more is left than was given
pub left_corners : (cs s o o' l l' : List ℕ) (c f : ℕ) → Fit cs s → Placed (removed (rings s cs)) o o' l l' 0 0 c f → width * c ≤ length cs
left_corners cs s o o' l l' c f y p =
    omega (arith, p.more, removed_count (rings s cs), ap sum (sizes_back s cs (le_of_eq y.sound.adds)), y.sound.adds)

pub left_faces : (cs s o o' l l' : List ℕ) (c f : ℕ) → Fit cs s → Placed (removed (rings s cs)) o o' l l' 0 0 c f → width * 3 * f ≤ length cs
left_faces cs s o o' l l' c f y p =
    omega (arith, p.more, p.most, left_corners cs s o o' l l' c f y p, removed_length (rings s cs))

-- what is written to all that stands behind is written behind
pub tail_written : (x x' : List ℕ) (a : ℕ) (vs : List ℕ) → x' ≡ sets (take (length x - a) (drop a x)) 0 vs → take a x ++ (x' ++ drop (length x - a) (drop a x)) ≡ sets x a vs
tail_written x x' a vs e =
    let n : length (drop a x) ≤ length x - a = le_of_eq (length-drop a x) in
    ap (λ (t : List ℕ). take a x ++ (x' ++ t)) (drop_of_length-le (drop a x) n)
    ∙ ap (λ (t : List ℕ). take a x ++ t) (append-nil x' ∙ e ∙ ap (λ (t : List ℕ). sets t 0 vs) (part_to_end x a))
    ∙ sets_tail x a vs

pub placed_tail : (fs : List Ring) (o o' l l' : List ℕ) (c f c' f' : ℕ)
    → Placed fs (take (length o - width * c) (drop (width * c) o)) o' (take (length l - f) (drop f l)) l' 0 0 c' f'
    → Placed fs o (take (width * c) o ++ (o' ++ drop (length o - width * c) (drop (width * c) o))) l (take f l ++ (l' ++ drop (length l - f) (drop f l))) c f (c + c') (f + f')
placed_tail fs o o' l l' c f c' f' p = record {
  corners = tail_written o o' (width * c) (each joined fs) p.corners;
  sizes = tail_written l l' f (map length fs) p.sizes;
  more = omega (arith, p.more);
  most = omega (arith, p.most);
}

-- the triangles' pieces, and the others behind them
pub placed_parts : (cs s o o1 o2 l l1 l2 : List ℕ) (k c f c' f' : ℕ) → Fit cs s → Triangles s k
    → Placed (each pieces (rings (take k s) (take (width * 3 * k) cs))) o o1 l l1 0 0 c f
    → Placed (removed (rings (drop k s) (drop (width * 3 * k) cs))) o1 o2 l1 l2 c f c' f' → Placed (removed (rings s cs)) o o2 l l2 0 0 c' f'
placed_parts cs s o o1 o2 l l1 l2 k c f c' f' y t p q =
    placed_as (removed_split cs s k y t)
    (placed_both _ _ o o1 o2 l l1 l2 0 0 c f c' f' (corners_pieces is_corner (rings (take k s) (take (width * 3 * k) cs)) (rings_are (take k s) (take (width * 3 * k) cs))) p q)

-- only triangles
pub placed_triangles : (cs s o o' l l' : List ℕ) (k c f : ℕ) → Fit cs s → Triangles s k → k ≡ length s
    → Placed (each pieces (rings (take k s) (take (width * 3 * k) cs))) o o' l l' 0 0 c f → Placed (removed (rings s cs)) o o' l l' 0 0 c f
placed_triangles cs s o o' l l' k c f y t e p =
    placed_as
    (removed_split cs s k y t
    ∙ ap (λ (l : List ℕ). each pieces (rings (take k s) (take (width * 3 * k) cs)) ++ removed (rings l (drop (width * 3 * k) cs))) (ap (λ (n : ℕ). drop n s) e ∙ drop-length s)
    ∙ ap (λ (l : List Ring). each pieces (rings (take k s) (take (width * 3 * k) cs)) ++ l) removed_none
    ∙ append-nil (each pieces (rings (take k s) (take (width * 3 * k) cs))))
    p

-- ---- and their origins

-- what is left of the triangles, and behind it what is left of the others
pub left_parts : (cs s o o1 o2 l l1 l2 u u1 u2 : List ℕ) (k c f c' f' : ℕ) → Fit cs s → Triangles s k
    → Left (each pieces (rings (take k s) (take (width * 3 * k) cs))) (numbered 0 (rings (take k s) (take (width * 3 * k) cs))) o o1 l l1 u u1 0 0 c f
    → Left (removed (rings (drop k s) (drop (width * 3 * k) cs))) (origins_from k (rings (drop k s) (drop (width * 3 * k) cs))) o1 o2 l1 l2 u1 u2 c f c' f'
    → Left (removed (rings s cs)) (origins_of (rings s cs)) o o2 l l2 u u2 0 0 c' f'
left_parts cs s o o1 o2 l l1 l2 u u1 u2 k c f c' f' y t p q =
    let a = rings (take k s) (take (width * 3 * k) cs) in
    let b = origins_from k (rings (drop k s) (drop (width * 3 * k) cs)) in
    let n : f ≡ 0 + length (numbered 0 a) = p.placed.most ∙ ap (λ (j : ℕ). 0 + j) (sym (numbered_count 0 a)) in
    record {
      placed = placed_parts cs s o o1 o2 l l1 l2 k c f c' f' y t p.placed q.placed;
      origins =
          q.origins
          ∙ ap₂ (λ (x : List ℕ) (j : ℕ). sets x j b) p.origins n
          ∙ sym (sets_append u 0 (numbered 0 a) b)
          ∙ ap (sets u 0) (sym (origins_split cs s k y t));
    }

-- only triangles
pub left_triangles : (cs s o o' l l' u u' : List ℕ) (k c f : ℕ) → Fit cs s → Triangles s k → k ≡ length s
    → Left (each pieces (rings (take k s) (take (width * 3 * k) cs))) (numbered 0 (rings (take k s) (take (width * 3 * k) cs))) o o' l l' u u' 0 0 c f
    → Left (removed (rings s cs)) (origins_of (rings s cs)) o o' l l' u u' 0 0 c f
left_triangles cs s o o' l l' u u' k c f y t e p =
    let a = numbered 0 (rings (take k s) (take (width * 3 * k) cs)) in
    let none : drop k s ≡ [] = ap (λ (n : ℕ). drop n s) e ∙ drop-length s in
    let all : origins_of (rings s cs) ≡ a =
    origins_split cs s k y t
    ∙ ap (λ (x : List ℕ). a ++ origins_from k (rings x (drop (width * 3 * k) cs))) none
    ∙ ap (λ (x : List ℕ). a ++ x) (none_left k (drop (width * 3 * k) cs))
    ∙ append-nil a in
    record { placed = placed_triangles cs s o o' l l' k c f y t e p.placed; origins = p.origins ∙ ap (sets u 0) (sym all) }

-- what is written to all that stands behind is written behind
pub left_tail : (fs : List Ring) (ts o o' l l' u u' : List ℕ) (c f c' f' : ℕ)
    → Left fs ts (take (length o - width * c) (drop (width * c) o)) o' (take (length l - f) (drop f l)) l' (take (length u - f) (drop f u)) u' 0 0 c' f'
    → Left fs ts
    o (take (width * c) o ++ (o' ++ drop (length o - width * c) (drop (width * c) o)))
    l (take f l ++ (l' ++ drop (length l - f) (drop f l)))
    u (take f u ++ (u' ++ drop (length u - f) (drop f u)))
    c f (c + c') (f + f')
left_tail fs ts o o' l l' u u' c f c' f' p = record {
  placed = placed_tail fs o o' l l' c f c' f' p.placed;
  origins = tail_written u u' f ts p.origins;
}
