-- All faces are written as they stand, with the numbers 0, 1, 2, .. beside them. Assumes nothing.
use mathlib.Core.Path.{◌≡◌, sym, ap, ap₂, ◌∙◌}
use mathlib.Core.List.{List, [], ◌∷◌, ◌++◌, map}
use Prim.Native.Nat.{ℕ, suc, ◌*◌, ◌/◌, ◌≤◌, ◌<◌}
use native.Mathlib.Nat.{le_of_eq}
use native.Mathlib.Omega.{arith}
use lib.ListN.{length, get_or, take, drop}
use lib.Seq.{sets, length-take-le}
use Rattle.lists.specs.Lists.{span, sum}
use Rattle.lists.proofs.Buckets.{length_span}
use Rattle.lists.proofs.Writing.{sets_front}
use Rattle.mesh.specs.Limits.{width}
use Rattle.mesh.specs.Mesh.{rings}
use Rattle.mesh.specs.Face.{Sound}
use Rattle.mesh.proofs.Faces.{length_rings, sizes_back, corners_back}
use Rattle.grouping.specs.Push.{Placed}
use Rattle.removal.specs.Working.{Fit, Left}

-- corners and sizes
kept_all : (cs s o o' l l' : List ℕ) → Sound cs s → o' ≡ sets o 0 cs → l' ≡ sets l 0 s → Placed (rings s cs) o o' l l' 0 0 (length cs / width) (length s)
kept_all cs s o o' l l' y e f =
    let b : map length (rings s cs) ≡ s = sizes_back s cs (le_of_eq y.adds) in
    record {
      corners = e ∙ ap (sets o 0) (sym (corners_back s cs y.adds));
      sizes = f ∙ ap (sets l 0) (sym b);
      more = omega (arith, ap sum b, y.adds);
      most = omega (arith, length_rings s cs);
    }

-- with the numbers 0, 1, 2, .. in front
pub left_all : (cs s o o' l l' u u' : List ℕ) → Sound cs s → length s ≤ length u → o' ≡ sets o 0 cs → l' ≡ sets l 0 s → u' ≡ span 0 (length (take (length s) u))
    → Left (rings s cs) (span 0 (length s)) o o' l l' u (u' ++ drop (length s) u) 0 0 (length cs / width) (length s)
left_all cs s o o' l l' u u' y h e f g =
    let n : u' ≡ span 0 (length s) = g ∙ ap (span 0) (length-take-le (length s) u h) in
    let m : length (span 0 (length s)) ≡ length s = length_span 0 (length s) in
    record {
      placed = kept_all cs s o o' l l' y e f;
      origins =
          ap₂ (λ (x : List ℕ) (j : ℕ). x ++ drop j u) n (sym m)
          ∙ sym (sets_front u (span 0 (length s)) (omega arith));
    }

-- no more faces than a third of the corners
pub faces_few : (cs s : List ℕ) → Fit cs s → width * 3 * length s ≤ length cs
faces_few cs s y = omega (arith, least_sum s y.least, y.sound.adds)
  where
    least_sum : (l : List ℕ) → ((k : ℕ) → k < length l → 3 ≤ get_or l k 0) → 3 * length l ≤ sum l
    least_sum [] f = omega arith
    least_sum (n ∷ l) f =
        let a : 3 ≤ n = f 0 (omega arith) in
        let b : 3 * length l ≤ sum l = least_sum l (λ k h. f (suc k) (let g : k < length l = h in omega arith)) in
        omega arith
