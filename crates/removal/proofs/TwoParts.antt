-- The triangles stand first and leave only triangles: what is left of all faces is what is left of the triangles, and behind that what
-- is left of the others. Assumes nothing.
use mathlib.Core.Path.{◌≡◌, refl, sym, ap, ap₂, ◌∙◌}
use mathlib.Core.Bool.{true}
use mathlib.Core.List.{List, [], ◌∷◌, ◌++◌}
use Prim.Native.Nat.{ℕ, ◌+◌, ◌-◌, ◌*◌, ◌≤◌, ◌<◌}
use native.Mathlib.Nat.{le_of_eq, zero-add}
use native.Mathlib.Omega.{arith}
use lib.ListN.{length, take, drop, length-drop, take-append-drop}
use lib.Seq.{take-take, drop-drop, length-take-le, get_or-take, get_or-drop}
use lib.Dec.{eqb}
use borrow.Author.Tests.{eqb-true}
use Rattle.lists.specs.Lists.{every, each, sum}
use Rattle.lists.proofs.Bools.{and_both, and_left, and_right}
use Rattle.lists.proofs.Parts.{every_append, each_append, sum_append}
use Rattle.lists.proofs.Copies.{drop_take}
use Rattle.mesh.specs.Limits.{width}
use Rattle.mesh.specs.Mesh.{Ring, corners_in, rings}
use Rattle.mesh.proofs.Corners.{length-corners_in}
use Rattle.mesh.proofs.Faces.{length_rings}
use Rattle.grouping.specs.Push.{pushed, is_triangle}
use Rattle.grouping.specs.Tags.{pushed_beside}
use Rattle.grouping.proofs.Pushed.{pushed_behind}
use Rattle.grouping.proofs.Beside.{tags_behind}
use Rattle.folding.specs.Folding.{pieces}
use Rattle.folding.proofs.Pieces.{triangle_triangles}
use Rattle.removal.specs.Origins.{numbered, origins_of}
use Rattle.removal.specs.Folded.{removed}
use Rattle.removal.specs.Working.{Fit, Triangles, origins_from}
use Rattle.removal.proofs.Origins.{numbered_append, numbered_count}

-- ---- the sizes of the first k faces are looked at

-- their sum
all_three : (l : List ℕ) → every (eqb 3) l ≡ true → sum l ≡ 3 * length l
all_three [] e = refl
all_three (n ∷ l) e =
    let a : 3 ≡ n = eqb-true 3 n (and_left (eqb 3 n) (every (eqb 3) l) e) in
    let b : sum l ≡ 3 * length l = all_three l (and_right (eqb 3 n) (every (eqb 3) l) e) in
    omega arith

-- ---- the faces of two parts of the lists, one behind the other

rings_append : (a b cs : List ℕ) → rings (a ++ b) cs ≡ rings a (take (width * sum a) cs) ++ rings b (drop (width * sum a) cs)
rings_append [] b cs = refl
rings_append (n ∷ a) b cs =
    let m : width * (n + sum a) ≡ width * n + width * sum a = omega arith in
    let x : take (width * n) (take (width * (n + sum a)) cs) ≡ take (width * n) cs = take-take (width * n) (width * (n + sum a)) cs (omega arith) in
    let w : width * (n + sum a) - width * n ≡ width * sum a = omega arith in
    let y : drop (width * n) (take (width * (n + sum a)) cs) ≡ take (width * sum a) (drop (width * n) cs) =
    drop_take cs (width * n) (width * (n + sum a)) ∙ ap (λ (k : ℕ). take k (drop (width * n) cs)) w in
    let z : drop (width * sum a) (drop (width * n) cs) ≡ drop (width * (n + sum a)) cs = drop-drop (width * sum a) (width * n) cs ∙ ap (λ (k : ℕ). drop k cs) (sym m) in
    ap (λ (l : List Ring). corners_in (take (width * n) cs) ∷ l) (rings_append a b (drop (width * n) cs))
    ∙ rw (x, y, z)

module _ (cs s : List ℕ) (k : ℕ) (y : Fit cs s) (t : Triangles s k) where
  pub count : length (take k s) ≡ k
  count = length-take-le k s t.within

  pub total : sum (take k s) ≡ 3 * k
  total = all_three (take k s) t.first ∙ ap (λ (n : ℕ). 3 * n) count

  parts : sum (take k s) + sum (drop k s) ≡ sum s
  parts = sym (sum_append (take k s) (drop k s)) ∙ ap sum (take-append-drop k s)

  pub within_corners : width * 3 * k ≤ length cs
  within_corners = omega (arith, total, parts, y.sound.adds)

  pub front_long : length (take (width * 3 * k) cs) ≡ width * 3 * k
  front_long = length-take-le (width * 3 * k) cs within_corners

  pub fit_front : Fit (take (width * 3 * k) cs) (take k s)
  fit_front = record {
    sound = record {
      few = omega (arith, count, t.within, y.sound.few);
      fits = omega (arith, front_long, within_corners, y.sound.fits);
      adds = omega (arith, total, front_long);
    };
    least = λ i h. let g : i < k = rw count at h in rw (get_or-take k s i 0 g) (y.least i (omega (arith, t.within)));
    most = λ i h. let g : i < k = rw count at h in rw (get_or-take k s i 0 g) (y.most i (omega (arith, t.within)));
  }

  pub fit_behind : Fit (drop (width * 3 * k) cs) (drop k s)
  fit_behind =
      let a : length (drop k s) ≡ length s - k = length-drop k s in
      let b : length (drop (width * 3 * k) cs) ≡ length cs - width * 3 * k = length-drop (width * 3 * k) cs in
      record {
        sound = record {
          few = omega (arith, y.sound.few);
          fits = omega (arith, y.sound.fits);
          adds = omega (arith, total, parts, y.sound.adds);
        };
        least = λ i h. let g : i < length (drop k s) = h in rw (get_or-drop k s i 0) (y.least (k + i) (omega arith));
        most = λ i h. let g : i < length (drop k s) = h in rw (get_or-drop k s i 0) (y.most (k + i) (omega arith));
      }

  -- all faces
  pub faces_split : rings s cs ≡ rings (take k s) (take (width * 3 * k) cs) ++ rings (drop k s) (drop (width * 3 * k) cs)
  faces_split =
      let n : width * sum (take k s) ≡ width * 3 * k = omega (arith, total) in
      ap (λ (l : List ℕ). rings l cs) (sym (take-append-drop k s))
      ∙ rings_append (take k s) (drop k s) cs
      ∙ ap (λ (j : ℕ). rings (take k s) (take j cs) ++ rings (drop k s) (drop j cs)) n

-- the pieces of triangles are triangles
pub triangle_rings : (s cs : List ℕ) → every (eqb 3) s ≡ true → width * sum s ≤ length cs → every is_triangle (each pieces (rings s cs)) ≡ true
triangle_rings [] cs e h = refl
triangle_rings (n ∷ s) cs e h =
    let a : 3 ≡ n = eqb-true 3 n (and_left (eqb 3 n) (every (eqb 3) s) e) in
    let r = corners_in (take (width * n) cs) in
    let l : length (take (width * n) cs) ≡ width * n = length-take-le (width * n) cs (omega arith) in
    let c : length r ≡ 3 = length-corners_in (take (width * n) cs) ∙ (omega arith) in
    every_append is_triangle (pieces r) (each pieces (rings s (drop (width * n) cs)))
    ∙ and_both (every is_triangle (pieces r)) (every is_triangle (each pieces (rings s (drop (width * n) cs))))
    (triangle_triangles r c)
    (triangle_rings s (drop (width * n) cs) (and_right (eqb 3 n) (every (eqb 3) s) e) (rw (length-drop (width * n) cs) (omega arith)))

module _ (cs s : List ℕ) (k : ℕ) (y : Fit cs s) (t : Triangles s k) where
  pub removed_split : removed (rings s cs) ≡ each pieces (rings (take k s) (take (width * 3 * k) cs)) ++ removed (rings (drop k s) (drop (width * 3 * k) cs))
  unfolding removed
  removed_split =
      let a = rings (take k s) (take (width * 3 * k) cs) in
      let b = rings (drop k s) (drop (width * 3 * k) cs) in
      ap (λ (fs : List Ring). pushed (each pieces fs)) (faces_split cs s k y t)
      ∙ ap pushed (each_append pieces a b)
      ∙ pushed_behind (each pieces a) (each pieces b) (triangle_rings (take k s) (take (width * 3 * k) cs) t.first (le_of_eq (fit_front cs s k y t).sound.adds))

-- the numbers of the triangles stand in front, and the others count on
pub origins_split : (cs s : List ℕ) (k : ℕ) → Fit cs s → Triangles s k
    → origins_of (rings s cs) ≡ numbered 0 (rings (take k s) (take (width * 3 * k) cs)) ++ origins_from k (rings (drop k s) (drop (width * 3 * k) cs))
unfolding origins_of origins_from
origins_split cs s k y t =
    let a = rings (take k s) (take (width * 3 * k) cs) in
    let b = rings (drop k s) (drop (width * 3 * k) cs) in
    let n : length a ≡ k = length_rings (take k s) (take (width * 3 * k) cs) ∙ count cs s k y t in
    let three = triangle_rings (take k s) (take (width * 3 * k) cs) t.first (le_of_eq (fit_front cs s k y t).sound.adds) in
    ap (λ (fs : List Ring). pushed_beside (each pieces fs) (numbered 0 fs)) (faces_split cs s k y t)
    ∙ ap₂ pushed_beside (each_append pieces a b) (numbered_append 0 a b)
    ∙ tags_behind (each pieces a) (each pieces b) (numbered 0 a) (numbered (0 + length a) b) three (numbered_count 0 a)
    ∙ ap (λ (j : ℕ). numbered 0 a ++ pushed_beside (each pieces b) (numbered j b)) (zero-add (length a) ∙ n)

-- of no faces nothing is left
pub removed_none : removed [] ≡ []
unfolding removed pushed
removed_none = refl

pub none_left : (k : ℕ) (cs : List ℕ) → origins_from k (rings [] cs) ≡ []
unfolding origins_from pushed_beside numbered
none_left k cs = refl
