-- The points of a flat list, one at a time: their box, and the scaled list as it grows. Assumes nothing.
use mathlib.Core.Path.{◌≡◌, refl, sym, ap, ◌∙◌}
use mathlib.Core.List.{List, [], ◌∷◌, ◌++◌, map, append-nil}
use Prim.Native.Nat.{ℕ, zero, suc, ◌+◌, ◌*◌, ◌/◌, ◌≤◌, ◌<◌}
use native.Mathlib.Nat.{not-suc-le-zero}
use native.Mathlib.Omega.{arith}
use native.Mathlib.Numerals.{add-one}
use lib.ListN.{length, get_or, take, drop, length-map, drop_of_length-le, get_or-map}
use lib.Seq.{sets, length-sets, drop-cons, take-suc, take_all, length-take-le}
use lib.Ieee.{Float, nan}
use Rattle.lists.specs.Lists.{each}
use Rattle.lists.proofs.Parts.{each_append}
use Rattle.lists.proofs.Writing.{sets_append}
use Rattle.floating.specs.Points.{point, coordinates, point_at, points_of, Whole}
use Rattle.floating.specs.Scaling.{scaled_of, axes3, around, box_with, box_from, box_of, centre, divisor, scaled_in, scaled_list}
use Rattle.floating.specs.declared.Point.{Point}
use Rattle.floating.specs.declared.Bounds.{Bounds}

-- ---- the points of a flat list

pub length_points : (s : List Float) → length (points_of s) ≡ length s / 3
length_points [] = refl
length_points (a ∷ []) = refl
length_points (a ∷ b ∷ []) = refl
length_points (a ∷ b ∷ c ∷ s) = let e : length (points_of s) ≡ length s / 3 = length_points s in omega arith

point_later : (a b c : Float) (s : List Float) (i : ℕ) → point_at (a ∷ b ∷ c ∷ s) (suc i) ≡ point_at s i
unfolding point_at
point_later a b c s i =
    let e : 3 * suc i ≡ suc (suc (suc (3 * i))) = omega arith in
    let f : 3 * suc i + 1 ≡ suc (suc (suc (3 * i + 1))) = omega arith in
    let g : 3 * suc i + 2 ≡ suc (suc (suc (3 * i + 2))) = omega arith in
    rw (f, g, e)

pub points_at : (d : Point) (s : List Float) (i : ℕ) → i < length s / 3 → get_or (points_of s) i d ≡ point_at s i
unfolding point_at
points_at d [] i h = absurd (not-suc-le-zero h)
points_at d (a ∷ []) i h = absurd (not-suc-le-zero h)
points_at d (a ∷ b ∷ []) i h = absurd (not-suc-le-zero h)
points_at d (a ∷ b ∷ c ∷ s) zero h = refl
points_at d (a ∷ b ∷ c ∷ s) (suc i) h =
    let l : suc i < suc (suc (suc (length s))) / 3 = h in
    points_at d s i (omega arith) ∙ sym (point_later a b c s i)

-- a point of a whole list lies in it
pub point_in : (s : List Float) (i : ℕ) → i < length s / 3 → 3 * i + 3 ≤ length s
point_in s i h = omega arith

nowhere : Point
nowhere = point nan nan nan

-- ---- the box, where the first i points are in b already

pub record Boxing (s : List Float) (b : Bounds) (i : ℕ) : Type 0 where
  pub within : i ≤ length s / 3
  pub rest : box_from b (drop i (points_of s)) ≡ box_of (points_of s)

module _ (s : List Float) where
  abbrev points : List Point
  points = points_of s

  next_point : (i : ℕ) → i < length s / 3 → drop i points ≡ point_at s i ∷ drop (i + 1) points
  next_point i h =
      drop-cons points i nowhere (let e : length points ≡ length s / 3 = length_points s in omega arith)
      ∙ rw (add-one i, points_at nowhere s i h)

  pub box_begins : Whole s → Boxing s (around (point_at s 0)) 1
  unfolding box_of
  box_begins w =
      let h : 0 < length s / 3 = omega (arith, w.some) in
      record { within = h; rest = sym (ap box_of (next_point 0 h)) }

  pub box_turns : (b : Bounds) (i : ℕ) → i < length s / 3 → Boxing s b i → Boxing s (box_with b (point_at s i)) (i + 1)
  box_turns b i h g = record { within = omega arith; rest = sym (ap (box_from b) (next_point i h)) ∙ g.rest }

  pub box_ends : (b : Bounds) (i : ℕ) → length s / 3 ≤ i → Boxing s b i → b ≡ box_of points
  box_ends b i h g =
      sym (ap (box_from b) (drop_of_length-le points {i = i} (let e : length points ≡ length s / 3 = length_points s in omega arith)))
      ∙ g.rest

-- ---- the scaled list, of which the first i points are written

pub length_coordinates : (ps : List Point) → length (each coordinates ps) ≡ 3 * length ps
length_coordinates [] = refl
length_coordinates (p ∷ ps) = let e : length (each coordinates ps) ≡ 3 * length ps = length_coordinates ps in omega arith

pub record Scaling (s l l' : List Float) (i : ℕ) : Type 0 where
  pub within : i ≤ length s / 3
  pub written : l' ≡ sets l 0 (each coordinates (take i (map (scaled_in (box_of (points_of s))) (points_of s))))
  pub long : length l' ≡ length l

module _ (s : List Float) where
  abbrev scaled_points : List Point
  scaled_points = map (scaled_in (box_of (points_of s))) (points_of s)

  count : length scaled_points ≡ length s / 3
  count = length-map (points_of s) (scaled_in (box_of (points_of s))) ∙ length_points s

  one_more : (l : List Float) (i : ℕ) → i < length s / 3
      → sets (sets l 0 (each coordinates (take i scaled_points))) (3 * i) (coordinates (scaled_in (box_of (points_of s)) (point_at s i))) ≡ sets l 0 (each coordinates (take (i + 1) scaled_points))
  one_more l i h =
      let f = scaled_in (box_of (points_of s)) in
      let n : i ≤ length scaled_points = omega (arith, count) in
      let m : i < length scaled_points = omega (arith, count) in
      let k : 3 * i ≡ 0 + length (each coordinates (take i scaled_points)) = omega (arith, length_coordinates (take i scaled_points), length-take-le i scaled_points n) in
      let e : get_or scaled_points i (f nowhere) ≡ f (point_at s i) = get_or-map f (points_of s) i nowhere ∙ ap f (points_at nowhere s i h) in
      let t : take (i + 1) scaled_points ≡ take i scaled_points ++ (f (point_at s i) ∷ []) = rw (add-one i, take-suc scaled_points i (f nowhere) m, e) in
      let done = each coordinates (take i scaled_points) in
      let new = coordinates (f (point_at s i)) in
      ap (λ (j : ℕ). sets (sets l 0 done) j new) k
      ∙ sym (sets_append l 0 done new)
      ∙ ap (sets l 0)
      (sym (ap (each coordinates) t ∙ each_append coordinates (take i scaled_points) (f (point_at s i) ∷ []) ∙ ap (λ (x : List Float). done ++ x) (append-nil new)))

  pub scaled_is : (b : Bounds) (i : ℕ) (p c d q : Point) → q ≡ axes3 scaled_of p c d → p ≡ point_at s i → c ≡ centre b → d ≡ divisor b → q ≡ scaled_in b (point_at s i)
  scaled_is b i p c d q e f g h = e ∙ ap (λ (x : Point). axes3 scaled_of x c d) f ∙ ap (λ (x : Point). axes3 scaled_of (point_at s i) x d) g ∙ ap (axes3 scaled_of (point_at s i) (centre b)) h

  pub scaling_turns :
      (l l' : List Float) (i : ℕ) (q : Point)
      → i < length s / 3
      → q ≡ scaled_in (box_of (points_of s)) (point_at s i)
      → Scaling s l l' i
      → Scaling s l (sets l' (3 * i) (coordinates q)) (i + 1)
  scaling_turns l l' i q h e g = record {
    within = omega arith;
    written = rw (g.written, e) (one_more l i h);
    long = length-sets l' (3 * i) (coordinates q) ∙ g.long;
  }

  pub scaling_ends : (l l' : List Float) (i : ℕ) → length s / 3 ≤ i → Scaling s l l' i → l' ≡ sets l 0 (scaled_list s)
  unfolding scaled_list
  scaling_ends l l' i h g = g.written ∙ ap (λ (ps : List Point). sets l 0 (each coordinates ps)) (take_all i scaled_points (omega (arith, count)))
