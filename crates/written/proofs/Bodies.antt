-- A written body is read back, in the middle of a file: coordinates, points, and the corners of a face. Assumes nothing.
use mathlib.Core.Path.{◌≡◌, refl, sym, ap, ap₂, ◌∙◌}
use mathlib.Core.Bool.{Bool, true, false}
use mathlib.Core.List.{List, [], ◌∷◌, ◌++◌, append_assoc}
use Prim.Native.Nat.{ℕ, suc, ◌+◌, ◌≤◌, ◌<◌}
use native.Mathlib.Nat.{mod-eq_of_lt}
use native.Mathlib.Omega.{arith}
use lib.ListN.{length, drop}
use lib.Dec.{T, eqb}
use lib.Ieee.{Float, binary64, fits, to_bits, of_bits}
use lib.Ieee.Bits.{of_bits-to_bits, to_bits-of_bits, to_bits-lt}
use borrow.Author.Tests.{ltb-true, eqb-true, not-false}
use Rattle.lists.specs.Lists.{every, some, each}
use Rattle.lists.proofs.Bools.{and_left, and_right, or_false_left, or_false_right}
use Rattle.lists.proofs.Parts.{every_take}
use Rattle.little.specs.Little.{Bytes, half, word, long, long_values, word_bytes, long_bytes}
use Rattle.little.proofs.Written.{behind, length_word, word_written, long_written, long_again}
use Rattle.mesh.specs.Limits.{width}
use Rattle.mesh.specs.Mesh.{Corner, Ring}
use Rattle.mesh.proofs.Corners.{is_corner}
use Rattle.floating.specs.declared.Point.{Point}
use Rattle.floating.specs.declared.Texel.{Texel}
use Rattle.floating.specs.Limits.{finite}
use Rattle.floating.proofs.Finite.{no_nan}
use Rattle.floating.specs.Points.{point, texel, coordinates}
use Rattle.records.specs.Lengths.{corner_length, corner_size}
use Rattle.records.specs.Records.{coordinate, point_from, texel_from, corner_from, ring_from, has_mark}
use Rattle.written.specs.Pieces.{coordinate_bytes, corner_bytes, pair}
use Rattle.written.proofs.Lengths.{length_coordinate, length_corner}
use Rattle.written.specs.Promises.{CoordinateReopens}
use Rattle.written.specs.Said.{is_double, is_coordinate, is_word}

-- ---- one after the other

-- of the bytes of several things, those of the first stand at the place, and those of the others behind them
module _ {A : Type 0} (f : A → List ℕ) (s : List ℕ) (i : ℕ) (x : A) (xs : List A) (r : List ℕ) (h : drop i s ≡ each f (x ∷ xs) ++ r) where
  pub first_stands : drop i s ≡ f x ++ (each f xs ++ r)
  first_stands = h ∙ append_assoc (f x) (each f xs) r

  pub rest_stands : (n j : ℕ) → length (f x) ≡ n → j ≡ i + n → drop j s ≡ each f xs ++ r
  rest_stands n j e g = ap (λ (k : ℕ). drop k s) g ∙ behind s i n (f x) (each f xs ++ r) e first_stands

-- ---- coordinates

pub coordinate_back : (s : List ℕ) (i : ℕ) (x : Float) (r : List ℕ) → is_coordinate x ≡ true → drop i s ≡ coordinate_bytes x ++ r → coordinate s i ≡ x
unfolding coordinate coordinate_bytes
coordinate_back s i x r f h =
    let d : is_double x ≡ true = and_left (is_double x) (finite x) f in
    let t : T (fits binary64 x) = rw d tt in
    let l : to_bits binary64 x < 18446744073709551616 = to_bits-lt binary64 x t in
    ap (of_bits binary64) (long_written s i (to_bits binary64 x) r h ∙ mod-eq_of_lt l) ∙ of_bits-to_bits binary64 x t

-- eight bytes say a number of 64 bits; so what is read as a finite number has just these bytes
long_small : (s : List ℕ) (i : ℕ) → Bytes s → long s i < long_values
unfolding half word long
long_small s i h =
    omega (arith, h i, h (i + 1), h (i + 2), h (i + 2 + 1), h (i + 4), h (i + 4 + 1), h (i + 4 + 2), h (i + 4 + 2 + 1))

coordinate_kept :
    (s : List ℕ) (i : ℕ) → Bytes s → i + 8 ≤ length s → finite (coordinate s i) ≡ true → drop i s ≡ coordinate_bytes (coordinate s i) ++ drop (i + 8) s
unfolding coordinate coordinate_bytes
coordinate_kept s i h l f =
    let n = long s i in
    let e : to_bits binary64 (of_bits binary64 n) ≡ n = to_bits-of_bits binary64 n (long_small s i h) (no_nan (of_bits binary64 n) f) in
    long_again s i h l ∙ ap (λ (b : ℕ). long_bytes b ++ drop (i + 8) s) (sym e)

pub coordinate_reopens : CoordinateReopens
coordinate_reopens = record { written = coordinate_back; read = coordinate_kept }

module _ (s : List ℕ) (i : ℕ) (a b : Float) (cs : List Float) (r : List ℕ) (d : every is_coordinate (a ∷ b ∷ cs) ≡ true) (h : drop i s ≡ each coordinate_bytes (a ∷ b ∷ cs) ++ r) where
  first_back : coordinate s i ≡ a
  first_back = coordinate_back s i a (each coordinate_bytes (b ∷ cs) ++ r) (and_left (is_coordinate a) (every is_coordinate (b ∷ cs)) d) (first_stands coordinate_bytes s i a (b ∷ cs) r h)

  behind_first : drop (i + 8) s ≡ each coordinate_bytes (b ∷ cs) ++ r
  behind_first = rest_stands coordinate_bytes s i a (b ∷ cs) r h 8 (i + 8) (length_coordinate a) refl

  others : every is_coordinate (b ∷ cs) ≡ true
  others = and_right (is_coordinate a) (every is_coordinate (b ∷ cs)) d

  second_back : coordinate s (i + 8) ≡ b
  second_back = coordinate_back s (i + 8) b (each coordinate_bytes cs ++ r) (and_left (is_coordinate b) (every is_coordinate cs) others) (first_stands coordinate_bytes s (i + 8) b cs r behind_first)

pub texel_back : (s : List ℕ) (i : ℕ) (t : Texel) (r : List ℕ) → every is_coordinate (pair t) ≡ true → drop i s ≡ each coordinate_bytes (pair t) ++ r → texel_from s i ≡ t
unfolding texel_from
texel_back s i t r d h = ap₂ texel (first_back s i t.u t.v [] r d h) (second_back s i t.u t.v [] r d h)

pub point_back : (s : List ℕ) (i : ℕ) (p : Point) (r : List ℕ) → every is_coordinate (coordinates p) ≡ true → drop i s ≡ each coordinate_bytes (coordinates p) ++ r → point_from s i ≡ p
unfolding point_from
point_back s i p r d h =
    let x = p.x in
    let y = p.y in
    let z = p.z in
    let d' = others s i x y (z ∷ []) r d h in
    let h' = behind_first s i x y (z ∷ []) r d h in
    let e : i + 8 + 8 ≡ i + 16 = omega arith in
    let c : coordinate s (i + 16) ≡ z = ap (coordinate s) (sym e) ∙ second_back s (i + 8) y z [] r d' h' in
    ap₂ (λ (a b : Float). point a b (coordinate s (i + 16))) (first_back s i x y (z ∷ []) r d h) (second_back s i x y (z ∷ []) r d h) ∙ ap (point x y) c

-- ---- the corners of a face

word_back : (s : List ℕ) (i x : ℕ) (xs r : List ℕ) → every is_word (x ∷ xs) ≡ true → drop i s ≡ each word_bytes (x ∷ xs) ++ r → word s i ≡ x
word_back s i x xs r w h =
    word_written s i x (each word_bytes xs ++ r) (first_stands word_bytes s i x xs r h) ∙ mod-eq_of_lt (ltb-true x 4294967296 (and_left (is_word x) (every is_word xs) w))

-- the first three numbers, and what stands behind them
module _ (s : List ℕ) (i a b c : ℕ) (xs r : List ℕ) (w : every is_word (a ∷ b ∷ c ∷ xs) ≡ true) (h : drop i s ≡ each word_bytes (a ∷ b ∷ c ∷ xs) ++ r) where
  behind_two : every is_word (c ∷ xs) ≡ true
  behind_two = and_right (is_word b) (every is_word (c ∷ xs)) (and_right (is_word a) (every is_word (b ∷ c ∷ xs)) w)

  second_stands : drop (i + 4) s ≡ each word_bytes (b ∷ c ∷ xs) ++ r
  second_stands = rest_stands word_bytes s i a (b ∷ c ∷ xs) r h 4 (i + 4) (length_word a) refl

  third_stands : drop (i + 8) s ≡ each word_bytes (c ∷ xs) ++ r
  third_stands = rest_stands word_bytes s (i + 4) b (c ∷ xs) r second_stands 4 (i + 8) (length_word b) (omega arith)

  three_back : (word s i ≡ a) × ((word s (i + 4) ≡ b) × (word s (i + 8) ≡ c))
  three_back = (
    word_back s i a (b ∷ c ∷ xs) r w h,
    (word_back s (i + 4) b (c ∷ xs) r (and_right (is_word a) (every is_word (b ∷ c ∷ xs)) w) second_stands, word_back s (i + 8) c xs r behind_two third_stands),
  )

  others_stand : drop (i + corner_length) s ≡ each word_bytes xs ++ r
  others_stand = rest_stands word_bytes s (i + 8) c xs r third_stands 4 (i + corner_length) (length_word c) (omega arith)

-- a mark that is not said is 0
corner_back :
    (m : Bool) (s : List ℕ) (i : ℕ) (c : Corner) (r : List ℕ) → length c ≡ width → every is_word c ≡ true → (m ≡ false → has_mark c ≡ false)
    → drop i s ≡ corner_bytes m c ++ r → corner_from m s i ≡ c
unfolding corner_bytes
corner_back m s i [] r l w u h = absurd (let z : ◌≡◌ {A = ℕ} 0 4 = l in omega arith)
corner_back m s i (a ∷ []) r l w u h = absurd (let z : ◌≡◌ {A = ℕ} 1 4 = l in omega arith)
corner_back m s i (a ∷ b ∷ []) r l w u h = absurd (let z : ◌≡◌ {A = ℕ} 2 4 = l in omega arith)
corner_back m s i (a ∷ b ∷ c ∷ []) r l w u h = absurd (let z : ◌≡◌ {A = ℕ} 3 4 = l in omega arith)
corner_back m s i (a ∷ b ∷ c ∷ d ∷ e ∷ cs) r l w u h = absurd (let z : suc (suc (suc (suc (suc (length cs))))) ≡ 4 = l in omega arith)
corner_back true s i (a ∷ b ∷ c ∷ d ∷ []) r l w u h =
    let t = three_back s i a b c (d ∷ []) r w h in
    let v : every is_word (d ∷ []) ≡ true = and_right (is_word c) (every is_word (d ∷ [])) (behind_two s i a b c (d ∷ []) r w h) in
    let z : word s (i + corner_length) ≡ d = word_back s (i + corner_length) d [] r v (others_stand s i a b c (d ∷ []) r w h) in
    rw (t.0, t.1.0, t.1.1, z)
corner_back false s i (a ∷ b ∷ c ∷ d ∷ []) r l w u h =
    let t = three_back s i a b c [] r (every_take is_word 3 (a ∷ b ∷ c ∷ d ∷ []) w) h in
    let z : d ≡ 0 = eqb-true d 0 (not-false (eqb d 0) (u refl)) in
    rw (t.0, t.1.0, t.1.1, z)

pub ring_back :
    (m : Bool) (s : List ℕ) (i : ℕ) (f : Ring) (r : List ℕ) → every is_corner f ≡ true → every (every is_word) f ≡ true
    → (m ≡ false → some has_mark f ≡ false) → drop i s ≡ each (corner_bytes m) f ++ r
    → ring_from m s (length f) i ≡ f
ring_back m s i [] r l w u h = refl
ring_back m s i (c ∷ f) r l w u h =
    let lc = and_left (is_corner c) (every is_corner f) l in
    ap₂ (λ (x : Corner) (y : Ring). x ∷ y)
    (corner_back m s i c (each (corner_bytes m) f ++ r) (eqb-true (length c) width lc) (and_left (every is_word c) (every (every is_word) f) w)
    (λ e. or_false_left (has_mark c) (some has_mark f) (u e)) (first_stands (corner_bytes m) s i c f r h))
    (ring_back m s (i + corner_size m) f r (and_right (is_corner c) (every is_corner f) l) (and_right (every is_word c) (every (every is_word) f) w)
    (λ e. or_false_right (has_mark c) (some has_mark f) (u e))
    (rest_stands (corner_bytes m) s i c f r h (corner_size m) (i + corner_size m) (length_corner m c lc) refl))
