-- Lists of one length, one behind the other: how long they are, and what stands where. Assumes nothing.
use mathlib.Core.Path.{◌≡◌, refl, ap, ◌∙◌}
use mathlib.Core.List.{List, [], ◌∷◌, ◌++◌}
use Prim.Native.Nat.{ℕ, zero, suc, ◌+◌, ◌*◌, ◌<◌}
use native.Mathlib.Nat.{not-suc-le-zero, le_of_suc-le-suc}
use native.Mathlib.Omega.{arith}
use lib.ListN.{length, get_or, take, drop, length-append, get_or-append}
use lib.Seq.{take_at, drop-append-add, get_or-append-add}
use Rattle.lists.specs.Lists.{each}
use Rattle.mesh.specs.Limits.{point_width, width}
use Rattle.scanned.specs.Scan.{bits_of, coordinates_of, bare}

module _ {A B : Type 0} (f : A → List B) (w : ℕ) (long : (x : A) → length (f x) ≡ w) where
  pub length_pieces : (l : List A) → length (each f l) ≡ w * length l
  length_pieces [] = omega arith
  length_pieces (x ∷ l) =
      let e : length (each f l) ≡ w * length l = length_pieces l in
      let n : length (f x ++ each f l) ≡ length (f x) + length (each f l) = length-append (f x) (each f l) in
      let k : length (f x) ≡ w = long x in
      omega arith

  -- number j of list k
  pub pieces_at :
      (e : A) (d : B) (l : List A) (k j : ℕ) → k < length l → j < w → get_or (each f l) (w * k + j) d ≡ get_or (f (get_or l k e)) j d
  pieces_at e d [] k j h i = absurd (not-suc-le-zero h)
  pieces_at e d (x ∷ l) zero j h i =
      let z : w * 0 + j ≡ j = omega arith in
      ap (λ (n : ℕ). get_or (f x ++ each f l) n d) z ∙ get_or-append (f x) (each f l) d j (omega (arith, long x))
  pieces_at e d (x ∷ l) (suc k) j h i =
      let z : w * suc k + j ≡ length (f x) + (w * k + j) = omega (arith, long x) in
      ap (λ (n : ℕ). get_or (f x ++ each f l) n d) z
      ∙ get_or-append-add (f x) (each f l) (w * k + j) d
      ∙ pieces_at e d l k j (le_of_suc-le-suc h) i

  -- list k
  pub piece_at : (e : A) (l : List A) (k : ℕ) → k < length l → take w (drop (w * k) (each f l)) ≡ f (get_or l k e)
  piece_at e [] k h = absurd (not-suc-le-zero h)
  piece_at e (x ∷ l) zero h =
      let z : w * 0 ≡ 0 = omega arith in
      ap (λ (n : ℕ). take w (drop n (f x ++ each f l))) z ∙ take_at (f x) (each f l) w (long x)
  piece_at e (x ∷ l) (suc k) h =
      let z : w * suc k ≡ length (f x) + w * k = omega (arith, long x) in
      ap (λ (n : ℕ). take w (drop n (f x ++ each f l))) z
      ∙ ap (take w) (drop-append-add (f x) (each f l) (w * k))
      ∙ piece_at e l k (le_of_suc-le-suc h)

pub length_coordinates : (p : ℕ) → length (coordinates_of p) ≡ point_width
unfolding coordinates_of bits_of
length_coordinates p = refl

pub length_positions : (us : List ℕ) → length (each coordinates_of us) ≡ point_width * length us
length_positions us = length_pieces coordinates_of point_width length_coordinates us

pub length_bare : (ns : List ℕ) → length (each bare ns) ≡ width * length ns
length_bare ns = length_pieces bare width (λ n. refl) ns
