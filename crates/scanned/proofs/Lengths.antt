-- What the length of a file earns, row by row. Assumes nothing.
use mathlib.Core.Path.{◌≡◌, ◌∙◌}
use mathlib.Core.List.{List, [], ◌∷◌}
use Prim.Native.Nat.{ℕ, ◌≤◌, ◌<◌}
use native.Mathlib.Omega.{arith}
use lib.Dec.{ltb}
use lib.ListN.{length}
use borrow.Author.Tests.{lt-ltb, le-ltb, ltb-false}
use Rattle.mesh.specs.Limits.{face_limit}
use Rattle.mesh.specs.Table.{when, first_of}
use Rattle.mesh.proofs.Numbers.{first_head, first_tail, when_not}
use Rattle.little.specs.Little.{word}
use Rattle.scanned.specs.Scan.{header_bytes, front_bytes, scan_count, scan_length, length_number}

module _ (s : List ℕ) where
  pub count_is : (n m : ℕ) → n ≡ m → m ≡ word s header_bytes → n ≡ scan_count s
  unfolding scan_count
  count_is n m e f = e ∙ f

  pub length_few : length s < front_bytes → 11 ≡ length_number s
  unfolding length_number
  length_few h = rw (lt-ltb (length s) front_bytes h)

  module _ (h : front_bytes ≤ length s) where
    pub count_many : (n : ℕ) → n ≡ scan_count s → face_limit < n → 1 ≡ length_number s
    unfolding length_number
    count_many n e l = rw (le-ltb (length s) front_bytes h, lt-ltb face_limit (scan_count s) (omega arith))

    module _ (n : ℕ) (e : n ≡ scan_count s) (f : n ≤ face_limit) where
      pub length_below : length s < scan_length n → 11 ≡ length_number s
      unfolding length_number
      length_below l =
          rw (le-ltb (length s) front_bytes h, le-ltb face_limit (scan_count s) (omega arith), lt-ltb (length s) (scan_length (scan_count s)) (omega arith))

      pub length_above : scan_length n ≤ length s → scan_length n < length s → 13 ≡ length_number s
      unfolding length_number
      length_above g l =
          rw (
            le-ltb (length s) front_bytes h,
            le-ltb face_limit (scan_count s) (omega arith),
            le-ltb (length s) (scan_length (scan_count s)) (omega arith),
            lt-ltb (scan_length (scan_count s)) (length s) (omega arith),
          )

      pub length_right : scan_length n ≤ length s → length s ≤ scan_length n → 0 ≡ length_number s
      unfolding length_number
      length_right g l =
          rw (
            le-ltb (length s) front_bytes h,
            le-ltb face_limit (scan_count s) (omega arith),
            le-ltb (length s) (scan_length (scan_count s)) (omega arith),
            le-ltb (scan_length (scan_count s)) (length s) (omega arith),
          )

-- what a number 0 says
pub record Right (s : List ℕ) : Type 0 where
  pub few : scan_count s ≤ face_limit
  pub long : length s ≡ scan_length (scan_count s)

pub right : (s : List ℕ) → length_number s ≡ 0 → Right s
unfolding length_number
right s e =
    let a = ltb (length s) front_bytes in
    let b = ltb face_limit (scan_count s) in
    let c = ltb (length s) (scan_length (scan_count s)) in
    let d = ltb (scan_length (scan_count s)) (length s) in
    let e1 : first_of (when b 1 ∷ when c 11 ∷ when d 13 ∷ []) ≡ 0 = first_tail (when a 11) (when b 1 ∷ when c 11 ∷ when d 13 ∷ []) e in
    let e2 : first_of (when c 11 ∷ when d 13 ∷ []) ≡ 0 = first_tail (when b 1) (when c 11 ∷ when d 13 ∷ []) e1 in
    let e3 : first_of (when d 13 ∷ []) ≡ 0 = first_tail (when c 11) (when d 13 ∷ []) e2 in
    let f : scan_count s ≤ face_limit = ltb-false face_limit (scan_count s) (when_not b 0 (first_head (when b 1) (when c 11 ∷ when d 13 ∷ []) e1)) in
    let g : scan_length (scan_count s) ≤ length s = ltb-false (length s) (scan_length (scan_count s)) (when_not c 10 (first_head (when c 11) (when d 13 ∷ []) e2)) in
    let h : length s ≤ scan_length (scan_count s) = ltb-false (scan_length (scan_count s)) (length s) (when_not d 12 (first_head (when d 13) [] e3)) in
    record { few = f; long = omega arith }
