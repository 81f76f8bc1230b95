-- A scan that is too long to be accepted is refused by its length, and its beginning by the same number. Assumes nothing.
use mathlib.Core.Path.{◌≡◌, refl, sym, ap, ◌∙◌}
use mathlib.Core.List.{List, [], ◌∷◌}
use Prim.Native.Nat.{ℕ, suc, ◌+◌, ◌*◌, ◌≤◌, ◌<◌}
use native.Mathlib.Omega.{arith}
use lib.Dec.{ltb}
use lib.ListN.{length, take}
use lib.Seq.{get_or-take, length-take-le}
use borrow.Author.Tests.{ltb-true, ltb-false}
use Rattle.lists.proofs.Bools.{by_cases}
use Rattle.mesh.specs.Limits.{face_limit}
use Rattle.mesh.specs.Table.{first_of, short}
use Rattle.little.specs.Little.{byte, half, word}
use Rattle.lines.specs.Lines.{refusal}
use Rattle.scanned.specs.Scan.{front_bytes, scan_count, points_in, length_number, points_number, scan_number, scan_mesh}
use Rattle.scanned.proofs.Lengths.{count_many, length_above}
use Rattle.sheet.specs.Sheet.{printed}
use Rattle.scanning.specs.Scanning.{scan_sheet}
use Rattle.scanning.specs.Promises.{scan_limit, BeginningIsEnough}

-- the count stands in the beginning
count_stays : (n : ℕ) (s : List ℕ) → front_bytes ≤ n → scan_count (take n s) ≡ scan_count s
unfolding scan_count word half
count_stays n s h =
    let a : byte (take n s) 80 ≡ byte s 80 = get_or-take n s 80 0 (omega arith) in
    let b : byte (take n s) 81 ≡ byte s 81 = get_or-take n s 81 0 (omega arith) in
    let c : byte (take n s) 82 ≡ byte s 82 = get_or-take n s 82 0 (omega arith) in
    let d : byte (take n s) 83 ≡ byte s 83 = get_or-take n s 83 0 (omega arith) in
    λ i. a i + 256 * b i + 65536 * (c i + 256 * d i)

-- one that its length refuses prints that number alone
refused_sheet : (s : List ℕ) (k : ℕ) → suc k ≡ length_number s → scan_sheet s ≡ refusal (suc k)
unfolding scan_sheet scan_number printed short
refused_sheet s k e =
    ap (λ (n : ℕ). printed (first_of (0 ∷ n ∷ points_number (points_in s) ∷ [])) (scan_mesh s)) (sym e)

-- what a file earns that is longer than any that can be accepted
long_many : (s : List ℕ) → scan_limit < length s → face_limit < scan_count s → 1 ≡ length_number s
long_many s h l = count_many s (omega arith) (scan_count s) refl l

long_few : (s : List ℕ) → scan_limit < length s → scan_count s ≤ face_limit → 13 ≡ length_number s
long_few s h l = length_above s (omega arith) (scan_count s) refl l (omega arith) (omega arith)

pub beginning_is_enough : BeginningIsEnough
beginning_is_enough file h = of (suc scan_limit) (omega arith) (omega arith)
  where
    of : (n : ℕ) → scan_limit < n → n ≤ length file → scan_sheet (take n file) ≡ scan_sheet file
    of n l g =
        let t : length (take n file) ≡ n = length-take-le n file g in
        let q : scan_count (take n file) ≡ scan_count file = count_stays n file (omega arith) in
        by_cases (ltb face_limit (scan_count file))
        (λ e.
        let m : face_limit < scan_count file = ltb-true face_limit (scan_count file) e in
        refused_sheet (take n file) 0 (long_many (take n file) (omega arith) (omega arith)) ∙ sym (refused_sheet file 0 (long_many file h m)))
        (λ e.
        let m : scan_count file ≤ face_limit = ltb-false face_limit (scan_count file) e in
        refused_sheet (take n file) 12 (long_few (take n file) (omega arith) (omega arith)) ∙ sym (refused_sheet file 12 (long_few file h m)))
