-- Points that are finite, once they are numbered: too many of them, or their mesh. Assumes nothing.
use mathlib.Core.Path.{◌≡◌, sym, ap, ◌∙◌, subst}
use mathlib.Core.Bool.{true, false}
use mathlib.Core.List.{List}
use Prim.Native.Nat.{ℕ, ◌*◌, ◌-◌, ◌/◌, ◌≤◌, ◌<◌}
use native.Mathlib.Nat.{sub-zero}
use native.Mathlib.Omega.{arith}
use lib.ListN.{length, take, replicate}
use lib.Seq.{sets}
use lib.Ieee.{Float}
use Rattle.lists.specs.Lists.{some, each}
use Rattle.lists.proofs.Buckets.{length_front}
use Rattle.mesh.specs.Limits.{least_ring, entry_limit, corner_limit}
use Rattle.mesh.specs.Table.{short}
use Rattle.reading.specs.declared.MeshRead.{MeshRead}
use Rattle.reading.specs.Reading.{full_room}
use Rattle.reading.specs.Answer.{refused_with}
use Rattle.reading.proofs.Ending.{not_short}
use Rattle.little.specs.Little.{word}
use Rattle.scanned.specs.Scan.{header_bytes, scan_count, point_at, points_in, coordinates_of, not_finite, bare, length_number}
use Rattle.matching.specs.Steps.{ScanRows}
use Rattle.scanned.specs.Seen.{upto, seen}
use Rattle.scanned.proofs.Lengths.{count_is, right}
use Rattle.scanned.proofs.Numbers.{number_14, number_1}
use Rattle.appearing.specs.Appearing.{Numbered}
use Rattle.scanfile.specs.Steps.{PointsRoom, NumbersRoom, PointsRead}
use Rattle.scanfile.proofs.Lengths.{points_inside}
use Rattle.scanfile.proofs.Answers.{points_refused, points_read, points_in_lem}

module _ (file numbers : List ℕ) (p : List Float) (c s : List ℕ) (r : NumbersRoom file numbers p c s) (numbers' : List ℕ) (found : ℕ)
    (n : Numbered (point_at file) (length numbers) numbers' found) where
  pub too_many : entry_limit < found → (a : MeshRead) → a ≡ refused_with 1 → PointsRead (upto (point_at file) (length numbers)) p c s p c s a
  too_many l a e =
      points_refused (upto (point_at file) (length numbers)) p c s 1 (λ z. omega arith)
      (number_1 (upto (point_at file) (length numbers)) r.finite (omega (arith, n.count))) a e

  again : Numbered (point_at file) (length numbers') numbers' found
  again = subst (λ (u : ℕ). Numbered (point_at file) u numbers' found) (sym n.long) n

  pub all_read :
      found ≤ entry_limit → (p' : List Float) (c' s' : List ℕ)
      → p' ≡ sets p 0 (each coordinates_of (seen (point_at file) (length numbers')))
      → c' ≡ sets c 0 (each bare numbers')
      → s' ≡ sets s 0 (replicate (length numbers' / least_ring - 0) least_ring)
      → PointsRead (upto (point_at file) (length numbers)) p c s p' c' s'
      (record { number = 0; positions = found; textures = 0; normals = 0; corners = length numbers'; faces = length numbers' / least_ring })
  all_read l p' c' s' ep ec es =
      let f : some not_finite (upto (point_at file) (length numbers')) ≡ false =
      ap (λ (u : ℕ). some not_finite (upto (point_at file) u)) n.long ∙ r.finite in
      subst
      (λ (u : ℕ). PointsRead (upto (point_at file) u) p c s p' c' s'
      (record { number = 0; positions = found; textures = 0; normals = 0; corners = length numbers'; faces = length numbers' / least_ring }))
      n.long
      (points_read (point_at file) (length numbers') numbers' found again p c s f l p' c' s' ep ec
      (es ∙ ap (λ (k : ℕ). sets s 0 (replicate k least_ring)) (sub-zero (length numbers' / least_ring))))

-- ---- a file as long as its count asks

pub points_of : (file : List ℕ) (n m : ℕ) → n ≡ m → m ≡ word file header_bytes → least_ring * n ≡ least_ring * scan_count file
points_of file n m e f = ap (λ (k : ℕ). least_ring * k) (count_is file n m e f)

module _ (file : List ℕ) (p : List Float) (c s : List ℕ) (r : PointsRoom file p c s) (u : ℕ) (e : u ≡ least_ring * scan_count file) where
  pub rows_ready : ScanRows file u
  rows_ready = points_inside file (scan_count file) u r.few r.long e

  pub some_endless : some not_finite (upto (point_at file) u) ≡ true → (a : MeshRead) → a ≡ refused_with 14 → PointsRead (points_in file) p c s p c s a
  some_endless f a g =
      points_refused (points_in file) p c s 14 (λ z. omega arith)
      (number_14 (points_in file) (ap (some not_finite) (sym (points_in_lem file u e)) ∙ f)) a g

  pub row_long : length (take {A = ℕ} u (replicate corner_limit 0)) ≡ u
  row_long = length_front 0 u corner_limit rows_ready.few

  abbrev row : List ℕ
  row = take u (replicate corner_limit 0)

  pub numbers_room : some not_finite (upto (point_at file) u) ≡ false → NumbersRoom file row p c s
  numbers_room f = record {
    rows = subst (ScanRows file) (sym row_long) rows_ready;
    few = omega (arith, row_long, r.few);
    finite = ap (λ (v : ℕ). some not_finite (upto (point_at file) v)) row_long ∙ f;
    roomy = r.roomy;
  }

  pub points_done :
      (p' : List Float) (c' s' : List ℕ) (a : MeshRead) → PointsRead (upto (point_at file) (length row)) p c s p' c' s' a
      → PointsRead (points_in file) p c s p' c' s' a
  points_done p' c' s' a h =
      subst (λ (ps : List ℕ). PointsRead ps p c s p' c' s' a) (ap (upto (point_at file)) row_long ∙ points_in_lem file u e) h

-- room that is not too short, and a length that is right
pub room_of :
    (file : List ℕ) (p t n : List Float) (c s : List ℕ) → short (full_room (length p) (length t) (length n) (length c) (length s)) ≡ false
    → 0 ≡ length_number file → PointsRoom file p c s
room_of file p t n c s e f =
    let full = not_short p t n c s e in
    let l = right file (sym f) in
    record { few = l.few; long = l.long; roomy = record { positions = full.positions; corners = full.corners; sizes = full.sizes } }
