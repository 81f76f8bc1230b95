-- Which number each face record of the wrong size gets, by the numbers that document 02 names (CR 6 and CR 11). Proved in proofs/. Assumes
-- nothing.
use Rattle.std.specs.Prelude.{ℕ, ◌+◌, ◌*◌, ◌-◌, ◌≤◌, ◌<◌, ◌≡◌, true, false, List, length}
use Rattle.little.specs.Little.{byte, half}
use Rattle.records.specs.declared.Record.TheVariants.{Face, Refused}
use Rattle.records.specs.Records.{ring_from, any_mark, record_from}

-- a whole header stands at a place, and says n bytes and a kind; and the file has these bytes
pub record Header (s : List ℕ) (at n kind : ℕ) : Type 0 where
  pub whole : 4 ≤ length s - at
  pub bytes : half s at ≡ n
  pub kinded : half s (at + 2) ≡ kind

pub record Whole (s : List ℕ) (at n kind : ℕ) : Type 0 where
  pub header : Header s at n kind
  pub body : n ≤ length s - (at + 4)

-- a kind over 6 gives 12
abbrev pub KindOver6 : Type 0
KindOver6 = (s : List ℕ) (at n k : ℕ) → Header s at n k → 6 < k → record_from s at ≡ Refused 12

-- kind 5 whose length says below 33 corners gives 12, and so does kind 6 whose length says below 3
abbrev pub FewIn5 : Type 0
FewIn5 = (s : List ℕ) (at n : ℕ) → Header s at (2 + 12 * n) 5 → n < 33 → record_from s at ≡ Refused 12

abbrev pub FewIn6 : Type 0
FewIn6 = (s : List ℕ) (at n : ℕ) → Header s at (2 + 16 * n) 6 → n < 3 → record_from s at ≡ Refused 12

-- kind 4 with n over 32 gives 3, and kinds 5 and 6 with n over 300
abbrev pub ManyIn4 : Type 0
ManyIn4 = (s : List ℕ) (at n : ℕ) → Whole s at (1 + 12 * n) 4 → byte s (at + 4) ≡ n → n ≤ 255 → 32 < n → record_from s at ≡ Refused 3

abbrev pub ManyIn5 : Type 0
ManyIn5 = (s : List ℕ) (at n : ℕ) → Whole s at (2 + 12 * n) 5 → half s (at + 4) ≡ n → 300 < n → record_from s at ≡ Refused 3

abbrev pub ManyIn6 : Type 0
ManyIn6 =
    (s : List ℕ) (at n : ℕ) → Whole s at (2 + 16 * n) 6 → half s (at + 4) ≡ n → any_mark (ring_from true s n (at + 6)) ≡ true → 300 < n
    → record_from s at ≡ Refused 3

-- kind 6 with all marks 0 gives 12, also where n is over 300; with a mark it is taken, from 3 corners to 300
abbrev pub BareIn6 : Type 0
BareIn6 =
    (s : List ℕ) (at n : ℕ) → Whole s at (2 + 16 * n) 6 → half s (at + 4) ≡ n → any_mark (ring_from true s n (at + 6)) ≡ false
    → record_from s at ≡ Refused 12

abbrev pub TakenIn6 : Type 0
TakenIn6 =
    (s : List ℕ) (at n : ℕ) → Whole s at (2 + 16 * n) 6 → half s (at + 4) ≡ n → any_mark (ring_from true s n (at + 6)) ≡ true
    → 3 ≤ n → n ≤ 300 → record_from s at ≡ Face (at + 6) n true
