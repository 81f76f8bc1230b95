-- Kind 6 by its bytes: where a corner's four numbers stand, and which records are refused or taken by their marks. Assumes nothing.
use Rattle.std.specs.Prelude.{ℕ, ◌+◌, ◌*◌, ◌≤◌, ◌<◌, ◌≡◌, true, List, [], ◌∷◌, get_or}
use Rattle.little.specs.Little.{half, word}
use Rattle.records.specs.declared.Record.TheVariants.{Face, Refused}
use Rattle.records.specs.Records.{ring_from, record_from}
use Rattle.records.specs.Promises.{Whole}

-- corner k of a face whose corners begin at a: sixteen bytes each, the mark the last four of them
abbrev pub CornerIn6 : Type 0
CornerIn6 =
    (s : List ℕ) (n a k : ℕ) → k < n
    → get_or (ring_from true s n a) k []
    ≡ word s (a + 16 * k) ∷ word s (a + 16 * k + 4) ∷ word s (a + 16 * k + 8) ∷ word s (a + 16 * k + 12) ∷ []

-- every mark is 0: 12; some mark is not 0: taken, from 3 corners to 300, and over 300 gives 3
abbrev pub BareBytes : Type 0
BareBytes =
    (s : List ℕ) (at n : ℕ) → Whole s at (2 + 16 * n) 6 → half s (at + 4) ≡ n
    → ((k : ℕ) → k < n → word s (at + 6 + 16 * k + 12) ≡ 0)
    → record_from s at ≡ Refused 12

abbrev pub TakenBytes : Type 0
TakenBytes =
    (s : List ℕ) (at n k : ℕ) → Whole s at (2 + 16 * n) 6 → half s (at + 4) ≡ n
    → k < n → (word s (at + 6 + 16 * k + 12) ≡ 0 → ⊥)
    → 3 ≤ n → n ≤ 300 → record_from s at ≡ Face (at + 6) n true

abbrev pub ManyBytes : Type 0
ManyBytes =
    (s : List ℕ) (at n k : ℕ) → Whole s at (2 + 16 * n) 6 → half s (at + 4) ≡ n
    → k < n → (word s (at + 6 + 16 * k + 12) ≡ 0 → ⊥)
    → 300 < n → record_from s at ≡ Refused 3
