-- Digits, numbers and lines that are put one behind the other. Assumes nothing.
use mathlib.Core.Path.{◌≡◌, refl, ap}
use mathlib.Core.List.{List, [], ◌∷◌, ◌++◌, map}
use Prim.Native.Nat.{ℕ, ◌+◌, ◌/◌, ◌%◌, ◌≤◌, ◌<◌}
use native.Mathlib.Omega.{arith}
use lib.ListN.{length, set}
use Rattle.lists.specs.Lists.{each}
use Rattle.lists.specs.Putting.{Room, Written}
use Rattle.lists.proofs.Listing.{written_one, written_then, room_first, room_then}
use Rattle.text.specs.Text.{digit_byte, decimal, spaced}
use Rattle.text.proofs.Decimals.{decimal_small, decimal_more}

-- a number below ten is one digit
pub room_digit : (n : ℕ) (o : List ℕ) (at : ℕ) → n < 10 → Room (decimal n) o at → at < length o
room_digit n o at h r = omega (arith, r.fits, ap length (decimal_small n h))

pub written_digit : (n d : ℕ) (o : List ℕ) (at : ℕ) → n < 10 → d ≡ digit_byte n → Written (decimal n) o (set o at d) at (at + 1)
written_digit n d o at h e = rw (decimal_small n h, ← e) (written_one d o at)

-- of any other the last digit stands behind those of its tenth
pub room_tenth : (n : ℕ) (o : List ℕ) (at : ℕ) → 10 ≤ n → Room (decimal n) o at → Room (decimal (n / 10)) o at
room_tenth n o at h r = room_first (decimal (n / 10)) (digit_byte (n % 10) ∷ []) o at (rw (decimal_more n h) at r)

pub room_last : (n : ℕ) (o o1 : List ℕ) (at m : ℕ) → 10 ≤ n → Room (decimal n) o at → Written (decimal (n / 10)) o o1 at m → m < length o1
room_last n o o1 at m h r w =
    let l : Room (digit_byte (n % 10) ∷ []) o1 m = room_then (decimal (n / 10)) (digit_byte (n % 10) ∷ []) o o1 at m (rw (decimal_more n h) at r) w in
    omega (arith, l.fits)

pub written_last :
    (n d : ℕ) (o o1 : List ℕ) (at m : ℕ) → 10 ≤ n → d ≡ digit_byte (n % 10) → Written (decimal (n / 10)) o o1 at m
    → Written (decimal n) o (set o1 m d) at (m + 1)
written_last n d o o1 at m h e w =
    rw (decimal_more n h, ← e) (written_then (decimal (n / 10)) (d ∷ []) o o1 (set o1 m d) at m (m + 1) w (written_one d o1 m))

-- numbers, each behind a space
abbrev pub number_text : ℕ → List ℕ
number_text n = 32 ∷ decimal n

pub spaced_numbers : (ns : List ℕ) → spaced (map decimal ns) ≡ each number_text ns
spaced_numbers [] = refl
spaced_numbers (n ∷ ns) = ap (λ (l : List ℕ). number_text n ++ l) (spaced_numbers ns)

pub written_line :
    (a b o o1 o2 : List ℕ) (at m next : ℕ) → Written a o o1 at m → Written b o1 o2 m next
    → Written (a ++ b ++ 10 ∷ []) o (set o2 next 10) at (next + 1)
written_line a b o o1 o2 at m next v w =
    written_then (a ++ b) (10 ∷ []) o o2 (set o2 next 10) at next (next + 1) (written_then a b o o1 o2 at m next v w) (written_one 10 o2 next)
