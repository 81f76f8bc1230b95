-- The search over a row of places, each with a key, as the code has it: over the keys of the places it is the search over their
-- list of keys. Assumes nothing.
use mathlib.Core.Path.{◌≡◌, sym, ap, ap₂, ◌∙◌}
use mathlib.Core.Bool.{Bool, true, false}
use mathlib.Core.List.{List, map}
use Prim.Native.Nat.{ℕ, ◌+◌, ◌-◌, ◌≤◌, ◌<◌}
use native.Mathlib.Nat.{sub-zero}
use native.Mathlib.Omega.{arith}
use lib.ListN.{length, get_or, length-map}
use lib.Dec.{ltb, eqb}
use borrow.Author.Tests.{lt-ltb, le-ltb, eq-eqb, ne_eqb}
use Rattle.lists.specs.Numbers.{seek}
use Rattle.lists.proofs.Changing.{map_at, seek_same}
use Rattle.splitting.specs.Splitting.{mate_of, first_mated}

module _ (key : ℕ → ℕ) (row : List ℕ) where
  -- whether the places at i and j have equal keys
  abbrev pub same : ℕ → ℕ → Bool
  same i j = eqb (key (get_or row i 0)) (key (get_or row j 0))

  pub mate_sought : (i : ℕ) → i < length row → seek (same i) (length row - (i + 1)) (i + 1) ≡ mate_of (map key row) i
  unfolding mate_of
  mate_sought i h =
      let n : length (map key row) ≡ length row = length-map row key in
      seek_same (same i) (λ j. eqb (get_or (map key row) i 0) (get_or (map key row) j 0)) (length row - (i + 1)) (i + 1)
      (λ j a b. sym (ap₂ eqb (map_at key 0 0 row i h) (map_at key 0 0 row j (let b' : j < (i + 1) + (length row - (i + 1)) = b in omega arith))))
      ∙ ap (λ (m : ℕ). seek (λ j. eqb (get_or (map key row) i 0) (get_or (map key row) j 0)) (m - (i + 1)) (i + 1)) (sym n)

  pub first_sought : seek (λ i. ltb (mate_of (map key row) i) (length row)) (length row - 0) 0 ≡ first_mated (map key row)
  unfolding first_mated
  first_sought =
      let n : length (map key row) ≡ length row = length-map row key in
      ap (λ (m : ℕ). seek (λ i. ltb (mate_of (map key row) i) m) (m - 0) 0) (sym n)
      ∙ ap (λ (c : ℕ). seek (λ i. ltb (mate_of (map key row) i) (length (map key row))) c 0) (sub-zero (length (map key row)))

-- a mate that was found, or not
pub mate_found : (m q n : ℕ) → m ≡ q → m < n → ltb q n ≡ true
mate_found m q n e h = lt-ltb q n (omega arith)

pub mate_missing : (q n : ℕ) → n ≤ q → ltb q n ≡ false
mate_missing q n h = le-ltb q n h

-- two positions that were read, and are equal or not
pub keys_equal : (x y a b : ℕ) → x ≡ a → y ≡ b → x ≡ y → eqb a b ≡ true
keys_equal x y a b e f g = eq-eqb a b (sym e ∙ g ∙ f)

pub keys_unequal : (x y a b : ℕ) → x ≡ a → y ≡ b → (x ≡ y → ⊥) → eqb a b ≡ false
keys_unequal x y a b e f g = ne_eqb a b (λ z. g (e ∙ z ∙ sym f))
